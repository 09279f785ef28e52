-- `maxnto::Row::put` meets its contract: the first k words of both parts are written.
use mathlib.Core.Path.{◌≡◌}
use Rattle.dense_block.specs.Words.{filled}
use Rattle.maxnto.specs.Formula.{x_part, z_part}
use Rattle.maxnto.proofs.Row.put.Given as goal

abbrev pub invariant-loop-k : goal.invariant-loop-k
invariant-loop-k l =
    let row = l.self in
    (l.x ≡ filled l.k (x_part row.modes row.number) l.initial.x) × (l.z ≡ filled l.k (z_part row.modes row.number) l.initial.z)
