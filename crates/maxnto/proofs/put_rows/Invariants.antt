-- `maxnto::put_rows` meets its contract: the rows below `number` are written.
use mathlib.Core.Path.{◌≡◌}
use Rattle.dense_block.specs.Blocks.{laid, listed}
use Rattle.maxnto.specs.Formula.{x_part, z_part, phase_of}
use Rattle.maxnto.proofs.put_rows.Given as goal

abbrev pub invariant-loop-number : goal.invariant-loop-number
invariant-loop-number l =
    (l.x ≡ laid l.w (x_part l.modes) l.number l.initial.x) × (l.z ≡ laid l.w (z_part l.modes) l.number l.initial.z)
    × (l.phases ≡ listed (phase_of l.modes) l.number l.initial.phases)
