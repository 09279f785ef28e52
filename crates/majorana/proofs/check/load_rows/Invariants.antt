-- `check::load_rows` meets its contract: the rows below r are loaded, and what is behind all of them stays.
use Prim.Native.Nat.{◌+◌, ◌*◌}
use mathlib.Core.List.{◌++◌}
use Rattle.dense_block.specs.Words.{term_of}
use Rattle.majorana.proofs.CheckLaws.{Filled}
use Rattle.majorana.proofs.check.load_rows.Given as goal

abbrev pub invariant-loop-r : goal.invariant-loop-r
invariant-loop-r l =
    Filled l.r (2 * l.rows.set.modes) (l.rows.w + l.rows.w)
    (λ k. term_of l.rows.w l.rows.set.x.now k ++ term_of l.rows.w l.rows.set.z.now k) l.initial.room l.room
