-- `Rows::all_paired` meets its contract: the modes from the highest, and what is left decides.
use mathlib.Core.Path.{◌≡◌}
use Rattle.refusal.specs.Search.{all_below}
use Rattle.algebra.specs.Modes.{paired}
use Rattle.majorana.specs.HeldRows.{modes_of}
use Rattle.majorana.specs.Rooms.{all_paired}
use Rattle.majorana.proofs.rows.Rows.all_paired.Given as goal

abbrev pub invariant-loop-i : goal.invariant-loop-i
invariant-loop-i l = all_paired (modes_of l.self) ≡ all_below l.i (paired (modes_of l.self))
