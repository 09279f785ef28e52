-- `vacuum_met` meets its contract: every mode before i is empty in the all-zero vacuum.
use Rattle.std.proofs.Common.{◌≡◌, ℕ, ◌<◌, true}
use Rattle.algebra.specs.Modes.{Modes, empty}
use Rattle.ternarytree.specs.Tables.{StoredX}
use Rattle.ternarytree.proofs.writing.vacuum_met.Given as goal

abbrev pub invariant-loop-i : goal.invariant-loop-i
invariant-loop-i l = (m : Modes) → StoredX m l.n l.w l.x l.phases → (j : ℕ) → j < l.i → empty m j 0 ≡ true
