-- `check::first_commuting` meets its contract: no pair passed commutes, and the first that does ends both loops.
use mathlib.Core.Path.{◌≡◌}
use lib.Dec.{eqb}
use Rattle.std.specs.Prelude.{None}
use Rattle.algebra.specs.Rows.{clash}
use Rattle.majorana.specs.HeldRows.{modes_of}
use Rattle.majorana.proofs.CheckLaws.{Passed-row, Passed}
use Rattle.majorana.proofs.check.first_commuting.Given as goal

abbrev pub invariant-loop-k : goal.invariant-loop-k
invariant-loop-k l =
    (l.found ≡ None)
    × Passed-row (λ c d. eqb (clash ((modes_of l.rows).row c) ((modes_of l.rows).row d)) 0) l.j l.k

abbrev pub invariant-search : goal.invariant-search
invariant-search l =
    (l.found ≡ None)
    × Passed (λ c d. eqb (clash ((modes_of l.rows).row c) ((modes_of l.rows).row d)) 0) l.count l.j
