-- `rows::bad_phase` meets its contract: the largest phase so far is above 3 exactly if one so far is, and what is past the end counts as 0.
use mathlib.Core.Path.{◌≡◌}
use lib.Dec.{ltb}
use lib.ListN.{get_or}
use Rattle.refusal.specs.Search.{some_below}
use Rattle.majorana.proofs.rows.bad_phase.Given as goal

abbrev pub invariant-loop-p : goal.invariant-loop-p
invariant-loop-p l = ltb 3 l.top ≡ some_below l.p-index (λ k. ltb 3 (get_or l.phases k 0))
