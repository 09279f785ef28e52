-- `order::is_permutation` meets its contract: the numbers passed are new, each of them, and they are those that were met.
use mathlib.Core.Path.{◌≡◌}
use mathlib.Core.Bool.{true}
use Rattle.refusal.specs.Search.{all_below}
use Rattle.enumeration.specs.Orders.{new_number}
use Rattle.enumeration.proofs.OrderLaws.{Marked}
use Rattle.enumeration.proofs.order.is_permutation.Given as goal

abbrev pub invariant-loop-k : goal.invariant-loop-k
invariant-loop-k l = Marked l.k-index l.map l.met × (all_below l.k-index (new_number l.modes l.map) ≡ true)
