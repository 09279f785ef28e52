-- `order::enumerate_blocks` meets its contract: after i turns the first i blocks are those of the new order, and the rest stays.
use Prim.Native.Nat.{◌*◌}
use mathlib.Core.Path.{◌≡◌}
use mathlib.Core.List.{◌++◌}
use lib.ListN.{drop}
use Rattle.enumeration.specs.Orders.{enumerated_blocks}
use Rattle.enumeration.proofs.order.enumerate_blocks.Given as goal

abbrev pub invariant-loop-i : goal.invariant-loop-i
invariant-loop-i g l = l.out ≡ enumerated_blocks l.size l.i l.map l.x ++ drop (l.i * l.size) l.initial.out
