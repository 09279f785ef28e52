-- `order::put` meets its contract: the elements so far are the block's.
use mathlib.Core.Path.{◌≡◌}
use lib.ListN.{take}
use Rattle.enumeration.proofs.order.put.Given as goal

abbrev pub invariant-loop-j : goal.invariant-loop-j
invariant-loop-j g l = take l.j l.out ≡ take l.j l.block
