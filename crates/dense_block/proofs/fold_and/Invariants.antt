-- `dense_block::fold_and` meets its contract: the fold so far and that of the rest make the whole fold.
use Rattle.std.proofs.Common.{◌≡◌, drop}
use lib.Bits.{bit_xor}
use Rattle.dense_block.specs.Words.{folded}
use Rattle.dense_block.proofs.fold_and.Given as goal

abbrev pub invariant-loop-at : goal.invariant-loop-at
invariant-loop-at l = bit_xor l.sum (folded (drop l.at l.a) (drop l.at l.b)) ≡ folded l.a l.b
