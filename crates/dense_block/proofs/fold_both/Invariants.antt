-- `dense_block::fold_both` meets its contract: as `fold_and`, with the two folds in one.
use Rattle.std.proofs.Common.{◌≡◌, drop}
use lib.Bits.{bit_xor}
use Rattle.dense_block.specs.Words.{folded}
use Rattle.dense_block.proofs.fold_both.Given as goal

abbrev pub invariant-loop-i : goal.invariant-loop-i
invariant-loop-i l =
    bit_xor l.sum (bit_xor (folded (drop l.i l.a) (drop l.i l.b)) (folded (drop l.i l.c) (drop l.i l.d)))
    ≡ bit_xor (folded l.a l.b) (folded l.c l.d)
