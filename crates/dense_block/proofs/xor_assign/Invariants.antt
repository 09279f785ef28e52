-- `dense_block::xor_assign` meets its contract: the words passed and the sum of the rest make the whole sum.
use Rattle.std.proofs.Common.{◌≡◌, ◌++◌, take, drop}
use Rattle.dense_block.specs.Words.{xors}
use Rattle.dense_block.proofs.xor_assign.Given as goal

abbrev pub invariant-loop-i : goal.invariant-loop-i
invariant-loop-i l = take l.i l.dst ++ xors (drop l.i l.dst) (drop l.i l.src) ≡ xors l.initial.dst l.src
