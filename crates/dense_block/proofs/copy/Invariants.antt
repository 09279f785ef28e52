-- `dense_block::copy` meets its contract: the words passed and the copy of the rest make the whole copy.
use Rattle.std.proofs.Common.{◌≡◌, ◌++◌, take, drop}
use Rattle.dense_block.specs.Words.{copied}
use Rattle.dense_block.proofs.copy.Given as goal

abbrev pub invariant-loop-i : goal.invariant-loop-i
invariant-loop-i l = take l.i l.dst ++ copied (drop l.i l.dst) (drop l.i l.src) ≡ copied l.initial.dst l.src
