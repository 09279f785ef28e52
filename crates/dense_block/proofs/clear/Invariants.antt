-- `dense_block::clear` meets its contract: the words passed are 0.
use Rattle.std.proofs.Common.{◌≡◌}
use Rattle.dense_block.specs.Words.{zeroed}
use Rattle.dense_block.proofs.clear.Given as goal

abbrev pub invariant-loop-w : goal.invariant-loop-w
invariant-loop-w l = l.w-items ≡ zeroed l.w-index l.initial.w-items
