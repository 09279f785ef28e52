-- `dense_block::and_count_ones` meets its contract: what is counted and what is left make the whole, modulo 2^32.
use Rattle.std.proofs.Common.{◌≡◌, ◌+◌, ◌%◌, ◌^◌, ◌<◌, drop}
use Rattle.algebra.specs.Rows.{common}
use Rattle.dense_block.specs.Words.{value}
use Rattle.dense_block.proofs.and_count_ones.Given as goal

abbrev pub invariant-loop-i : goal.invariant-loop-i
invariant-loop-i l = (l.count < 2 ^ 32) × ((l.count + common (value (drop l.i l.a)) (value (drop l.i l.b))) % 2 ^ 32 ≡ common (value l.a) (value l.b) % 2 ^ 32)
