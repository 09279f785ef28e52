-- `largest::moved` is safe: it counts no more rows than it has passed.
use Rattle.std.proofs.Common.{◌≤◌}
use Rattle.enumeration_limits.proofs.largest.moved.Given as goal

abbrev pub invariant-loop-k : goal.invariant-loop-k
invariant-loop-k g l = l.count ≤ l.k
