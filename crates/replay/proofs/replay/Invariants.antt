-- Safe, and ends: the cases are counted.
use Rattle.std.proofs.Common.{◌-◌}
use Rattle.replay.proofs.replay.Given as goal

abbrev pub decreases-loop-cases : goal.decreases-loop-cases
decreases-loop-cases g l = 65536 - l.cases
