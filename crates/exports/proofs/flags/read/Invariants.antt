-- After i turns the first i flags are those of the first i bytes.
use Rattle.std.proofs.Common.{◌≡◌, length, take, map}
use Rattle.exports.specs.Flags.{flag}
use Rattle.exports.proofs.flags.read.Given as goal

abbrev pub invariant-loop-i : goal.invariant-loop-i
invariant-loop-i l = (length l.out ≡ 768) × (take l.i l.out ≡ map flag (take l.i l.bytes))
