-- All the flags are there after the last turn.
use mathlib.Core.Path.{◌≡◌}
use native.Mathlib.Omega.{arith}
use Rattle.exports.proofs.FlagLaws.{all_flags}
use Rattle.exports.proofs.flags.read.Goals as goal

pub returns : goal.returns
returns c =
    let l = c.loop-i in
    let e : l.i ≡ c.min-m.result = omega arith in
    all_flags c.args.n c.args.bytes.now l.out c.min-m.result (omega arith) (rw e at l.invariant.1)
