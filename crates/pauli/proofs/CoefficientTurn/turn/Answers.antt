-- `Coefficient::turn` meets its contract: three quarter turns are one back.
use native.Mathlib.Omega.{arith}
use Prim.Native.Nat.{◌%◌}
use mathlib.Core.Path.{◌≡◌}
use Rattle.pauli.proofs.Turns.{three_turns}
use Rattle.pauli.proofs.CoefficientTurn.turn.Goals as goal

pub returns-in_default : goal.returns-in_default
returns-in_default c =
    let e : c.args.by.power % 4 ≡ 3 = omega (arith, c.in_default) in
    rw e (three_turns c.args.self)
