-- `report::pieces::digits` meets its contract: a number below 10 has one digit, and any other one more than its tenth.
use Prim.Native.Nat.{◌/◌}
use native.Mathlib.Omega.{arith}
use mathlib.Core.Path.{sym, ap}
use lib.ListN.{length}
use Rattle.report.proofs.Digits.{digits_small, length_large, digits_word}
use Rattle.report.proofs.pieces.+digits.Goals as goal

pub returns-then-n-lt10 : goal.returns-then-n-lt10
returns-then-n-lt10 t c = ap length (sym (digits_small c.args.n c.if-n-lt10.true))

pub overflow_add-result : goal.overflow_add-result
overflow_add-result t c = record { fits = omega (arith, c.digits.ensures, digits_word (c.args.n / 10) (omega arith)) }

pub returns-else-n-lt10 : goal.returns-else-n-lt10
returns-else-n-lt10 t c = omega (arith, c.digits.ensures, length_large c.args.n c.if-n-lt10.false)
