-- `report::write::header` meets its contract: the word, and then the two numbers.
use Prim.Native.Nat.{◌≤◌}
use native.Mathlib.Omega.{arith}
use lib.ListN.{length}
use Rattle.report.specs.Report.{digits_of, majorana, header_line}
use Rattle.report.proofs.Digits.{digits_word}
use Rattle.report.proofs.LineLaws.{length_three, too_short, at_front, third_fits, three_stored}
use Rattle.report.proofs.write.header.Goals as goal
use Rattle.report.proofs.write.header.Goals.{After-digits-2}

-- neither number has more than 20 digits
few : (c : After-digits-2) → (c.digits.result ≤ 20) × (c.digits-2.result ≤ 20)
few c =
    let a = c.args in
    (omega (arith, c.digits.ensures, digits_word a.modes (omega arith)), omega (arith, c.digits-2.ensures, digits_word a.qubits (omega arith)))

pub overflow_add-need : goal.overflow_add-need
overflow_add-need c = record { fits = omega (arith, few (goal.at.overflow_add-need c).After-digits-2) }

pub overflow_add-need-2 : goal.overflow_add-need-2
overflow_add-need-2 c = record { fits = omega (arith, few (goal.at.overflow_add-need-2 c).After-digits-2) }

pub returns-then-out-need : goal.returns-then-out-need
returns-then-out-need c =
    let a = c.args in
    too_short (header_line a.modes a.qubits) a.out.now
    (omega (arith, c.if-out-need.true, c.digits.ensures, c.digits-2.ensures, length_three majorana (digits_of a.modes) (digits_of a.qubits)))

pub put_number-requires : goal.put_number-requires
put_number-requires c =
    let a = c.args in
    third_fits a.out.now 0 majorana c.put_word-a.ensures.place c.put_word-a.ensures.bytes (digits_of a.modes) c.put_number-b.ensures.place c.put_number-b.ensures.bytes
    (length (digits_of a.qubits)) (omega (arith, c.if-out-need.false, c.digits.ensures, c.digits-2.ensures))

pub returns : goal.returns
returns c =
    let a = c.args in
    at_front (header_line a.modes a.qubits) a.out.now
    (omega (arith, c.if-out-need.false, c.digits.ensures, c.digits-2.ensures, length_three majorana (digits_of a.modes) (digits_of a.qubits)))
    (three_stored a.out.now 0 majorana c.put_word-a.ensures.place c.put_word-a.ensures.bytes (digits_of a.modes) c.put_number-b.ensures.place c.put_number-b.ensures.bytes
    (digits_of a.qubits) c.put_number.ensures.place c.put_number.ensures.bytes)
