-- `report::write::refused_line` meets its contract: the word, and then the number.
use native.Mathlib.Omega.{arith}
use Rattle.report.specs.Report.{digits_of, refused, refused_line}
use Rattle.report.proofs.Digits.{digits_word}
use Rattle.report.proofs.LineLaws.{length_two, too_short, at_front, two_stored}
use Rattle.report.proofs.write.refused_line.Goals as goal

pub overflow_add-need : goal.overflow_add-need
overflow_add-need c = record { fits = omega (arith, c.digits-need.ensures, digits_word c.args.number (omega arith)) }

pub returns-then-out-need : goal.returns-then-out-need
returns-then-out-need c =
    let a = c.args in
    too_short (refused_line a.number) a.out.now (omega (arith, c.if-out-need.true, c.digits-need.ensures, length_two refused (digits_of a.number)))

pub returns : goal.returns
returns c =
    let a = c.args in
    at_front (refused_line a.number) a.out.now (omega (arith, c.if-out-need.false, c.digits-need.ensures, length_two refused (digits_of a.number)))
    (two_stored a.out.now 0 refused c.put_word-a.ensures.place c.put_word-a.ensures.bytes (digits_of a.number) c.put_number.ensures.place c.put_number.ensures.bytes)
