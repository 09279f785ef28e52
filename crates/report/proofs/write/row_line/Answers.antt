-- `report::write::row_line` meets its contract: the length of the line is known from its digits and columns.
use Prim.Native.Nat.{ℕ, ◌+◌, ◌≤◌}
use native.Mathlib.Omega.{arith}
use mathlib.Core.Path.{◌≡◌, ap, ◌∙◌}
use mathlib.Core.List.{List}
use lib.ListN.{length}
use Rattle.report.specs.Report.{digits_of, letter_at, letters, row_of, row_number, row_line}
use Rattle.report.proofs.Digits.{digits_word}
use Rattle.report.proofs.Stores.{length_columns}
use Rattle.report.proofs.LineLaws.{length_three, too_short, at_front}
use Rattle.report.proofs.write.row_line.Goals.{then-out-fixed-via-then-out-fixed, then-out-fixed-via-else-out-fixed+then-out-fixed-2}
use Rattle.report.proofs.write.row_line.Goals as goal
use Rattle.report.proofs.write.row_line.Goals.{After-digits-2}

-- the line, and its length
abbrev line : After-digits-2 → List ℕ
line c = row_line c.args.q c.args.k (row_of c.args.p c.args.x.now c.args.z.now)

line_length : (c : After-digits-2) → length (line c) ≡ c.digits.result + c.digits-2.result + c.args.q + 3
line_length c =
    let r = row_of c.args.p c.args.x.now c.args.z.now in
    length_three (digits_of c.args.k) (digits_of (row_number r)) (letters c.args.q r)
    ∙ omega (
      arith,
      c.digits.ensures,
      c.digits-2.ensures,
      ap (λ (n : ℕ). length (digits_of n)) c.row_number.ensures,
      length_columns (letter_at r) c.args.q,
    )

-- neither number has more than 20 digits
few : (c : After-digits-2) → (c.digits.result ≤ 20) × (c.digits-2.result ≤ 20)
few c = (
  omega (arith, c.digits.ensures, digits_word c.args.k (omega arith)),
  omega (arith, c.digits-2.ensures, digits_word c.row_number.result (omega arith)),
)

pub overflow_add-fixed : goal.overflow_add-fixed
overflow_add-fixed c = record { fits = omega (arith, few (goal.at.overflow_add-fixed c).After-digits-2) }

pub overflow_add-fixed-2 : goal.overflow_add-fixed-2
overflow_add-fixed-2 c = record { fits = omega (arith, few (goal.at.overflow_add-fixed-2 c).After-digits-2) }

pub returns-then-out-fixed : goal.returns-then-out-fixed
returns-then-out-fixed c =
    let g = (goal.at.returns-then-out-fixed c).After-digits-2 in
    let e = line_length g in
    too_short (line g) c.args.out.now (
    elim c.then-out-fixed.branch [ then-out-fixed-via-then-out-fixed w ↦ omega (arith, w.if-out-fixed.true, e) | then-out-fixed-via-else-out-fixed+then-out-fixed-2 w ↦ omega (arith, w.if-out-fixed.false, w.if-out-fixed-2.true, e) ])

pub put_row-requires : goal.put_row-requires
put_row-requires c =
    let g = (goal.at.put_row-requires c).After-digits-2 in
    omega (arith, c.if-out-fixed.false, c.if-out-fixed-2.false, line_length g)

pub returns : goal.returns
returns c =
    let g = (goal.at.returns c).After-digits-2 in
    at_front (line g) c.args.out.now (omega (arith, c.if-out-fixed.false, c.if-out-fixed-2.false, line_length g)) c.put_row.ensures
