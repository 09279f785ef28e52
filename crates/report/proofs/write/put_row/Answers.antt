-- `report::write::put_row` meets its contract: the row's number, the number beside the letters, and the letters.
use Prim.Native.Nat.{ℕ, ◌+◌, ◌≤◌}
use native.Mathlib.Omega.{arith}
use mathlib.Core.Path.{ap}
use mathlib.Core.List.{[], ◌∷◌}
use lib.ListN.{length}
use Rattle.report.specs.Report.{digits_of, letter_at, letters, line_from, row_of}
use Rattle.report.proofs.Stores.{length_columns}
use Rattle.report.proofs.LineLaws.{length_three, stored_same, second_fits, third_fits, three_stored}
use Rattle.report.proofs.write.put_row.Goals as goal
use Rattle.report.proofs.write.put_row.Goals.{After-row_number-m}

-- the line's room, with the number beside the letters as it was computed
enough : (c : After-row_number-m) → c.args.at + (length (digits_of c.args.k) + length (digits_of c.row_number-m.result) + c.args.q + 3) ≤ length c.args.out.now
enough c =
    let a = c.args in
    let r = row_of a.p a.x.now a.z.now in
    omega (
      arith,
      c.requires,
      ap (λ (n : ℕ). length (line_from (digits_of a.k ∷ digits_of n ∷ letters a.q r ∷ []))) c.row_number-m.ensures,
      length_three (digits_of a.k) (digits_of c.row_number-m.result) (letters a.q r),
      length_columns (letter_at r) a.q,
    )

pub put_number-a-requires : goal.put_number-a-requires
put_number-a-requires c = omega (arith, enough (goal.at.put_number-a-requires c).After-row_number-m)

pub put_number-b-requires : goal.put_number-b-requires
put_number-b-requires c =
    let a = c.args in
    let p = c.put_number-a.ensures in
    let e = enough (goal.at.put_number-b-requires c).After-row_number-m in
    second_fits a.out.now a.at (digits_of a.k) p.place p.bytes (length (digits_of c.row_number-m.result)) (omega (arith, e))

pub put_letters-requires : goal.put_letters-requires
put_letters-requires c =
    let a = c.args in
    let p = c.put_number-a.ensures in
    let s = c.put_number-b.ensures in
    third_fits a.out.now a.at (digits_of a.k) p.place p.bytes (digits_of c.row_number-m.result) s.place s.bytes a.q
    (enough (goal.at.put_letters-requires c).After-row_number-m)

pub returns : goal.returns
returns c =
    let a = c.args in
    let r = row_of a.p a.x.now a.z.now in
    let p = c.put_number-a.ensures in
    let s = c.put_number-b.ensures in
    let t = c.put_letters.ensures in
    stored_same a.out.now a.at _ _ (ap (λ (n : ℕ). line_from (digits_of a.k ∷ digits_of n ∷ letters a.q r ∷ [])) c.row_number-m.ensures)
    (three_stored a.out.now a.at (digits_of a.k) p.place p.bytes (digits_of c.row_number-m.result) s.place s.bytes (letters a.q r) t.place t.bytes)
