-- `report::write::put_rows` meets its contract: after k turns the first k lines are stored.
use Prim.Native.Nat.{ℕ, ◌+◌, ◌*◌, ◌≤◌}
use native.Mathlib.Omega.{arith}
use mathlib.Core.Path.{◌≡◌, ap, subst, ◌∙◌}
use mathlib.Core.List.{List}
use lib.ListN.{length}
use lib.Seq.{length-sets}
use Rattle.report.specs.Report.{row_line, row_lines, row_of, row_in}
use Rattle.report.proofs.LineLaws.{stored_same, row_same, row_short, room_next, rows_next}
use Rattle.report.proofs.write.put_rows.Goals as goal
use Rattle.report.proofs.write.put_rows.Goals.{After-get_term-in-loop-k}

-- the line as the code has it, and that it is the one of row k
abbrev line : After-get_term-in-loop-k → List ℕ
line c = row_line c.args.rows.qubits c.loop-k.k (row_of c.phase-p.result c.get_term.result.now c.get_term-in-loop-k.result.now)

line_is : (c : After-get_term-in-loop-k) → line c ≡ row_line c.args.rows.qubits c.loop-k.k (row_in c.args.rows.qubits c.args.rows.x.now c.args.rows.z.now c.args.rows.phases.now c.loop-k.k)
line_is c =
    let a = c.args in
    row_same a.rows.qubits c.loop-k.k c.words_for-w.result a.rows.x.now a.rows.z.now a.rows.phases.now
    c.words_for-w.ensures c.phase-p.ensures c.get_term.ensures c.get_term-in-loop-k.ensures

-- there is room for it
room : (c : After-get_term-in-loop-k)
    → (c.loop-k.place + length (line c) ≤ length c.args.out.now) × (c.loop-k.place + length (line c) ≤ c.args.at + (c.loop-k.k + 1) * (c.args.rows.qubits + 64))
room c =
    let l = c.loop-k in
    let a = c.args in
    room_next l.k a.count (a.rows.qubits + 64) l.place a.at (length (line c)) (length a.out.now) c.loop-k-test.true c.requires l.invariant.1
    (row_short a.rows.qubits l.k c.phase-p.result c.get_term.result.now c.get_term-in-loop-k.result.now (omega arith) (omega arith))

pub put_row-place-requires : goal.put_row-place-requires
put_row-place-requires c = omega (arith, (room (goal.at.put_row-place-requires c).After-get_term-in-loop-k).0, c.loop-k.invariant.0)

pub loop-k-preserved : goal.loop-k-preserved
loop-k-preserved c =
    let p = c.put_row-place.ensures in
    let g = (goal.at.loop-k-preserved c).After-get_term-in-loop-k in
    let l = c.loop-k in
    let a = c.args in (
      ap length p.bytes ∙ length-sets l.out l.place (line g) ∙ l.invariant.0,
      omega (arith, p.place, (room g).1),
      rows_next a.out.now a.at a.rows.qubits (row_in a.rows.qubits a.rows.x.now a.rows.z.now a.rows.phases.now) l.k (line_is g) l.invariant.2 p,
    )

pub returns : goal.returns
returns c =
    let l = c.loop-k in
    let a = c.args in
    let e : l.k ≡ a.count = omega (arith, c.loop-k-test.false) in
    let m : l.place ≤ a.at + a.count * (a.rows.qubits + 64) = subst (λ (k : ℕ). l.place ≤ a.at + k * (a.rows.qubits + 64)) e l.invariant.1 in
    let s = stored_same a.out.now a.at l.place l.out (ap (row_lines a.rows.qubits (row_in a.rows.qubits a.rows.x.now a.rows.z.now a.rows.phases.now)) e) l.invariant.2 in
    record { room = m; place = s.place; bytes = s.bytes }
