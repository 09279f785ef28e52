-- `report::write::vacuum_line` meets its contract: the line has eight bytes and one for each column.
use Prim.Native.Nat.{ℕ, ◌+◌}
use native.Mathlib.Omega.{arith}
use mathlib.Core.Path.{◌≡◌, ◌∙◌}
use lib.ListN.{length}
use Rattle.dense_block.specs.Words.{value}
use Rattle.report.specs.Report.{vacuum, bit_at, bits, vacuum_line}
use Rattle.report.proofs.Stores.{length_columns}
use Rattle.report.proofs.LineLaws.{length_two, too_short, at_front}
use Rattle.report.proofs.write.vacuum_line.Goals.{then-out-lt8-via-then-out-lt8, then-out-lt8-via-else-out-lt8+then-out-q}
use Rattle.report.proofs.write.vacuum_line.Goals as goal

line_length : (q v : ℕ) → length (vacuum_line q v) ≡ q + 8
line_length q v = length_two vacuum (bits q v) ∙ omega (arith, length_columns (bit_at v) q)

pub returns-then-out-lt8 : goal.returns-then-out-lt8
returns-then-out-lt8 c =
    let a = c.args in
    let e = line_length a.q (value a.v.now) in
    too_short (vacuum_line a.q (value a.v.now)) a.out.now (
    elim c.then-out-lt8.branch [ then-out-lt8-via-then-out-lt8 w ↦ omega (arith, w.if-out-lt8.true, e) | then-out-lt8-via-else-out-lt8+then-out-q w ↦ omega (arith, w.if-out-lt8.false, w.if-out-q.true, e) ])

pub put_vacuum-requires : goal.put_vacuum-requires
put_vacuum-requires c =
    let a = c.args in
    omega (arith, c.if-out-lt8.false, c.if-out-q.false, line_length a.q (value a.v.now))

pub returns : goal.returns
returns c =
    let a = c.args in
    at_front (vacuum_line a.q (value a.v.now)) a.out.now (omega (arith, c.if-out-lt8.false, c.if-out-q.false, line_length a.q (value a.v.now))) c.put_vacuum.ensures
