-- `report::write::put_rows` meets its contract: after k turns the first k lines are stored.
use Prim.Native.Nat.{◌+◌, ◌*◌, ◌≤◌}
use mathlib.Core.Path.{◌≡◌}
use lib.ListN.{length}
use Rattle.report.specs.Report.{row_lines, rows_in}
use Rattle.report.proofs.LineLaws.{Stored}
use Rattle.report.proofs.write.put_rows.Given as goal

abbrev pub invariant-loop-k : goal.invariant-loop-k
invariant-loop-k l =
    (length l.out ≡ length l.initial.out) × (l.place ≤ l.at + l.k * (l.rows.qubits + 64))
    × Stored l.initial.out l.at (row_lines l.rows.qubits (rows_in l.rows) l.k) l.place l.out
