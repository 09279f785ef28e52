-- `report::write::put_letters` meets its contract: after j turns the letters of the first j columns are stored.
use mathlib.Core.Path.{◌≡◌}
use lib.ListN.{length}
use lib.Seq.{sets}
use Rattle.report.specs.Report.{letter_at, columns, row_of}
use Rattle.report.proofs.write.put_letters.Given as goal

abbrev pub invariant-loop-j : goal.invariant-loop-j
invariant-loop-j l = (length l.out ≡ length l.initial.out) × (l.out ≡ sets l.initial.out l.at (columns (letter_at (row_of 0 l.x l.z)) l.j))
