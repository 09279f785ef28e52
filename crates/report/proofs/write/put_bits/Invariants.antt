-- `report::write::put_bits` meets its contract: after j turns the bits of the first j columns are stored.
use mathlib.Core.Path.{◌≡◌}
use lib.ListN.{length}
use lib.Seq.{sets}
use Rattle.dense_block.specs.Words.{value}
use Rattle.report.specs.Report.{bit_at, columns}
use Rattle.report.proofs.write.put_bits.Given as goal

abbrev pub invariant-loop-j : goal.invariant-loop-j
invariant-loop-j l = (length l.out ≡ length l.initial.out) × (l.out ≡ sets l.initial.out l.at (columns (bit_at (value l.v)) l.j))
