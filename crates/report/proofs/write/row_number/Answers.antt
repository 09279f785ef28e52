-- `report::write::row_number` meets its contract.
use mathlib.Core.Path.{refl}
use Rattle.report.specs.Report.{row_number}
use Rattle.report.proofs.write.row_number.Goals as goal

pub returns : goal.returns
unfolding row_number
returns c = refl
