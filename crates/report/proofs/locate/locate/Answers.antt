-- `report::locate::locate` meets its contract: a case for each kind of text.
use mathlib.Core.Path.{refl, ◌∙◌}
use Rattle.report.proofs.Locating.{located_nowhere, located_slot, located_malformed}
use Rattle.report.proofs.locate.locate.Goals as goal

pub returns-in_err-k-in-Ok : goal.returns-in_err-k-in-Ok
returns-in_err-k-in-Ok c = c.from_residual.ensures ∙ located_nowhere c.args.s c.args.table.now c.in-Ok.ensures refl c.fault_at.ensures c.in_err-k-in-Ok.was

pub returns-in_ok-k-in-Ok : goal.returns-in_ok-k-in-Ok
returns-in_ok-k-in-Ok c = located_slot c.args.s c.args.table.now c.in-Ok.ensures refl c.fault_at.ensures c.in_ok-k-in-Ok.was c.spot_of.ensures

pub returns-in-Err : goal.returns-in-Err
returns-in-Err c = located_malformed c.args.s c.args.table.now c.in-Err.ensures refl
