-- `report::locate::fault_at` meets its contract: the entries in tables of their own, and the first fault in them.
use Rattle.report.proofs.Locating.{fault_found}
use Rattle.report.proofs.locate.fault_at.Goals as goal

pub returns : goal.returns
returns c = fault_found c.args.n c.args.table.now c.find_fault.result c.plain_numbers.ensures c.filled_slots.ensures c.find_fault.ensures
