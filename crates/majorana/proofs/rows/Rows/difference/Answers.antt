-- `Rows::difference` meets its contract: phases are 0 to 3, so nothing wraps.
use Rattle.majorana.proofs.ModeLaws.{difference_is}
use Rattle.majorana.proofs.rows.Rows.difference.Goals as goal

pub returns : goal.returns
returns c = difference_is c.args.self.now.held c.args.i c.requires
