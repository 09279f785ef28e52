-- `rowreport_core::begin` meets its contract: the state is that before the first byte.
use mathlib.Core.Path.{ap}
use lib.ListN.{replicate}
use Rattle.flatpack_text.specs.declared.read.State.{State}
use Rattle.rowreport_core.specs.declared.Reading.{Reading}
use Rattle.rowreport_core.proofs.begin.Goals as goal

pub returns : goal.returns
returns c =
    ap held c.start.ensures
  where
    held : State → Reading
    held s = record { state = s; table = replicate 1024 0 }
