-- `flatpack_text::read::start` meets its contract.
use mathlib.Core.Path.{◌∙◌}
use Rattle.flatpack_text.proofs.Reading.{start_after}
use Rattle.flatpack_text.proofs.read.start.Goals as goal

pub returns : goal.returns
returns c = c.line.ensures ∙ start_after
