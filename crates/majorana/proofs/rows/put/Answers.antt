-- `rows::put` meets its contract: the lengths are equal, so that all is copied.
use mathlib.Core.Path.{sym, ◌∙◌}
use Rattle.dense_block.proofs.Alongs.{copied_whole}
use Rattle.majorana.proofs.rows.put.Goals as goal

pub returns : goal.returns
returns c = c.copy.ensures ∙ copied_whole c.args.part.now c.args.words.now (sym c.requires)
