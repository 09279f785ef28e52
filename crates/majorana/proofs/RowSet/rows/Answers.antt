-- `RowSet::rows` meets its contract: the lengths, and then the rows.
use mathlib.Core.Path.{sym, ◌∙◌}
use Rattle.majorana.proofs.SetLaws.{fits_of}
use Rattle.majorana.proofs.RowSet.rows.Goals as goal

pub of-requires-clause-fits : goal.of-requires-clause-fits
of-requires-clause-fits c = fits_of _ _ _ _ _ (sym c.rows_short.ensures ∙ c.if-rows_short.false)
