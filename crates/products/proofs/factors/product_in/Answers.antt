-- `factors::product_in` meets its contract: the product in local words, which start at zero, copied, and its letter power.
use mathlib.Core.Path.{ap, ◌∙◌}
use lib.Seq.{length-take-le}
use borrow.Author.Rules.{rules}
use Rattle.algebra.specs.Rows.{Row}
use Rattle.pauli.specs.Phases.{row_power}
use Rattle.products.proofs.ProductAnswers.{copied_to}
use Rattle.majorana.proofs.SetLaws.{zeros}
use Rattle.products.proofs.factors.product_in.Goals as goal

pub times_rows-f-requires : goal.times_rows-f-requires
times_rows-f-requires c =
    let w = c.args.rows.now.held.fits.words in
    (c.requires.0, length-take-le _ _ w, length-take-le _ _ w, zeros c.args.rows.now.w, zeros c.args.rows.now.w)

pub returns-clause-letters : goal.returns-clause-letters
returns-clause-letters c = c.letter_power.ensures ∙ ap row_power c.times_rows-f.ensures

pub returns-clause-x_part : goal.returns-clause-x_part
returns-clause-x_part c =
    copied_to c.args.ox.now c.copy_from_slice.ensures.after (c.times_rows-f.auto.ax ∙ length-take-le _ _ c.args.rows.now.held.fits.words) (search rules)
    (ap (λ (r : Row). r.x) c.times_rows-f.ensures)

pub returns-clause-z_part : goal.returns-clause-z_part
returns-clause-z_part c =
    copied_to c.args.oz.now c.copy_from_slice-2.ensures.after (c.times_rows-f.auto.az ∙ length-take-le _ _ c.args.rows.now.held.fits.words) (search rules)
    (ap (λ (r : Row). r.z) c.times_rows-f.ensures)
