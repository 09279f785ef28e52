-- `pauli::multiply` meets its contract: the tests in their order, and then the product of the words that the columns take.
use mathlib.Core.Bool.{◌||◌, true, false}
use mathlib.Core.Path.{◌≡◌, sym, ◌∙◌}
use Rattle.pauli.specs.Product.{bad_row, given, lent, too_short}
use Rattle.pauli.proofs.Products.{by_columns, by_short, by_row, by_words}
use Rattle.pauli.proofs.multiply.Goals as goal
use Rattle.pauli.proofs.multiply.Goals.{Else-any_short, then-is_bad-via-then-is_bad, then-is_bad-via-else-is_bad+then-is_bad-2}

lengths_pass : (c : Else-any_short) → too_short (given c.args.columns (lent c.args.left) (lent c.args.right) c.args.ox.now c.args.oz.now) ≡ false
unfolding too_short
lengths_pass c = rw c.words_for-w.ensures at (sym c.any_short.ensures ∙ c.if-any_short.false)

pub returns-then-outside : goal.returns-then-outside
returns-then-outside c = by_columns _ (sym c.outside.ensures ∙ c.if-outside.true)

pub returns-then-any_short : goal.returns-then-any_short
unfolding too_short
returns-then-any_short c = by_short _ (sym c.outside.ensures ∙ c.if-outside.false)
    (rw c.words_for-w.ensures at (sym c.any_short.ensures ∙ c.if-any_short.true))

pub returns-then-is_bad : goal.returns-then-is_bad
returns-then-is_bad c = by_row _ _ c.words_for-w.ensures _ _ c.first-left.ensures c.first-right.ensures
    (sym c.outside.ensures ∙ c.if-outside.false) (lengths_pass (goal.at.returns-then-is_bad c).Else-any_short) bad
  where
    bad : (bad_row c.args.columns (lent c.first-left.result) || bad_row c.args.columns (lent c.first-right.result)) ≡ true
    bad = elim c.then-is_bad.branch [
      | then-is_bad-via-then-is_bad w ↦ simp (sym c.is_bad.ensures ∙ w.if-is_bad.true)
      | then-is_bad-via-else-is_bad+then-is_bad-2 w ↦ simp (sym c.is_bad.ensures ∙ w.if-is_bad.false) (sym w.is_bad-else-is_bad.ensures ∙ w.if-is_bad-2.true)
    ]

pub returns : goal.returns
returns c = by_words _ _ c.words_for-w.ensures _ _ c.first-left.ensures c.first-right.ensures
    (sym c.outside.ensures ∙ c.if-outside.false) (lengths_pass (goal.at.returns c).Else-any_short)
    (sym c.is_bad.ensures ∙ c.if-is_bad.false) (sym c.is_bad-else-is_bad.ensures ∙ c.if-is_bad-2.false)
    c.multiply_words.result _ _
    c.multiply_words.ensures.met c.multiply_words.ensures.x_part c.multiply_words.ensures.z_part
