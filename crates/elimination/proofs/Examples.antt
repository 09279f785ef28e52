-- Small cases, by computing, and that each contract allows one outcome.
use Prim.Native.Nat.{ℕ}
use mathlib.Core.Path.{◌≡◌, refl, sym, ◌∙◌}
use mathlib.Core.Bool.{Bool, true, false}
use mathlib.Core.List.{List, [], ◌∷◌}
use lib.Count.{ones, ones_in}
use Rattle.refusal.specs.Search.{some_below, all_below, least_below, found, none}
use Rattle.algebra.specs.Rows.{bit, common, dot}
use Rattle.algebra.specs.Choices.{combo}
use Rattle.elimination.specs.Rooms.{row_at, fits, dependent_among, dependent_rows, RowsAnswered}
use Rattle.elimination.specs.Equations.{solves, spans_in, dependent_in, plain_in, solution}
use Rattle.elimination.specs.Solving.{left_at, right_at, RowsSolved}

-- ---- rows of one word: the third is the xor of the others, or is not

three_rows : dependent_rows 3 1 (0b011 ∷ 0b110 ∷ 0b101 ∷ []) ≡ true
unfolding dependent_rows dependent_among fits row_at some_below combo bit
three_rows = refl

free_rows : dependent_rows 3 1 (0b011 ∷ 0b110 ∷ 0b111 ∷ []) ≡ false
unfolding dependent_rows dependent_among fits row_at some_below combo bit
free_rows = refl

-- a room of two words does not hold three rows
short_room : dependent_rows 3 1 (0 ∷ 0 ∷ []) ≡ false
unfolding dependent_rows fits
short_room = refl

-- ---- equations of one word and the right side

-- v0 + v1 = 1, v1 + v2 = 1: column 2 is the xor of columns 0 and 1, so v2 is 0
two_equations : solution 2 (left_at 1 (0b011 ∷ 1 ∷ 0b110 ∷ 1 ∷ [])) (right_at 1 (0b011 ∷ 1 ∷ 0b110 ∷ 1 ∷ [])) 3 ≡ found 0b010
unfolding solution least_below solves plain_in dependent_in spans_in some_below all_below left_at right_at dot common bit ones ones_in
two_equations = refl

-- v0 + v1 is not both 0 and 1
no_solution : solution 2 (left_at 1 (0b11 ∷ 0 ∷ 0b11 ∷ 1 ∷ [])) (right_at 1 (0b11 ∷ 0 ∷ 0b11 ∷ 1 ∷ [])) 2 ≡ none
unfolding solution least_below solves plain_in dependent_in spans_in some_below all_below left_at right_at dot common bit ones ones_in
no_solution = refl

-- ---- one outcome

module _ (rows width : ℕ) (ws : List ℕ) where
  pub dependent_outcome : (r s : Bool) (vs us : List ℕ) → RowsAnswered rows width ws r vs → RowsAnswered rows width ws s us → (r ≡ s) × (vs ≡ us)
  dependent_outcome r s vs us a b = (a.answer ∙ sym b.answer, a.room ∙ sym b.room)

  pub solve_outcome : (vs : List ℕ) (r s : Bool) (us ts xs ys : List ℕ) → RowsSolved rows width ws vs r us ts → RowsSolved rows width ws vs s xs ys → (r ≡ s) × (us ≡ xs) × (ts ≡ ys)
  solve_outcome vs r s us ts xs ys a b = (a.answer ∙ sym b.answer, a.string ∙ sym b.string, a.room ∙ sym b.room)
