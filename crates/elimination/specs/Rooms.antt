-- Rows in a room of words, one after the other, and what `dependent_rows` answers and leaves.
use Rattle.std.specs.Prelude.{ℕ, ◌*◌, ◌^◌, ◌≡◌, Bool, cond, ◌&&◌, List, eqb, ltb, leb, length}
use Rattle.refusal.specs.Search.{some_below}
use Rattle.algebra.specs.Choices.{combo}
use Rattle.dense_block.specs.Words.{value, term_of, zeroed}

-- row r of rows of `width` words, as a number
unfoldable pub row_at : ℕ → List ℕ → ℕ → ℕ
row_at width ws r = value (term_of width ws r)

-- `rows` rows of `width` words, at most `most` of at most `widest`, lie in a room of `size` words
unfoldable pub fits : ℕ → ℕ → ℕ → ℕ → ℕ → Bool
fits most widest rows width size = leb rows most && (leb width widest && leb (rows * width) size)

-- ---- rows dependent

-- a nonempty choice of k rows has xor zero
unfoldable pub dependent_among : ℕ → (ℕ → ℕ) → Bool
dependent_among k f = some_below (2 ^ k) (λ choice. ltb 0 choice && eqb (combo f k choice) 0)

-- at most 512 rows of at most 8 words
abbrev pub independence_room : ℕ → ℕ → List ℕ → Bool
independence_room rows width ws = fits 512 8 rows width (length ws)

unfoldable pub dependent_rows : ℕ → ℕ → List ℕ → Bool
dependent_rows rows width ws = independence_room rows width ws && dependent_among rows (row_at width ws)

-- what `dependent_rows` promises of its answer, and of the room at exit: the rows are zero, and the words past them stay
pub record RowsAnswered (rows width : ℕ) (ws : List ℕ) (r : Bool) (vs : List ℕ) : Type 0 where
  pub answer : r ≡ dependent_rows rows width ws
  pub room : vs ≡ cond (independence_room rows width ws) (zeroed (rows * width) ws) ws
