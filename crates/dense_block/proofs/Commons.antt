-- The common ones of two rows, word by word: those of one word and those of the rest. Past the end of either there are none.
use Rattle.std.proofs.Common.{◌≡◌, ℕ, ◌+◌, ◌*◌, ◌^◌, ◌<◌, ◌≤◌, min, List, length, get_or, drop, ap, ◌∙◌, ap₂, add_comm, arith, drop_of_length-le}
use native.Mathlib.Decide.{dec_lt}
use lib.Bits.{bit_and, and_block, and_lt}
use lib.Count.{ones, ones_cat}
use Rattle.algebra.specs.Rows.{common}
use Rattle.algebra.proofs.Dots.{common_comm, common_zero_r}
use Rattle.dense_block.specs.Words.{value}
use Rattle.dense_block.proofs.Values.{Words, value_drop}

-- rows with x and y as their lowest words
pub word_and_rest : (x y u v : ℕ) → x < 2 ^ 64 → y < 2 ^ 64 → common (x + 2 ^ 64 * u) (y + 2 ^ 64 * v) ≡ ones (bit_and x y) + common u v
unfolding common
word_and_rest x y u v h k =
    ap ones (ap₂ bit_and (swap x u) (swap y v) ∙ and_block 64 u v x y h k)
    ∙ ones_cat 64 (bit_and u v) (bit_and x y) (and_lt 64 x y h k)
    ∙ add_comm (ones (bit_and u v)) (ones (bit_and x y))
  where
    swap : (w v : ℕ) → w + 2 ^ 64 * v ≡ v * 2 ^ 64 + w
    swap w v = omega arith

pub common_step : (xs ys : List ℕ) (i : ℕ) → Words xs → Words ys
    → common (value (drop i xs)) (value (drop i ys)) ≡ ones (bit_and (get_or xs i 0) (get_or ys i 0)) + common (value (drop (i + 1) xs)) (value (drop (i + 1) ys))
common_step xs ys i p q =
    ap₂ common (value_drop xs i) (value_drop ys i)
    ∙ word_and_rest (get_or xs i 0) (get_or ys i 0) (value (drop (i + 1) xs)) (value (drop (i + 1) ys)) (p i) (q i)

pub common_end : (xs ys : List ℕ) (i : ℕ) → min (length xs) (length ys) ≤ i → common (value (drop i xs)) (value (drop i ys)) ≡ 0
common_end xs ys i h = go (dec_lt i (length xs))
  where
    go : Dec (i < length xs) → common (value (drop i xs)) (value (drop i ys)) ≡ 0
    go (yes l) = let g : length ys ≤ i = omega arith in rw (drop_of_length-le ys g) (common_zero_r (value (drop i xs)))
    go (no l) = let g : length xs ≤ i = omega (arith, l) in rw (drop_of_length-le xs g) (common_comm 0 (value (drop i ys)) ∙ common_zero_r (value (drop i ys)))
