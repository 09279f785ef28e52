-- The phase of a row from the words written: the words stand for the parts, which have no bit past the columns.
use Prim.Native.Nat.{ℕ, ◌/◌, ◌%◌, ◌^◌, ◌<◌}
use native.Mathlib.Nat.{lt_of_lt_of_le}
use native.Mathlib.Omega.{arith}
use mathlib.Core.Path.{◌≡◌, ap, ap₂, ◌∙◌}
use mathlib.Core.List.{List}
use mathlib.Core.Bool.{Bool, true, false, cond}
use lib.Dec.{eqb}
use lib.Pow.{pow_mono}
use Rattle.algebra.specs.Rows.{common}
use Rattle.dense_block.specs.Words.{value, words_of, words_for}
use Rattle.dense_block.proofs.Values.{value_of_words, words_hold}
use Rattle.maxnto.specs.Formula.{columns, z_at, z_flipped, x_part, z_part, phase_of}
use Rattle.maxnto.proofs.Masks.{columns_lt}

pub x_part_lt : (n m : ℕ) → x_part n m < 2 ^ n
unfolding x_part
x_part_lt n m = columns_lt n _

pub z_part_lt : (n m : ℕ) → z_part n m < 2 ^ n
unfolding z_part
z_part_lt n m = go (eqb (m % 2) 0)
  where
    go : (b : Bool) → cond b (columns n (z_at (m / 2))) (columns n (z_flipped (m / 2))) < 2 ^ n
    go true = columns_lt n _
    go false = columns_lt n _

-- n columns fit their words
words_stand : (n v : ℕ) → v < 2 ^ n → value (words_of (words_for n) v) ≡ v
words_stand n v h = value_of_words (words_for n) v (lt_of_lt_of_le h (pow_mono (words_hold n)))

pub phase_counted : (n m : ℕ) (xs zs : List ℕ) {r : ℕ} → xs ≡ words_of (words_for n) (x_part n m) → zs ≡ words_of (words_for n) (z_part n m)
    → r ≡ common (value xs) (value zs) % 2 ^ 32 → r % 4 ≡ phase_of n m
unfolding phase_of
phase_counted n m xs zs {r} ex ez e =
    let c : common (value xs) (value zs) ≡ common (x_part n m) (z_part n m) =
    ap₂ common (ap value ex ∙ words_stand n (x_part n m) (x_part_lt n m)) (ap value ez ∙ words_stand n (z_part n m) (z_part_lt n m)) in
    omega arith
