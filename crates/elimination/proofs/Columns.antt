-- The lowest column of a row: zeros below the lowest set digit of the first word that is not zero. By digits.
use Prim.Native.Nat.{ℕ, zero, suc, ◌+◌, ◌*◌, ◌/◌, ◌%◌, ◌^◌, ◌≤◌, ◌<◌}
use native.Mathlib.Nat.{mod-eq_of_lt, one-mul, mul-zero, mul_assoc, zero-add, mul-mod_right}
use native.Mathlib.Decide.{dec_lt}
use native.Mathlib.Omega.{arith}
use mathlib.Core.Path.{◌≡◌, sym, ap, ◌∙◌}
use mathlib.Core.Logic.{◌⊎◌, inl, inr}
use mathlib.Core.List.{List, [], ◌∷◌}
use lib.ListN.{get_or, drop}
use lib.Pow.{pow-add}
use lib.Count.{count_trailing_zeros, under}
use Rattle.algebra.specs.Rows.{bit}
use Rattle.algebra.proofs.Digits.{bit_zero, bit_half, bit_of_zero, zero_or_one}
use Rattle.dense_block.specs.Words.{value}
use Rattle.dense_block.proofs.Values.{Words}
use Rattle.dense_block.proofs.Columns.{bit_value}
use Rattle.elimination.specs.Eliminated.{Lowest}
use Rattle.elimination.proofs.Lows.{low_zero}

-- ---- one word

bit_suc : (x j : ℕ) → bit x (suc j) ≡ bit (x / 2) j
bit_suc x j = let e : suc j ≡ 1 + j = omega arith in ap (bit x) e ∙ sym (bit_half x j)

trailing_has : (k x : ℕ) → count_trailing_zeros k x < k → bit x (count_trailing_zeros k x) ≡ 1
unfolding count_trailing_zeros
trailing_has zero x h = absurd (omega arith)
trailing_has (suc k) x h = go (zero_or_one (x % 2) (omega arith)) h (trailing_has k (x / 2))
  where
    go : (x % 2 ≡ 0) ⊎ (x % 2 ≡ 1) → under (x % 2) (count_trailing_zeros k (x / 2)) < suc k → (count_trailing_zeros k (x / 2) < k → bit (x / 2) (count_trailing_zeros k (x / 2)) ≡ 1)
        → bit x (under (x % 2) (count_trailing_zeros k (x / 2))) ≡ 1
    go (inl z) h rest =
        let l : count_trailing_zeros k (x / 2) < k = omega (arith, rw z at h) in
        rw z (bit_suc x (count_trailing_zeros k (x / 2)) ∙ rest l)
    go (inr o) h rest = rw o (bit_zero x ∙ o)

trailing_below : (k x j : ℕ) → j < count_trailing_zeros k x → bit x j ≡ 0
unfolding count_trailing_zeros
trailing_below zero x j h = absurd (omega arith)
trailing_below (suc k) x j h = go j (zero_or_one (x % 2) (omega arith)) h (trailing_below k (x / 2))
  where
    go : (j : ℕ) → (x % 2 ≡ 0) ⊎ (x % 2 ≡ 1) → j < under (x % 2) (count_trailing_zeros k (x / 2)) → ((j : ℕ) → j < count_trailing_zeros k (x / 2) → bit (x / 2) j ≡ 0) → bit x j ≡ 0
    go j (inr o) h rest = absurd (omega (arith, rw o at h))
    go zero (inl z) h rest = bit_zero x ∙ z
    go (suc j) (inl z) h rest = let l : j < count_trailing_zeros k (x / 2) = omega (arith, rw z at h) in bit_suc x j ∙ rest j l

-- a word that is not zero has a digit
trailing_lt : (x : ℕ) → x < 2 ^ 64 → (x ≡ 0 → ⊥) → count_trailing_zeros 64 x < 64
trailing_lt x h n = go (dec_lt (count_trailing_zeros 64 x) 64)
  where
    go : Dec (count_trailing_zeros 64 x < 64) → count_trailing_zeros 64 x < 64
    go (yes l) = l
    go (no l) = absurd (n (sym (mod-eq_of_lt h) ∙ low_zero 64 x (λ j g. trailing_below 64 x j (omega (arith, l)))))

-- ---- a row

module _ (ws : List ℕ) (words : Words ws) where
  -- word i is the first that is not zero
  module _ (i : ℕ) (zeros : (k : ℕ) → k < i → get_or ws k 0 ≡ 0) where
    before : (j : ℕ) → j < 64 * i → bit (value ws) j ≡ 0
    before j h = bit_value ws j words ∙ ap (λ (x : ℕ). bit x (j % 64)) (zeros (j / 64) (omega arith)) ∙ bit_of_zero (j % 64)

    within_word : (j : ℕ) → 64 * i ≤ j → j < 64 * i + 64 → bit (value ws) j ≡ bit (get_or ws i 0) (j % 64)
    within_word j g h =
        let e : j / 64 ≡ i = omega arith in
        bit_value ws j words ∙ ap (λ (k : ℕ). bit (get_or ws k 0) (j % 64)) e

    pub lowest_here : (n : ℕ) → i < n → (get_or ws i 0 ≡ 0 → ⊥)
        → (64 * i + count_trailing_zeros 64 (get_or ws i 0) < 64 * n) × Lowest (64 * n) (value ws) (64 * i + count_trailing_zeros 64 (get_or ws i 0))
    lowest_here n h x = (
      omega (arith, t),
      record {
        within = omega (arith, t);
        has = λ _.
            let e : (64 * i + count_trailing_zeros 64 (get_or ws i 0)) % 64 ≡ count_trailing_zeros 64 (get_or ws i 0) = omega (arith, t) in
            within_word (64 * i + count_trailing_zeros 64 (get_or ws i 0)) (omega arith) (omega (arith, t)) ∙ ap (bit (get_or ws i 0)) e ∙ trailing_has 64 (get_or ws i 0) t;
        below = low_zero (64 * i + count_trailing_zeros 64 (get_or ws i 0)) (value ws) (λ j l. go j l (dec_lt j (64 * i)));
      },
    )
      where
        t : count_trailing_zeros 64 (get_or ws i 0) < 64
        t = trailing_lt (get_or ws i 0) (words i) x

        go : (j : ℕ) → j < 64 * i + count_trailing_zeros 64 (get_or ws i 0) → Dec (j < 64 * i) → bit (value ws) j ≡ 0
        go j l (yes g) = before j g
        go j l (no g) = within_word j (omega (arith, g)) (omega (arith, t)) ∙ trailing_below 64 (get_or ws i 0) (j % 64) (omega (arith, g))

-- the first n words are zero
zeros_value : (n : ℕ) (ws : List ℕ) → ((k : ℕ) → k < n → get_or ws k 0 ≡ 0) → value ws ≡ 2 ^ (64 * n) * value (drop n ws)
zeros_value zero ws h = sym (one-mul (value ws))
zeros_value (suc n) [] h = sym (mul-zero (2 ^ (64 * suc n)))
zeros_value (suc n) (w ∷ ws) h =
    let e : 64 * suc n ≡ 64 + 64 * n = omega arith in
    rw (h 0 (omega arith), zeros_value n ws (λ k l. h (suc k) (omega arith)), e, pow-add 2 64 (64 * n), mul_assoc) (zero-add _)

pub lowest_none : (ws : List ℕ) (n : ℕ) → ((k : ℕ) → k < n → get_or ws k 0 ≡ 0) → Lowest (64 * n) (value ws) (64 * n)
lowest_none ws n zeros = record {
  within = omega arith;
  has = λ h. absurd (omega arith);
  below = rw (zeros_value n ws zeros) (mul-mod_right (2 ^ (64 * n)) (value (drop n ws)));
}
