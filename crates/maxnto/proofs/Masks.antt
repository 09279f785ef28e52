-- The parts of the rows as sums of numbers that have a 1 in each column below a bound, and the words of such a number. Digit by digit.
use Prim.Native.Nat.{ℕ, zero, suc, ◌+◌, ◌-◌, ◌*◌, ◌/◌, ◌%◌, ◌^◌, ◌≤◌, ◌<◌}
use native.Mathlib.Nat.{eq-or-lt_of_le, le_of_suc-le-suc, add_comm, one-mul, zero-mul, pow-suc, mod-eq_of_lt, div-eq_of_lt, lt_of_lt_of_le}
use native.Mathlib.Decide.{dec_lt}
use native.Mathlib.Omega.{arith}
use mathlib.Core.Path.{◌≡◌, refl, sym, ap, ap₂, ◌∙◌}
use mathlib.Core.Logic.{◌⊎◌, inl, inr, ◌≢◌}
use mathlib.Core.Bool.{Bool, true, false, cond, not}
use borrow.Author.Tests.{lt-ltb, le-ltb, le-leb, lt-leb, eq-eqb, ne_eqb}
use lib.Dec.{eqb, leb, ltb}
use lib.Pow.{pow_pos, pow_mono, ones_lt, ones_split, high, low}
use lib.Bits.{bit_xor, xor_shifted, xor_shr, xor_mod, xor_lt}
use Rattle.algebra.specs.Rows.{bit}
use Rattle.algebra.proofs.Digits.{bit_none, bit_of_zero, bit_pow, bit_pow_other, bit_of_xor, bits_below}
use Rattle.dense_block.specs.Words.{digit}
use Rattle.dense_block.specs.Blocks.{word_at}
use Rattle.maxnto.specs.Formula.{columns, x_at, z_at, z_flipped}

-- ---- a number given by its columns

pub columns_lt : (n : ℕ) (test : ℕ → Bool) → columns n test < 2 ^ n
unfolding columns
columns_lt zero test = pow_pos 0
columns_lt (suc k) test = let h = columns_lt k test in go (test k) h
  where
    go : (b : Bool) → columns k test < 2 ^ k → columns k test + digit b * 2 ^ k < 2 ^ suc k
    go true h = omega (arith, pow-suc 2 k)
    go false h = omega (arith, pow-suc 2 k)

bit_digit : (b : Bool) (k : ℕ) → bit (digit b * 2 ^ k) k ≡ digit b
bit_digit false k = ap (λ (x : ℕ). bit x k) (zero-mul (2 ^ k)) ∙ bit_of_zero k
bit_digit true k = ap (λ (x : ℕ). bit x k) (one-mul (2 ^ k)) ∙ bit_pow k

bit_digit_other : (b : Bool) (k j : ℕ) → j ≢ k → bit (digit b * 2 ^ k) j ≡ 0
bit_digit_other false k j h = ap (λ (x : ℕ). bit x j) (zero-mul (2 ^ k)) ∙ bit_of_zero j
bit_digit_other true k j h = ap (λ (x : ℕ). bit x j) (one-mul (2 ^ k)) ∙ bit_pow_other k j h

pub bit_columns : (n : ℕ) (test : ℕ → Bool) (j : ℕ) → j < n → bit (columns n test) j ≡ digit (test j)
unfolding columns
bit_columns zero test j h = absurd (omega arith)
bit_columns (suc k) test j h =
    ap (λ (x : ℕ). bit x j) (add_comm (columns k test) (digit (test k) * 2 ^ k) ∙ sym (xor_shifted (digit (test k)) k (columns k test) (columns_lt k test)))
    ∙ bit_of_xor (digit (test k) * 2 ^ k) (columns k test) j
    ∙ go (eq-or-lt_of_le (le_of_suc-le-suc h)) (bit_columns k test j)
  where
    go : (j ≡ k) ⊎ (j < k) → (j < k → bit (columns k test) j ≡ digit (test j)) → (bit (digit (test k) * 2 ^ k) j + bit (columns k test) j) % 2 ≡ digit (test j)
    go (inl e) below =
        ap₂ (λ (a b : ℕ). (a + b) % 2) (ap (bit (digit (test k) * 2 ^ k)) e ∙ bit_digit (test k) k) (bit_none k (columns k test) j (columns_lt k test) (omega arith))
        ∙ ap (λ (i : ℕ). (digit (test i) + 0) % 2) (sym e)
        ∙ one (test j)
      where
        one : (b : Bool) → (digit b + 0) % 2 ≡ digit b
        one true = refl
        one false = refl
    go (inr l) below =
        ap₂ (λ (a b : ℕ). (a + b) % 2) (bit_digit_other (test k) k j (omega arith)) (below l)
        ∙ two (test j)
      where
        two : (b : Bool) → (0 + digit b) % 2 ≡ digit b
        two true = refl
        two false = refl

-- two numbers of n columns that agree in each
pub columns_same : (n : ℕ) (test : ℕ → Bool) (v : ℕ) → v < 2 ^ n → ((j : ℕ) → j < n → digit (test j) ≡ bit v j) → columns n test ≡ v
columns_same n test v h e = bits_below n (columns n test) v (columns_lt n test) h (λ j l. bit_columns n test j l ∙ e j l)

-- ---- ones below a bound

pub bit_ones : (c j : ℕ) → j < c → bit (2 ^ c - 1) j ≡ 1
unfolding bit
bit_ones c j h =
    let m = c - j - 1 in
    let e : c ≡ suc m + j = omega arith in
    ap (λ (n : ℕ). (2 ^ n - 1) / 2 ^ j % 2) e
    ∙ ap (λ (x : ℕ). x / 2 ^ j % 2) (ones_split (suc m) j)
    ∙ ap (λ (x : ℕ). x % 2) (high (2 ^ suc m - 1) j (ones_lt j))
    ∙ omega (arith, pow-suc 2 m, pow_pos m)

pub bit_ones_past : (c j : ℕ) → c ≤ j → bit (2 ^ c - 1) j ≡ 0
bit_ones_past c j h = bit_none c (2 ^ c - 1) j (ones_lt c) h

ones_below_pow : (c n : ℕ) → c ≤ n → 2 ^ c - 1 < 2 ^ n
ones_below_pow c n h = lt_of_lt_of_le (ones_lt c) (pow_mono h)

-- ---- the parts of the rows

module _ (n i : ℕ) (h : i < n) where
  -- a column below i, at i or above it
  data Place (j : ℕ) : Type 0 where
    under : j < i → Place j
    at : j ≡ i → Place j
    over : i < j → Place j

  place : (j : ℕ) → Place j
  place j = go (dec_lt j i) (dec_lt i j)
    where
      go : Dec (j < i) → Dec (i < j) → Place j
      go (yes l) d = under l
      go (no l) (yes g) = over g
      go (no l) (no g) = at (omega (arith, l, g))

  pub x_sum : columns n (x_at i) ≡ bit_xor (2 ^ n - 1) (bit_xor (2 ^ i - 1) (2 ^ (i + 1) - 1))
  x_sum =
      columns_same n (x_at i) _ (xor_lt n _ _ (ones_lt n) (xor_lt n _ _ (ones_below_pow i n (omega arith)) (ones_below_pow (i + 1) n (omega arith))))
      (λ j l. go j l (place j) ∙ sym (bit_of_xor _ _ j ∙ ap (λ (x : ℕ). (bit (2 ^ n - 1) j + x) % 2) (bit_of_xor _ _ j)))
    where
      go : (j : ℕ) → j < n → Place j → digit (x_at i j) ≡ (bit (2 ^ n - 1) j + (bit (2 ^ i - 1) j + bit (2 ^ (i + 1) - 1) j) % 2) % 2
      go j l (under g) = rw (ne_eqb j i (omega arith), bit_ones n j l, bit_ones i j g, bit_ones (i + 1) j (omega arith))
      go j l (at e) = rw (eq-eqb j i e, bit_ones n j l, bit_ones_past i j (omega arith), bit_ones (i + 1) j (omega arith))
      go j l (over g) = rw (ne_eqb j i (omega arith), bit_ones n j l, bit_ones_past i j (omega arith), bit_ones_past (i + 1) j (omega arith))

  pub z_even : i % 2 ≡ 0 → columns n (z_at i) ≡ 2 ^ (i + 1) - 1
  z_even even = columns_same n (z_at i) _ (ones_below_pow (i + 1) n (omega arith)) (λ j l. rw (eq-eqb (i % 2) 0 even) (go j (place j)))
    where
      go : (j : ℕ) → Place j → digit (leb j i) ≡ bit (2 ^ (i + 1) - 1) j
      go j (under g) = rw (le-leb j i (omega arith), bit_ones (i + 1) j (omega arith))
      go j (at e) = rw (le-leb j i (omega arith), bit_ones (i + 1) j (omega arith))
      go j (over g) = rw (lt-leb j i g, bit_ones_past (i + 1) j (omega arith))

  pub z_odd : i % 2 ≢ 0 → columns n (z_at i) ≡ bit_xor (2 ^ n - 1) (2 ^ (i + 1) - 1)
  z_odd odd =
      columns_same n (z_at i) _ (xor_lt n _ _ (ones_lt n) (ones_below_pow (i + 1) n (omega arith)))
      (λ j l. rw (ne_eqb (i % 2) 0 odd, bit_of_xor (2 ^ n - 1) (2 ^ (i + 1) - 1) j) (go j l (place j)))
    where
      go : (j : ℕ) → j < n → Place j → digit (ltb i j) ≡ (bit (2 ^ n - 1) j + bit (2 ^ (i + 1) - 1) j) % 2
      go j l (under g) = rw (le-ltb i j (omega arith), bit_ones n j l, bit_ones (i + 1) j (omega arith))
      go j l (at e) = rw (le-ltb i j (omega arith), bit_ones n j l, bit_ones (i + 1) j (omega arith))
      go j l (over g) = rw (lt-ltb i j g, bit_ones n j l, bit_ones_past (i + 1) j (omega arith))

-- flipped off column i is the sum with the X part, which is 1 there
pub z_flipped_lem : (n i : ℕ) → columns n (z_flipped i) ≡ bit_xor (columns n (z_at i)) (columns n (x_at i))
z_flipped_lem n i =
    columns_same n (z_flipped i) _ (xor_lt n _ _ (columns_lt n (z_at i)) (columns_lt n (x_at i)))
    (λ j l. flip (eqb j i) (z_at i j) ∙ sym (bit_of_xor _ _ j ∙ ap₂ (λ (a b : ℕ). (a + b) % 2) (bit_columns n (z_at i) j l) (bit_columns n (x_at i) j l)))
  where
    flip : (e z : Bool) → digit (cond e z (not z)) ≡ (digit z + digit (not e)) % 2
    flip true true = refl
    flip true false = refl
    flip false true = refl
    flip false false = refl

-- ---- words

pub word_xor : (a b k : ℕ) → word_at (bit_xor a b) k ≡ bit_xor (word_at a k) (word_at b k)
word_xor a b k = ap (λ (x : ℕ). x % 2 ^ 64) (xor_shr a b (64 * k)) ∙ xor_mod (a / 2 ^ (64 * k)) (b / 2 ^ (64 * k)) 64

-- word k of ones below c: none, some or all
pub ones_none : (c k : ℕ) → c ≤ 64 * k → word_at (2 ^ c - 1) k ≡ 0
ones_none c k h = ap (λ (x : ℕ). x % 2 ^ 64) (div-eq_of_lt (ones_below_pow c (64 * k) h))

split_ones : (c k : ℕ) → 64 * k ≤ c → word_at (2 ^ c - 1) k ≡ (2 ^ (c - 64 * k) - 1) % 2 ^ 64
split_ones c k h =
    let e : c ≡ (c - 64 * k) + 64 * k = omega arith in
    ap (λ (n : ℕ). (2 ^ n - 1) / 2 ^ (64 * k) % 2 ^ 64) e
    ∙ ap (λ (x : ℕ). x / 2 ^ (64 * k) % 2 ^ 64) (ones_split (c - 64 * k) (64 * k))
    ∙ ap (λ (x : ℕ). x % 2 ^ 64) (high (2 ^ (c - 64 * k) - 1) (64 * k) (ones_lt (64 * k)))

pub ones_some : (c k : ℕ) → 64 * k ≤ c → c - 64 * k < 64 → word_at (2 ^ c - 1) k ≡ 2 ^ (c - 64 * k) - 1
ones_some c k h g = split_ones c k h ∙ mod-eq_of_lt (ones_below_pow (c - 64 * k) 64 (omega arith))

pub ones_all : (c k : ℕ) → 64 * k ≤ c → 64 ≤ c - 64 * k → word_at (2 ^ c - 1) k ≡ 2 ^ 64 - 1
ones_all c k h g =
    let m = c - 64 * k - 64 in
    let e : c - 64 * k ≡ m + 64 = omega arith in
    split_ones c k h ∙ ap (λ (n : ℕ). (2 ^ n - 1) % 2 ^ 64) e ∙ ap (λ (x : ℕ). x % 2 ^ 64) (ones_split m 64) ∙ low (2 ^ m - 1) 64 (ones_lt 64)

-- ---- the words that the code makes

pub x_word_is : (n i k : ℕ) {a b c : ℕ} → i < n → a ≡ word_at (2 ^ n - 1) k → b ≡ word_at (2 ^ i - 1) k → c ≡ word_at (2 ^ (i + 1) - 1) k
    → bit_xor a (bit_xor b c) ≡ word_at (columns n (x_at i)) k
x_word_is n i k h ea eb ec = rw (x_sum n i h, word_xor (2 ^ n - 1) (bit_xor (2 ^ i - 1) (2 ^ (i + 1) - 1)) k, word_xor (2 ^ i - 1) (2 ^ (i + 1) - 1) k) (cc)

pub z_word_even : (n i k : ℕ) {a : ℕ} → i < n → i % 2 ≡ 0 → a ≡ word_at (2 ^ (i + 1) - 1) k → a ≡ word_at (columns n (z_at i)) k
z_word_even n i k h even ea = rw (z_even n i h even) ea

pub z_word_odd : (n i k : ℕ) {a b : ℕ} → i < n → i % 2 ≢ 0 → a ≡ word_at (2 ^ n - 1) k → b ≡ word_at (2 ^ (i + 1) - 1) k → bit_xor a b ≡ word_at (columns n (z_at i)) k
z_word_odd n i k h odd ea eb = rw (z_odd n i h odd, word_xor (2 ^ n - 1) (2 ^ (i + 1) - 1) k) (cc)

pub z_word_flipped : (n i k : ℕ) {a b : ℕ} → a ≡ word_at (columns n (z_at i)) k → b ≡ word_at (columns n (x_at i)) k → bit_xor a b ≡ word_at (columns n (z_flipped i)) k
z_word_flipped n i k ea eb = rw (z_flipped_lem n i, word_xor (columns n (z_at i)) (columns n (x_at i)) k) (cc)
