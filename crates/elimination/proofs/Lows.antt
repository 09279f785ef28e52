-- The first n columns of a number, x % 2 ^ n: when they are zero, when they agree, and what the dot product reads of them. By digits.
use Prim.Native.Nat.{ℕ, ◌%◌, ◌^◌, ◌<◌}
use native.Mathlib.Nat.{mod-lt, zero-mod, mod-eq_of_lt, lt_of_le_of_lt}
use mathlib.Core.Path.{◌≡◌, sym, ap, ◌∙◌}
use lib.Pow.{pow_pos}
use lib.Bits.{bit_xor, bit_and, xor_zero_l, xor_mod, and_mod, and_le_r}
use lib.Count.{ones}
use Rattle.algebra.specs.Rows.{bit, common, dot}
use Rattle.algebra.proofs.Digits.{bit_mod, bit_of_zero, bits_below}
use Rattle.algebra.proofs.Dots.{dot_zero_l}

pub low_bit : (n x p : ℕ) → x % 2 ^ n ≡ 0 → p < n → bit x p ≡ 0
low_bit n x p h l = sym (bit_mod n x p l) ∙ ap (λ (y : ℕ). bit y p) h ∙ bit_of_zero p

pub low_bits : (n a b p : ℕ) → a % 2 ^ n ≡ b % 2 ^ n → p < n → bit a p ≡ bit b p
low_bits n a b p h l = sym (bit_mod n a p l) ∙ ap (λ (y : ℕ). bit y p) h ∙ bit_mod n b p l

-- numbers that agree in their first n columns
pub low_ext : (n a b : ℕ) → ((i : ℕ) → i < n → bit a i ≡ bit b i) → a % 2 ^ n ≡ b % 2 ^ n
low_ext n a b h = bits_below n (a % 2 ^ n) (b % 2 ^ n) (mod-lt a (pow_pos n)) (mod-lt b (pow_pos n)) (λ i l. bit_mod n a i l ∙ h i l ∙ sym (bit_mod n b i l))

pub low_zero : (n x : ℕ) → ((i : ℕ) → i < n → bit x i ≡ 0) → x % 2 ^ n ≡ 0
low_zero n x h = low_ext n x 0 (λ i l. h i l ∙ sym (bit_of_zero i)) ∙ zero-mod (2 ^ n)

pub low_xor : (n a b : ℕ) → a % 2 ^ n ≡ 0 → bit_xor a b % 2 ^ n ≡ b % 2 ^ n
low_xor n a b h = rw (xor_mod, h) (xor_zero_l (b % 2 ^ n))

-- ---- the dot product with a row of n columns reads the first n columns

pub dot_low : (n x v : ℕ) → v < 2 ^ n → dot (x % 2 ^ n) v ≡ dot x v
unfolding dot common
dot_low n x v h =
    ap (λ (y : ℕ). ones y % 2)
    (ap (bit_and (x % 2 ^ n)) (sym (mod-eq_of_lt h)) ∙ sym (and_mod x v n) ∙ mod-eq_of_lt (lt_of_le_of_lt (and_le_r x v) h))

-- a row that has none of them
pub dot_none : (n x v : ℕ) → v < 2 ^ n → x % 2 ^ n ≡ 0 → dot x v ≡ 0
dot_none n x v h z = sym (dot_low n x v h) ∙ ap (λ (y : ℕ). dot y v) z ∙ dot_zero_l v
