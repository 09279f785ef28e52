-- Laws of the common ones of two bit rows: symmetric, and bilinear up to parity.
use Prim.Native.Nat.{ℕ, zero, suc, ◌+◌, ◌*◌, ◌/◌, ◌%◌, ◌^◌, ◌<◌, min}
use native.Mathlib.Nat.{add-zero}
use native.Mathlib.Omega.{arith}
use mathlib.Core.Path.{◌≡◌, refl, sym, ap, ◌∙◌}
use lib.Arith.{bin_ind}
use lib.Pow.{pow_pos}
use lib.Bits.{bit_and, bit_xor, and_comm, and_zero_r, xor_shr}
use lib.Count.{ones, ones_in, ones_step, ones_cat}
use Rattle.algebra.specs.Rows.{bit, common, dot}
use Rattle.algebra.proofs.Digits.{bit_lt, bit_zero, bit_of_xor, bit_of_and, bits_ext, and_pow}

-- parities add
odd_add : (x y u v : ℕ) → x % 2 ≡ u % 2 → y % 2 ≡ v % 2 → (x + y) % 2 ≡ (u + v) % 2
odd_add x y u v h k = omega arith

pub ones_zero : ones 0 ≡ 0
unfolding ones
ones_zero = refl

xor_odd : (a b : ℕ) → bit_xor a b % 2 ≡ (a % 2 + b % 2) % 2
xor_odd a b = omega (arith, bit_of_xor a b 0, bit_zero (bit_xor a b), bit_zero a, bit_zero b)

pub ones_xor : (a b : ℕ) → ones (bit_xor a b) % 2 ≡ (ones a + ones b) % 2
ones_xor =
    bin_ind (λ (n : ℕ). (b : ℕ) → ones (bit_xor n b) % 2 ≡ (ones n + ones b) % 2) (λ b. omega (arith, ones_zero))
    (λ n ih b. rw (ones_step (bit_xor n b), ones_step n, ones_step b, xor_shr n b 1)
    (omega (arith, odd_add (bit_xor n b % 2) (ones (bit_xor (n / 2) (b / 2))) (n % 2 + b % 2) (ones (n / 2) + ones (b / 2)) (omega (arith, xor_odd n b)) (ih (b / 2)))))

-- and over xor, at one digit
spread : (a b c : ℕ) → a < 2 → b < 2 → c < 2 → min a ((b + c) % 2) ≡ (min a b + min a c) % 2
spread zero b c h k l = omega arith
spread (suc a) b c h k l = omega arith

and_xor : (a b c : ℕ) → bit_and a (bit_xor b c) ≡ bit_xor (bit_and a b) (bit_and a c)
and_xor a b c = bits_ext _ _ (λ j. simp (bit_of_xor, bit_of_and) (spread (bit a j) (bit b j) (bit c j) (bit_lt a j) (bit_lt b j) (bit_lt c j)))

-- ---- common ones

pub common_comm : (a b : ℕ) → common a b ≡ common b a
unfolding common
common_comm a b = rw (and_comm a b)

pub common_zero_r : (a : ℕ) → common a 0 ≡ 0
unfolding common
common_zero_r a = rw and_zero_r ones_zero

-- a doubled count and a doubled parity turn alike
pub twice_dot : (p a b : ℕ) → (p + 2 * common a b) % 4 ≡ (p + 2 * dot a b) % 4
unfolding dot
twice_dot p a b = omega arith

-- ---- the dot product

pub dot_lt : (a b : ℕ) → dot a b < 2
unfolding dot
dot_lt a b = omega arith

pub dot_comm : (a b : ℕ) → dot a b ≡ dot b a
unfolding dot
dot_comm a b = rw (common_comm a b)

pub dot_zero_r : (a : ℕ) → dot a 0 ≡ 0
unfolding dot
dot_zero_r a = rw (common_zero_r a)

pub dot_zero_l : (a : ℕ) → dot 0 a ≡ 0
dot_zero_l a = dot_comm 0 a ∙ dot_zero_r a

pub dot_xor_r : (a b c : ℕ) → dot a (bit_xor b c) ≡ (dot a b + dot a c) % 2
unfolding dot common
dot_xor_r a b c = rw and_xor (omega (arith, ones_xor (bit_and a b) (bit_and a c)))

pub dot_xor_l : (a b c : ℕ) → dot (bit_xor a b) c ≡ (dot a c + dot b c) % 2
dot_xor_l a b c = omega (arith, dot_comm (bit_xor a b) c, dot_xor_r c a b, dot_comm a c, dot_comm b c)

ones_shl : (b k : ℕ) → b < 2 → ones (b * 2 ^ k) ≡ b
unfolding ones ones_in
ones_shl b k h = ap ones (sym (add-zero (b * 2 ^ k))) ∙ ones_cat k b 0 (pow_pos k) ∙ go b h
  where
    go : (b : ℕ) → b < 2 → ones b + ones 0 ≡ b
    go zero h = refl
    go (suc zero) h = refl
    go (suc (suc b)) h = absurd (omega arith)

-- a row of one column reads that column
pub dot_pow : (x k : ℕ) → dot x (2 ^ k) ≡ bit x k
unfolding dot common
dot_pow x k = rw (and_pow x k, ones_shl (bit x k) k (bit_lt x k)) (omega (arith, bit_lt x k))
