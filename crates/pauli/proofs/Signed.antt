-- Signed differences and their remainder by 4, which never comes out negative. By cases on the sign.
use Prim.Native.Nat.{ℕ, zero, suc, ◌+◌, ◌-◌, ◌^◌, ◌%◌, ◌<◌}
use native.Mathlib.Omega.{arith}
use mathlib.Core.Path.{◌≡◌, refl}
use mathlib.Core.Bool.{Bool, true, false, cond}
use borrow.Author.Tests.{ltb-true, ltb-false}
use lib.Dec.{ltb}
use lib.IntN.{ℤ, pos, negsuc, nat_abs, ◌-ℤ◌}
use lib.Signed.{mag}
use mir.Syntax.{w32}
use mir.Val.{SFits, to_z, of_z}
use mir.ValLaws.{to_z-of_z}
use Rattle.std.specs.Int.{int_rem_euclid}
use Rattle.pauli.specs.Phases.{mod_four, letter_power}

-- ---- a difference modulo 4

-- which std's remainder gives as a whole number
pub euclid : (z : ℤ) → nat_abs (int_rem_euclid z (pos 4)) ≡ mod_four z
euclid (pos n) = refl
euclid (negsuc n) = refl

mag_difference : (a b k : ℕ) → a < k → b < k → mag (pos a -ℤ pos b) < k
mag_difference a zero k h l = omega arith
mag_difference a (suc b) k h l = go (ltb a (suc b))
  where
    go : (t : Bool) → mag (cond t (negsuc (suc b - suc a)) (pos (a - suc b))) < k
    go true = omega arith
    go false = omega arith

-- the machine's reading of the difference of two numbers is the difference
pub difference : (p ys : ℕ) {a b : ℤ} → a ≡ pos p → b ≡ pos ys → mag a < 2 ^ 31 → mag b < 2 ^ 31
    → to_z w32 (of_z w32 (to_z w32 (of_z w32 a) -ℤ to_z w32 (of_z w32 b))) ≡ pos p -ℤ pos ys
difference p ys {a} {b} e f h k =
    let fits : SFits w32 (pos p -ℤ pos ys) = record { sfits = mag_difference p ys (2 ^ 31) (rw e at h) (rw f at k) } in
    rw (to_z-of_z w32 a (record { sfits = h }), to_z-of_z w32 b (record { sfits = k }), e, f) (to_z-of_z w32 (pos p -ℤ pos ys) fits)

pub mod_four_lt : (z : ℤ) → mod_four z < 4
mod_four_lt (pos n) = omega arith
mod_four_lt (negsuc n) = omega arith

-- ---- the letter power is p minus the Y count: adding the count gives p back

pub letter_power_back : (p ys : ℕ) → (letter_power p ys + ys) % 4 ≡ p % 4
unfolding letter_power
letter_power_back p zero = omega arith
letter_power_back p (suc ys) = go (ltb p (suc ys)) refl
  where
    go : (t : Bool) → ltb p (suc ys) ≡ t → (mod_four (cond t (negsuc (suc ys - suc p)) (pos (p - suc ys))) + suc ys) % 4 ≡ p % 4
    go true e = omega (arith, ltb-true p (suc ys) e)
    go false e = omega (arith, ltb-false p (suc ys) e)

letter_power_lt : (p ys : ℕ) → letter_power p ys < 4
unfolding letter_power
letter_power_lt p ys = mod_four_lt (pos p -ℤ pos ys)

-- it sees the count modulo 4 only
pub letter_power_mod : (p a b : ℕ) → a % 4 ≡ b % 4 → letter_power p a ≡ letter_power p b
letter_power_mod p a b h = settled (letter_power p a) (letter_power p b) (a % 4) (p % 4) (omega (arith, letter_power_back p a)) (omega (arith, letter_power_back p b)) (letter_power_lt p a) (letter_power_lt p b) (omega arith)
  where
    settled : (u v k q : ℕ) → (u + k) % 4 ≡ q → (v + k) % 4 ≡ q → u < 4 → v < 4 → k < 4 → u ≡ v
    settled u v k q g h i j l = omega arith
