-- Coefficients turned by a power of i: parts are moved and negated, and never rounded. What a marked one stands for, and which complex numbers are the same.
use Rattle.std.specs.Prelude.{ℕ, zero, suc, ◌≡◌, Bool, true, false, pos, Float}
use Rattle.std.specs.Float.{nan, inf, fin}
use Rattle.std.specs.Float.Ieee.{neg}
use Rattle.pauli.specs.declared.Coefficient.{Coefficient}
use Rattle.pauli.specs.declared.Marked.{Marked}
use Rattle.pauli.specs.declared.Marked.TheVariants.{Real, Imag}

-- power 1 takes (re, im) to (-im, re)
abbrev pub quarter : Coefficient → Coefficient
quarter c = record { re = neg c.im; im = c.re }

-- power k is power 1, k times
abbrev pub turned : ℕ → Coefficient → Coefficient
turned zero c = c
turned (suc k) c = quarter (turned k c)

-- a real number c times i to the power k: 0 real c, 1 imaginary c, 2 real -c, 3 imaginary -c, and round again
abbrev pub marked : ℕ → Float → Marked
marked zero c = Real c
marked (suc zero) c = Imag c
marked (suc (suc zero)) c = Real (neg c)
marked (suc (suc (suc zero))) c = Imag (neg c)
marked (suc (suc (suc (suc k)))) c = marked k c

-- a quarter turn of a marked number takes c to i c, and i c to -c
abbrev pub marked_quarter : Marked → Marked
marked_quarter (Real x) = Imag x
marked_quarter (Imag x) = Real (neg x)

abbrev pub zero_float : Float
zero_float = fin false 0 (pos 0)

-- the complex number that a marked one stands for
abbrev pub stands : Marked → Coefficient
stands (Real x) = record { re = x; im = zero_float }
stands (Imag x) = record { re = zero_float; im = x }

abbrev pub is_finite : Float → Bool
is_finite nan = false
is_finite (inf s) = false
is_finite (fin s m e) = true

-- ---- the same number

-- a zero without its sign; every other number as it is
abbrev pub plain_zero : Float → Float
plain_zero nan = nan
plain_zero (inf s) = inf s
plain_zero (fin s zero e) = zero_float
plain_zero (fin s (suc m) e) = fin s (suc m) e

-- two complex numbers are the same, signs of zero apart
pub record SameNumber (c d : Coefficient) : Type 0 where
  pub re : plain_zero c.re ≡ plain_zero d.re
  pub im : plain_zero c.im ≡ plain_zero d.im
