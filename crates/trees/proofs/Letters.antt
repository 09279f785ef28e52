-- Whether two rows made of letters anticommute: letters on one column do if they differ, on different columns never; and it adds up over joined rows.
use Prim.Native.Nat.{ℕ, zero, suc, ◌+◌, ◌%◌, ◌^◌, ◌<◌}
use native.Mathlib.Omega.{arith}
use mathlib.Core.Path.{◌≡◌, refl, sym, ◌∙◌}
use mathlib.Core.Logic.{◌≢◌}
use Rattle.algebra.specs.Rows.{dot, Row, identity, clash}
use Rattle.algebra.proofs.Digits.{bit_pow, bit_pow_other}
use Rattle.algebra.proofs.Dots.{dot_zero_l, dot_zero_r, dot_pow}
use Rattle.algebra.proofs.RowLaws.{clash_dot, clash_comm, clash_times_l}
use Rattle.trees.specs.Paths.{join, letter_at}

-- ---- joined rows

pub clash_identity : (r : Row) → clash r identity ≡ 0
clash_identity r = omega (arith, clash_dot r identity, dot_zero_r r.x, dot_zero_r r.z)

-- a joined row has the parts of the product
pub clash_l : (a r s : Row) → clash (join a r) s ≡ (clash a s + clash r s) % 2
unfolding clash
clash_l a r s = clash_times_l a r s

pub clash_r : (r a s : Row) → clash r (join a s) ≡ (clash r a + clash r s) % 2
clash_r r a s = clash_comm r (join a s) ∙ clash_l a s r ∙ rw (clash_comm a r, clash_comm s r)

-- ---- letters

pub dot_own : (q : ℕ) → dot (2 ^ q) (2 ^ q) ≡ 1
dot_own q = dot_pow (2 ^ q) q ∙ bit_pow q

pub dot_other : (q q' : ℕ) → q ≢ q' → dot (2 ^ q) (2 ^ q') ≡ 0
dot_other q q' h = dot_pow (2 ^ q) q' ∙ bit_pow_other q q' (λ e. h (sym e))

pub same_column : (l l' b : ℕ) → l < 3 → l' < 3 → l ≢ l' → dot b b ≡ 1 → clash (letter_at l b) (letter_at l' b) ≡ 1
same_column zero zero b h h' n e = absurd (n refl)
same_column zero (suc zero) b h h' n e = rw clash_dot (omega (arith, dot_zero_l b))
same_column zero (suc (suc l)) b h h' n e = rw clash_dot (omega (arith, dot_zero_l 0))
same_column (suc zero) zero b h h' n e = rw clash_dot (omega (arith, dot_zero_r b))
same_column (suc zero) (suc zero) b h h' n e = absurd (n refl)
same_column (suc zero) (suc (suc l)) b h h' n e = rw clash_dot (omega (arith, dot_zero_r b))
same_column (suc (suc l)) zero b h h' n e = rw clash_dot (omega (arith, dot_zero_l 0))
same_column (suc (suc l)) (suc zero) b h h' n e = rw clash_dot (omega (arith, dot_zero_l b))
same_column (suc (suc l)) (suc (suc l')) b h h' n e = absurd (omega arith)

pub other_column : (l l' b b' : ℕ) → dot b b' ≡ 0 → clash (letter_at l b) (letter_at l' b') ≡ 0
other_column zero zero b b' e = rw clash_dot (omega (arith, dot_zero_r b, dot_zero_l b'))
other_column zero (suc zero) b b' e = rw clash_dot (omega (arith, dot_zero_r b, dot_zero_l b'))
other_column zero (suc (suc l)) b b' e = rw clash_dot (omega (arith, dot_zero_r b, dot_zero_l b', dot_zero_l 0))
other_column (suc zero) zero b b' e = rw clash_dot (omega (arith, dot_zero_r b, dot_zero_l b'))
other_column (suc zero) (suc zero) b b' e = rw clash_dot (omega (arith, dot_zero_r b, dot_zero_l b'))
other_column (suc zero) (suc (suc l)) b b' e = rw clash_dot (omega (arith, dot_zero_r b, dot_zero_l b'))
other_column (suc (suc l)) zero b b' e = rw clash_dot (omega (arith, dot_zero_r b, dot_zero_l b', dot_zero_l 0))
other_column (suc (suc l)) (suc zero) b b' e = rw clash_dot (omega (arith, dot_zero_r b, dot_zero_l b'))
other_column (suc (suc l)) (suc (suc l')) b b' e = rw clash_dot (omega (arith, dot_zero_r b, dot_zero_l b'))
