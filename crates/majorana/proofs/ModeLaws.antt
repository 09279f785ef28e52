-- One mode: what the code tests and computes on words is what the algebra says of their numbers.
use Prim.Native.Nat.{ℕ, zero, suc, ◌+◌, ◌-◌, ◌*◌, ◌/◌, ◌%◌, ◌≤◌, ◌<◌}
use native.Mathlib.Omega.{arith}
use mathlib.Core.Path.{◌≡◌, refl, sym, ap, ◌∙◌}
use mathlib.Core.List.{List}
use mathlib.Core.Bool.{true, not, ◌&&◌, beq}
use borrow.Author.Tests.{eqb-true}
use lib.Dec.{eqb, ltb}
use lib.ListN.{length, get_or}
use Rattle.refusal.proofs.Bools.{and_right}
use Rattle.algebra.specs.Rows.{dot, state}
use Rattle.algebra.specs.Modes.{Modes, lo, hi, e, d, paired}
use Rattle.algebra.proofs.Dots.{dot_xor_l}
use Rattle.dense_block.specs.Words.{value, term_of, alike, xors}
use Rattle.dense_block.proofs.Values.{Words}
use Rattle.dense_block.proofs.Alikes.{alike_value}
use Rattle.dense_block.proofs.Alongs.{value_xors}
use Rattle.dense_block.proofs.Terms.{words_term, length_term}
use Rattle.majorana.specs.Sets.{modes_at}
use Rattle.majorana.specs.Held.{Held}
use Rattle.majorana.proofs.SetLaws.{x_row, z_row}

-- ---- parities

-- a parity against half an even difference
pub parity_half : (u c : ℕ) → u < 2 → c < 4 → c % 2 ≡ 0 → beq (eqb u 1) (eqb c 2) ≡ eqb u (c / 2)
parity_half zero zero h k l = refl
parity_half (suc zero) zero h k l = refl
parity_half zero (suc zero) h k l = absurd (omega arith)
parity_half (suc zero) (suc zero) h k l = absurd (omega arith)
parity_half zero (suc (suc zero)) h k l = refl
parity_half (suc zero) (suc (suc zero)) h k l = refl
parity_half zero (suc (suc (suc c))) h k l = absurd (omega arith)
parity_half (suc zero) (suc (suc (suc c))) h k l = absurd (omega arith)
parity_half (suc (suc u)) c h k l = absurd (omega arith)

-- a parity that differs from half a difference
pub parity_other : (u c : ℕ) → u < 2 → c < 4 → not (beq (eqb u 1) (ltb 1 c)) ≡ eqb ((u + c / 2) % 2) 1
parity_other zero zero h k = refl
parity_other (suc zero) zero h k = refl
parity_other zero (suc zero) h k = refl
parity_other (suc zero) (suc zero) h k = refl
parity_other zero (suc (suc zero)) h k = refl
parity_other (suc zero) (suc (suc zero)) h k = refl
parity_other zero (suc (suc (suc zero))) h k = refl
parity_other (suc zero) (suc (suc (suc zero))) h k = refl
parity_other zero (suc (suc (suc (suc c)))) h k = absurd (omega arith)
parity_other (suc zero) (suc (suc (suc (suc c)))) h k = absurd (omega arith)
parity_other (suc (suc u)) c h k = absurd (omega arith)

-- d is below 4
pub d_below : (m : Modes) (i : ℕ) → d m i < 4
unfolding d
d_below m i = omega arith

-- of a paired mode it is even
pub paired_even : (m : Modes) (i : ℕ) → paired m i ≡ true → d m i % 2 ≡ 0
unfolding paired
paired_even m i h = eqb-true (d m i % 2) 0 (and_right (eqb (lo m i).x (hi m i).x) (eqb (d m i % 2) 0) h)

-- ---- mode i of rows that are held

module _ {n w : ℕ} {xs zs ps : List ℕ} (held : Held n w xs zs ps) (i : ℕ) (low : i < n) where
  pub x_lo : 2 * i * w + w ≤ length xs
  x_lo = x_row held.fits (2 * i) (omega arith)

  pub x_hi : (2 * i + 1) * w + w ≤ length xs
  x_hi = x_row held.fits (2 * i + 1) (omega arith)

  pub z_lo : 2 * i * w + w ≤ length zs
  z_lo = z_row held.fits (2 * i) (omega arith)

  pub z_hi : (2 * i + 1) * w + w ≤ length zs
  z_hi = z_row held.fits (2 * i + 1) (omega arith)

  pub p_lo : get_or ps (2 * i) 0 < 4
  p_lo = held.small (2 * i) (omega arith)

  pub p_hi : get_or ps (2 * i + 1) 0 < 4
  p_hi = held.small (2 * i + 1) (omega arith)

  pub difference_is : (get_or ps (2 * i + 1) 0 + 7 - get_or ps (2 * i) 0) % 4 ≡ d (modes_at n w xs zs ps) i
  unfolding d
  difference_is = ap (λ (k : ℕ). k % 4) (omega (arith, p_lo))

  pub same_x : alike (term_of w xs (2 * i)) (term_of w xs (2 * i + 1)) ≡ eqb (value (term_of w xs (2 * i))) (value (term_of w xs (2 * i + 1)))
  same_x =
      alike_value (term_of w xs (2 * i)) (term_of w xs (2 * i + 1)) (length_term w xs (2 * i) x_lo ∙ sym (length_term w xs (2 * i + 1) x_hi))
      (words_term w xs (2 * i) held.x_words) (words_term w xs (2 * i + 1) held.x_words)

  pub paired_is : (alike (term_of w xs (2 * i)) (term_of w xs (2 * i + 1)) && eqb (d (modes_at n w xs zs ps) i % 2) 0) ≡ paired (modes_at n w xs zs ps) i
  unfolding paired
  paired_is = rw same_x

  -- both Z parts' parities are that of e
  pub reads_is : (t u : ℕ) → u ≡ (dot (value (term_of w zs (2 * i))) t + dot (value (term_of w zs (2 * i + 1))) t) % 2 → u ≡ dot (e (modes_at n w xs zs ps) i) t
  unfolding e
  reads_is t u h = h ∙ sym (dot_xor_l (value (term_of w zs (2 * i))) (value (term_of w zs (2 * i + 1))) t)

  pub moved : (t : List ℕ) → length t ≡ w → Words t → value (xors t (term_of w xs (2 * i))) ≡ state (lo (modes_at n w xs zs ps) i) (value t)
  moved t len pt = value_xors t (term_of w xs (2 * i)) (omega (arith, length_term w xs (2 * i) x_lo)) pt (words_term w xs (2 * i) held.x_words)
