-- What `empty` means: mode i is empty in a basis state exactly if (γ_2i + i γ_2i+1) / 2 kills the state. The amplitudes of two basis states cancel only if the states
-- are the same and the powers of i differ by 2, which is tried on all 16; and that is what `empty` asks of the phases and of what the two rows read, on all 64 cases.
use Prim.Native.Nat.{ℕ, ◌+◌, ◌-◌, ◌*◌, ◌/◌, ◌%◌, ◌<◌}
use native.Mathlib.Omega.{arith}
use mathlib.Core.Path.{◌≡◌, refl, ap, ◌∙◌, sym}
use mathlib.Core.Bool.{Bool, true, false, cond, ◌&&◌, beq}
use lib.Dec.{eqb}
use lib.Bits.{bit_xor}
use lib.IntN.{ℤ, pos, negsuc, nat_abs}
use borrow.Author.Tests.{eqb-true, eq-eqb}
use Rattle.refusal.specs.Search.{all_below}
use Rattle.refusal.proofs.Bools.{and_left, and_right, both, beq_same, never}
use Rattle.refusal.proofs.Searches.{all_at}
use Rattle.algebra.specs.Rows.{dot, state, phase}
use Rattle.algebra.specs.Modes.{Modes, lo, hi, e, d, paired, empty}
use Rattle.algebra.specs.Lowering.{Gaussian, nothing, plus, power_of_i, amplitude, lowered, Kills}
use Rattle.algebra.proofs.Digits.{xor_cancel}
use Rattle.algebra.proofs.Dots.{twice_dot, dot_lt, dot_xor_l}

-- ---- when two amplitudes cancel

abbrev is_nothing : Gaussian → Bool
is_nothing a = eqb (nat_abs a.re + nat_abs a.im) 0

no_size : (a : ℤ) → nat_abs a ≡ 0 → a ≡ pos 0
no_size (pos n) h = ap pos h
no_size (negsuc n) h = absurd (omega arith)

is_nothing_lem : (a : Gaussian) → is_nothing a ≡ true → a ≡ nothing
is_nothing_lem a h =
    let z = eqb-true (nat_abs a.re + nat_abs a.im) 0 h in
    let re = no_size a.re (omega arith) in
    let im = no_size a.im (omega arith) in
    λ i. record { re = re i; im = im i }

-- powers of i cancel exactly if they differ by 2
abbrev cancels : ℕ → ℕ → Bool
cancels p q = beq (is_nothing (plus (power_of_i p) (power_of_i (q + 1)))) (eqb ((q + 1) % 4) ((p + 2) % 4))

powers_cancel : (p q : ℕ) → p < 4 → q < 4 → is_nothing (plus (power_of_i p) (power_of_i (q + 1))) ≡ eqb ((q + 1) % 4) ((p + 2) % 4)
unfolding all_below
powers_cancel p q hp hq = beq_same _ _ (all_at 4 (cancels p) (all_at 4 (λ p. all_below 4 (cancels p)) refl p hp) q hq)

-- and one of them alone does not vanish
alone : (p : ℕ) → p < 4 → plus (power_of_i p) nothing ≡ nothing → ⊥
unfolding all_below
alone p hp h = never (ap is_nothing h) (beq_same _ false (all_at 4 (λ p. beq (is_nothing (plus (power_of_i p) nothing)) false) refl p hp))

module _ (p q u v : ℕ) (hp : p < 4) (hq : q < 4) where
  abbrev sum : ℕ → Gaussian
  sum t = plus (amplitude p u t) (amplitude (q + 1) v t)

  -- at u the first is not zero, so the second leads there too
  same_state : ((t : ℕ) → sum t ≡ nothing) → u ≡ v
  same_state h = go (eqb v u) refl (rw (eq-eqb u u refl) at (h u))
    where
      go : (b : Bool) → eqb v u ≡ b → plus (power_of_i p) (cond b (power_of_i (q + 1)) nothing) ≡ nothing → u ≡ v
      go true e k = sym (eqb-true v u e)
      go false e k = absurd (alone p hp k)

  opposite : ((t : ℕ) → sum t ≡ nothing) → (q + 1) % 4 ≡ (p + 2) % 4
  opposite h =
      let k : plus (power_of_i p) (power_of_i (q + 1)) ≡ nothing = rw (eq-eqb u u refl, eq-eqb v u (sym (same_state h))) at (h u) in
      eqb-true _ _ (sym (powers_cancel p q hp hq) ∙ ap is_nothing k)

  cancelled : u ≡ v → (q + 1) % 4 ≡ (p + 2) % 4 → (t : ℕ) → sum t ≡ nothing
  cancelled e k t = rw (← e) (go (eqb u t))
    where
      go : (b : Bool) → plus (cond b (power_of_i p) nothing) (cond b (power_of_i (q + 1)) nothing) ≡ nothing
      go true = is_nothing_lem _ (powers_cancel p q hp hq ∙ eq-eqb _ _ k)
      go false = refl

-- ---- what the two rows read

-- p and q are the phases of lo and hi, u and w what they read: i hi s = - lo s exactly if d is even and u + w = d/2 mod 2
abbrev alike : ℕ → ℕ → ℕ → ℕ → Bool
alike p q u w =
    beq (eqb (((q + 2 * w) % 4 + 1) % 4) (((p + 2 * u) % 4 + 2) % 4)) (eqb ((q + 4 - p + 3) % 4 % 2) 0 && eqb ((u + w) % 2) ((q + 4 - p + 3) % 4 / 2))

cases : (p q u w : ℕ) → p < 4 → q < 4 → u < 2 → w < 2 → alike p q u w ≡ true
unfolding all_below
cases p q u w hp hq hu hw =
    all_at 2 (alike p q u)
    (all_at 2 (λ u. all_below 2 (alike p q u))
    (all_at 4 (λ q. all_below 2 (λ u. all_below 2 (alike p q u)))
    (all_at 4 (λ p. all_below 4 (λ q. all_below 2 (λ u. all_below 2 (alike p q u)))) refl p hp) q hq) u hu) w hw

module _ (m : Modes) (i s : ℕ) (small-lo : (lo m i).p < 4) (small-hi : (hi m i).p < 4) where
  -- the signs are opposite exactly if d is even and e·s = d/2
  signs : eqb ((phase (hi m i) s + 1) % 4) ((phase (lo m i) s + 2) % 4) ≡ (eqb (d m i % 2) 0 && eqb (dot (e m i) s) (d m i / 2))
  unfolding e d
  signs =
      rw (twice_dot (hi m i).p (hi m i).z s, twice_dot (lo m i).p (lo m i).z s, dot_xor_l)
      (beq_same _ _ (cases (lo m i).p (hi m i).p (dot (lo m i).z s) (dot (hi m i).z s) small-lo small-hi (dot_lt _ _) (dot_lt _ _)))

  low_lo : phase (lo m i) s < 4
  low_lo = omega arith

  low_hi : phase (hi m i) s < 4
  low_hi = omega arith

  pub killed_empty : Kills m i s → empty m i s ≡ true
  unfolding empty paired lowered
  killed_empty h =
      let same = same_state (phase (lo m i) s) (phase (hi m i) s) (state (lo m i) s) (state (hi m i) s) low_lo low_hi h in
      let sign = opposite (phase (lo m i) s) (phase (hi m i) s) (state (lo m i) s) (state (hi m i) s) low_lo low_hi h in
      let r = sym signs ∙ eq-eqb _ _ sign in
      both (both (eq-eqb _ _ (xor_cancel s _ _ same)) (and_left (eqb (d m i % 2) 0) _ r)) (and_right (eqb (d m i % 2) 0) _ r)

  pub empty_killed : empty m i s ≡ true → Kills m i s
  unfolding empty paired lowered
  empty_killed h =
      let p = and_left (paired m i) _ h in
      let x = eqb (lo m i).x (hi m i).x in
      cancelled (phase (lo m i) s) (phase (hi m i) s) (state (lo m i) s) (state (hi m i) s) low_lo low_hi
      (ap (bit_xor s) (eqb-true _ _ (and_left x _ p))) (eqb-true _ _ (signs ∙ both (and_right x _ p) (and_right (paired m i) _ h)))
