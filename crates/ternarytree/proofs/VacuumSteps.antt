-- The vacuum rule at the all-zero vacuum, mode by mode: the X parts agree and d is 0.
use Prim.Native.Nat.{ℕ, ◌+◌, ◌-◌, ◌*◌, ◌/◌, ◌%◌, ◌<◌, ◌≤◌}
use native.Mathlib.Omega.{arith}
use mathlib.Core.Path.{◌≡◌, refl, sym, ap₂, ◌∙◌}
use mathlib.Core.Logic.{◌≢◌}
use mathlib.Core.Bool.{Bool, true, false, ◌&&◌}
use mathlib.Core.List.{List}
use borrow.Author.Tests.{eq-eqb, ne_eqb, eqb-true, eqb-false}
use lib.Dec.{eqb}
use lib.ListN.{length}
use Rattle.refusal.proofs.Bools.{and_right, both}
use Rattle.refusal.proofs.Searches.{all_of, not_all}
use Rattle.algebra.specs.Modes.{Modes, lo, hi, e, d, paired, empty, vacuum_rule}
use Rattle.algebra.proofs.Dots.{dot_zero_r}
use Rattle.dense_block.specs.Words.{alike, term_of}
use Rattle.dense_block.proofs.Values.{Words}
use Rattle.dense_block.proofs.Alikes.{alike_value}
use Rattle.dense_block.proofs.Terms.{row_within, words_term, length_term}
use Rattle.ternarytree.specs.Tables.{nth, StoredX}

module _ (m : Modes) where
  -- mode i has equal X parts and d = 0
  empty_zero : (i : ℕ) → (lo m i).x ≡ (hi m i).x → d m i ≡ 0 → empty m i 0 ≡ true
  unfolding empty paired
  empty_zero i h z = both (both (eq-eqb _ _ h) (rw z)) (rw (z, dot_zero_r (e m i)))

  x_differs : (i : ℕ) → (lo m i).x ≢ (hi m i).x → empty m i 0 ≡ false
  unfolding empty paired
  x_differs i h = rw (ne_eqb (lo m i).x (hi m i).x h)

  even : (i : ℕ) → paired m i ≡ true → d m i % 2 ≡ 0
  unfolding paired
  even i h = eqb-true _ _ (and_right (eqb (lo m i).x (hi m i).x) _ h)

  turned : (i : ℕ) → d m i ≢ 0 → empty m i 0 ≡ false
  unfolding empty
  turned i h = rw (dot_zero_r (e m i)) (go (paired m i) refl)
    where
      go : (b : Bool) → paired m i ≡ b → (b && eqb 0 (d m i / 2)) ≡ false
      go false q = refl
      go true q = ne_eqb 0 (d m i / 2) (λ z. h (omega (arith, even i q)))

  pub rule_fails : (i : ℕ) → i < m.n → empty m i 0 ≡ false → false ≡ vacuum_rule m 0
  unfolding vacuum_rule
  rule_fails i h f = sym (not_all m.n (λ i. empty m i 0) i h f)

  pub rule_holds : ((i : ℕ) → i < m.n → empty m i 0 ≡ true) → true ≡ vacuum_rule m 0
  unfolding vacuum_rule
  rule_holds h = sym (all_of m.n (λ i. empty m i 0) h)

-- the phases of a mode with d = 0
d_zero : (p q : ℕ) → p ≤ 3 → q ≤ 3 → (p + 1) % 4 ≡ q → (q + 4 - p + 3) % 4 ≡ 0
d_zero p q h g e = omega arith

d_other : (p q : ℕ) → p ≤ 3 → q ≤ 3 → (p + 1) % 4 ≢ q → (q + 4 - p + 3) % 4 ≢ 0
d_other p q h g e z = e (omega arith)

-- the same, of the rows as they are stored
module _ (m : Modes) (n w : ℕ) (xs ps : List ℕ) (s : StoredX m n w xs ps) (fits : 2 * n * w ≤ length xs) (words : Words xs) (small : (k : ℕ) → k < 2 * n → nth ps k ≤ 3) (i : ℕ) (h : i < n) where
  low : 2 * i < 2 * n
  low = omega arith

  next : 2 * i + 1 < 2 * n
  next = omega arith

  parts : alike (term_of w xs (2 * i)) (term_of w xs (2 * i + 1)) ≡ eqb (lo m i).x (hi m i).x
  parts =
      alike_value (term_of w xs (2 * i)) (term_of w xs (2 * i + 1))
      (length_term w xs (2 * i) (row_within (2 * i) (2 * n) w (length xs) low fits) ∙ sym (length_term w xs (2 * i + 1) (row_within (2 * i + 1) (2 * n) w (length xs) next fits)))
      (words_term w xs (2 * i) words) (words_term w xs (2 * i + 1) words)
      ∙ ap₂ eqb (s.x_part (2 * i) low) (s.x_part (2 * i + 1) next)

  pub mode_differs : alike (term_of w xs (2 * i)) (term_of w xs (2 * i + 1)) ≡ false → false ≡ vacuum_rule m 0
  mode_differs f = rule_fails m i (omega (arith, s.size)) (x_differs m i (eqb-false _ _ (sym parts ∙ f)))

  pub mode_turned : (nth ps (2 * i) + 1) % 4 ≢ nth ps (2 * i + 1) → false ≡ vacuum_rule m 0
  unfolding d
  mode_turned f =
      rule_fails m i (omega (arith, s.size))
      (turned m i (rw (← s.phase (2 * i) low, ← s.phase (2 * i + 1) next) (d_other (nth ps (2 * i)) (nth ps (2 * i + 1)) (small (2 * i) low) (small (2 * i + 1) next) f)))

  pub mode_empty : alike (term_of w xs (2 * i)) (term_of w xs (2 * i + 1)) ≡ true → (nth ps (2 * i) + 1) % 4 ≡ nth ps (2 * i + 1) → empty m i 0 ≡ true
  unfolding d
  mode_empty f g =
      empty_zero m i (eqb-true _ _ (sym parts ∙ f))
      (rw (← s.phase (2 * i) low, ← s.phase (2 * i + 1) next) (d_zero (nth ps (2 * i)) (nth ps (2 * i + 1)) (small (2 * i) low) (small (2 * i + 1) next) g))
