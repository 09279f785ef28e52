-- Laws of choices of rows: how large their xor is, and what a row reads of it. By induction on how many rows there are to choose from.
use Prim.Native.Nat.{ℕ, zero, suc, ◌+◌, ◌*◌, ◌/◌, ◌%◌, ◌^◌, ◌<◌}
use native.Mathlib.Nat.{eq-or-lt_of_le, le_of_suc-le-suc}
use native.Mathlib.Omega.{arith}
use mathlib.Core.Path.{◌≡◌, sym, ap, ◌∙◌}
use mathlib.Core.Logic.{◌⊎◌, inl, inr, ◌≢◌}
use lib.Pow.{pow_pos}
use lib.Bits.{xor_lt}
use Rattle.algebra.specs.Rows.{bit, dot}
use Rattle.algebra.specs.Choices.{pick, combo}
use Rattle.algebra.proofs.Digits.{bit_lt, bit_zero, bit_half}
use Rattle.algebra.proofs.Dots.{dot_zero_r, dot_xor_r}

-- rows on q columns have a xor on q columns
pub combo_below : (q : ℕ) (f : ℕ → ℕ) (k choice : ℕ) → ((i : ℕ) → i < k → f i < 2 ^ q) → combo f k choice < 2 ^ q
unfolding combo
combo_below q f zero choice h = pow_pos q
combo_below q f (suc k) choice h = xor_lt q (combo f k choice) (pick (bit choice k) (f k)) (combo_below q f k choice (λ i l. h i (omega arith))) (go (bit choice k))
  where
    go : (b : ℕ) → pick b (f k) < 2 ^ q
    go zero = pow_pos q
    go (suc b) = h k (omega arith)

-- a row is read if it is chosen
dot_pick : (a b x : ℕ) → b < 2 → dot a (pick b x) ≡ b * dot a x
dot_pick a zero x h = dot_zero_r a ∙ omega arith
dot_pick a (suc zero) x h = omega arith
dot_pick a (suc (suc b)) x h = absurd (omega arith)

module _ (a : ℕ) (f : ℕ → ℕ) (choice : ℕ) where
  combo_step : (k d : ℕ) → dot a (f k) ≡ d → dot a (combo f (suc k) choice) ≡ (dot a (combo f k choice) + bit choice k * d) % 2
  unfolding combo
  combo_step k d h = rw (dot_xor_r, dot_pick a (bit choice k) (f k) (bit_lt choice k), h)

  -- what has no common ones with any of the rows reads nothing
  pub combo_unread : (k : ℕ) → ((i : ℕ) → i < k → dot a (f i) ≡ 0) → dot a (combo f k choice) ≡ 0
  unfolding combo
  combo_unread zero h = dot_zero_r a
  combo_unread (suc k) h = omega (arith, combo_step k 0 (h k (omega arith)), combo_unread k (λ i l. h i (omega arith)))

  -- what reads row i alone reads whether it is chosen
  pub combo_read : (k i : ℕ) → i < k → dot a (f i) ≡ 1 → ((j : ℕ) → j < k → i ≢ j → dot a (f j) ≡ 0) → dot a (combo f k choice) ≡ bit choice i
  combo_read zero i l own others = absurd (omega arith)
  combo_read (suc k) i l own others = go (eq-or-lt_of_le (le_of_suc-le-suc l)) (λ l. combo_read k i l own (λ j g. others j (omega arith)))
    where
      go : (i ≡ k) ⊎ (i < k) → (i < k → dot a (combo f k choice) ≡ bit choice i) → dot a (combo f (suc k) choice) ≡ bit choice i
      go (inl e) rest =
          rw (← e)
          (omega (arith, combo_step i 1 own, combo_unread i (λ j g. others j (omega arith) (omega arith)), bit_lt choice i))
      go (inr g) rest = omega (arith, combo_step k 0 (others k (omega arith) (omega arith)), rest g, bit_lt choice i)

-- any digits below n are those of a choice
pub choice_of : (n : ℕ) (f : ℕ → ℕ) → ((i : ℕ) → f i < 2) → (choice : ℕ) × ((i : ℕ) → i < n → bit choice i ≡ f i)
choice_of zero f h = (0, λ i l. absurd (omega arith))
choice_of (suc n) f h = let r = choice_of n (λ i. f (suc i)) (λ i. h (suc i)) in (f 0 + 2 * r.0, go r)
  where
    go : (r : (choice : ℕ) × ((i : ℕ) → i < n → bit choice i ≡ f (suc i))) (i : ℕ) → i < suc n → bit (f 0 + 2 * r.0) i ≡ f i
    go r zero l = bit_zero (f 0 + 2 * r.0) ∙ omega (arith, h 0)
    go r (suc i) l =
        let e : suc i ≡ 1 + i = omega arith in
        let half : (f 0 + 2 * r.0) / 2 ≡ r.0 = omega (arith, h 0) in
        ap (bit (f 0 + 2 * r.0)) e ∙ sym (bit_half (f 0 + 2 * r.0) i) ∙ ap (λ (x : ℕ). bit x i) half ∙ r.1 i (omega arith)
