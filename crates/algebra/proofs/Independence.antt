-- Rows that anticommute in pairs are independent: against a choice of them with xor zero, each row clashes with as many chosen rows as there are besides itself. So all
-- rows are chosen or none, and all of them are an even number.
use Prim.Native.Nat.{ℕ, zero, suc, ◌+◌, ◌*◌, ◌%◌, ◌^◌, ◌<◌, ◌≤◌}
use native.Mathlib.Nat.{eq-or-lt_of_le, le_of_suc-le-suc}
use native.Mathlib.Omega.{arith}
use mathlib.Core.Path.{◌≡◌, refl, sym, ◌∙◌}
use mathlib.Core.Logic.{◌⊎◌, inl, inr}
use mathlib.Core.Bool.{true, false, ◌&&◌}
use lib.Dec.{eqb, ltb}
use lib.Pow.{pow_pos}
use lib.Bits.{bit_xor, xor_zero_r}
use borrow.Author.Tests.{eqb-true, ltb-true}
use Rattle.refusal.proofs.Bools.{and_left, and_right, is_false}
use Rattle.refusal.proofs.Searches.{none_of}
use Rattle.algebra.specs.Rows.{bit, Row, clash}
use Rattle.algebra.specs.Modes.{Modes, Majorana}
use Rattle.algebra.specs.Choices.{pick, combo, dependent}
use Rattle.algebra.proofs.Digits.{bit_lt, zero_or_one, bits_below, bit_of_zero}
use Rattle.algebra.proofs.RowLaws.{clash_self, clash_identity, clash_times_l}

-- how many of the first k rows are chosen
count : ℕ → ℕ → ℕ
count choice zero = 0
count choice (suc k) = count choice k + bit choice k

all_chosen : (choice k : ℕ) → ((i : ℕ) → i < k → bit choice i ≡ 1) → count choice k ≡ k
unfolding count
all_chosen choice zero h = refl
all_chosen choice (suc k) h = omega (arith, all_chosen choice k (λ i l. h i (omega arith)), h k (omega arith))

-- the xor of the chosen rows; a clash does not see the phase
abbrev chosen : Modes → ℕ → ℕ → Row
chosen m choice k = record { p = 0; x = combo (λ i. (m.row i).x) k choice; z = combo (λ i. (m.row i).z) k choice }

module _ (m : Modes) (choice : ℕ) where
  clash_step : (k : ℕ) (r : Row) → clash (chosen m choice (suc k)) r ≡ (clash (chosen m choice k) r + bit choice k * clash (m.row k) r) % 2
  unfolding combo clash
  clash_step k r = go (bit choice k) (bit_lt choice k)
    where
      go : (b : ℕ) → b < 2
          → clash (record { p = 0; x = bit_xor (chosen m choice k).x (pick b (m.row k).x); z = bit_xor (chosen m choice k).z (pick b (m.row k).z) }) r
          ≡ (clash (chosen m choice k) r + b * clash (m.row k) r) % 2
      go zero h = rw (xor_zero_r (chosen m choice k).x, xor_zero_r (chosen m choice k).z) (omega arith)
      go (suc zero) h = clash_times_l (chosen m choice k) (m.row k) r ∙ omega arith
      go (suc (suc b)) h = absurd (omega arith)

  module _ (maj : Majorana m) where
    -- row j clashes with the chosen rows below it
    below : (j k : ℕ) → j < 2 * m.n → k ≤ j → clash (chosen m choice k) (m.row j) ≡ count choice k % 2
    unfolding Majorana combo count
    below j zero l h = clash_identity (m.row j)
    below j (suc k) l h =
        clash_step k (m.row j) ∙ rw (maj k j (omega arith) l (omega arith)) (omega (arith, below j k l (omega arith)))

    -- and with all of them but itself
    besides : (j k : ℕ) → j < k → k ≤ 2 * m.n → clash (chosen m choice k) (m.row j) ≡ (count choice k + bit choice j) % 2
    unfolding Majorana count
    besides j zero l h = absurd (omega arith)
    besides j (suc k) l h = go (eq-or-lt_of_le (le_of_suc-le-suc l)) (λ g. besides j k g (omega arith))
      where
        go : (j ≡ k) ⊎ (j < k) → (j < k → clash (chosen m choice k) (m.row j) ≡ (count choice k + bit choice j) % 2)
            → clash (chosen m choice (suc k)) (m.row j) ≡ (count choice k + bit choice k + bit choice j) % 2
        go (inl e) rest = rw e (clash_step k (m.row k) ∙ rw (clash_self (m.row k)) (omega (arith, below k k h (omega arith))))
        go (inr g) rest = clash_step k (m.row j) ∙ rw (maj k j h (omega arith) (omega arith)) (omega (arith, rest g))

    nothing_chosen : choice < 2 ^ (2 * m.n) → (chosen m choice (2 * m.n)).x ≡ 0 → (chosen m choice (2 * m.n)).z ≡ 0 → choice ≡ 0
    nothing_chosen l hx hz = go (zero_or_one (count choice (2 * m.n) % 2) (omega arith))
      where
        same : (j : ℕ) → j < 2 * m.n → bit choice j ≡ count choice (2 * m.n) % 2
        same j g =
            let zeros : clash (chosen m choice (2 * m.n)) (m.row j) ≡ 0 = rw (hx, hz) (clash_identity (m.row j)) in
            omega (arith, besides j (2 * m.n) g (omega arith), bit_lt choice j)

        go : (count choice (2 * m.n) % 2 ≡ 0) ⊎ (count choice (2 * m.n) % 2 ≡ 1) → choice ≡ 0
        go (inl e) = bits_below (2 * m.n) choice 0 l (pow_pos (2 * m.n)) (λ j g. same j g ∙ e ∙ sym (bit_of_zero j))
        go (inr e) = absurd (omega (arith, all_chosen choice (2 * m.n) (λ j g. same j g ∙ e)))

pub anticommuting_independent : (m : Modes) → Majorana m → dependent m ≡ false
unfolding dependent
anticommuting_independent m maj = none_of (2 ^ (2 * m.n)) _ (λ choice l. is_false _ (nonempty choice l))
  where
    nonempty : (choice : ℕ) → choice < 2 ^ (2 * m.n)
        → (ltb 0 choice && (eqb (chosen m choice (2 * m.n)).x 0 && eqb (chosen m choice (2 * m.n)).z 0)) ≡ true → ⊥
    nonempty choice l t =
        let r = chosen m choice (2 * m.n) in
        let zeros = and_right (ltb 0 choice) (eqb r.x 0 && eqb r.z 0) t in
        let x = eqb-true r.x 0 (and_left (eqb r.x 0) (eqb r.z 0) zeros) in
        let z = eqb-true r.z 0 (and_right (eqb r.x 0) (eqb r.z 0) zeros) in
        omega (arith, ltb-true 0 choice (and_left (ltb 0 choice) _ t), nothing_chosen m choice maj l x z)
