-- Words made zero, one by one.
use Rattle.std.proofs.Common.{◌≡◌, ℕ, zero, suc, ◌+◌, ◌≤◌, min, List, [], ◌∷◌, ◌++◌, length, take, drop, set, refl, ap, add-one, arith}
use native.Mathlib.Nat.{zero-min, min-zero, suc-min-suc}
use Rattle.dense_block.specs.Words.{zeroed}

zeroed_suc : (ws : List ℕ) (i : ℕ) → set (zeroed i ws) i 0 ≡ zeroed (suc i) ws
zeroed_suc [] zero = refl
zeroed_suc [] (suc i) = refl
zeroed_suc (w ∷ ws) zero = refl
zeroed_suc (w ∷ ws) (suc i) = ap (λ (l : List ℕ). 0 ∷ l) (zeroed_suc ws i)

pub zeroed_step : (ws : List ℕ) (i : ℕ) → set (zeroed i ws) i 0 ≡ zeroed (i + 1) ws
zeroed_step ws i = rw add-one (zeroed_suc ws i)

-- the first words cleared by themselves
pub zeroed_take : (n : ℕ) (ws : List ℕ) → n ≤ length ws → zeroed n (take n ws) ++ drop n ws ≡ zeroed n ws
zeroed_take zero ws h = refl
zeroed_take (suc n) [] h = absurd (omega arith)
zeroed_take (suc n) (w ∷ ws) h = ap (λ (l : List ℕ). 0 ∷ l) (zeroed_take n ws (omega arith))

pub length_zeroed : (n : ℕ) (ws : List ℕ) → length (zeroed n ws) ≡ length ws
length_zeroed zero ws = refl
length_zeroed (suc n) [] = refl
length_zeroed (suc n) (w ∷ ws) = ap suc (length_zeroed n ws)

-- past the end there is nothing to clear
pub zeroed_min : (n : ℕ) (ws : List ℕ) → zeroed (min n (length ws)) ws ≡ zeroed n ws
zeroed_min zero ws = rw zero-min
zeroed_min (suc n) [] = rw min-zero
zeroed_min (suc n) (w ∷ ws) = rw suc-min-suc (ap (λ (l : List ℕ). 0 ∷ l) (zeroed_min n ws))

-- what is cleared does not matter
pub zeroed_same : (n : ℕ) (ws vs : List ℕ) → length ws ≡ length vs → drop n ws ≡ drop n vs → zeroed n ws ≡ zeroed n vs
zeroed_same zero ws vs e h = h
zeroed_same (suc n) [] [] e h = refl
zeroed_same (suc n) [] (v ∷ vs) e h = absurd (omega arith)
zeroed_same (suc n) (w ∷ ws) [] e h = absurd (omega arith)
zeroed_same (suc n) (w ∷ ws) (v ∷ vs) e h = ap (λ (l : List ℕ). 0 ∷ l) (zeroed_same n ws vs (omega arith) h)

pub drop_zeroed : (n : ℕ) (ws : List ℕ) → drop n (zeroed n ws) ≡ drop n ws
drop_zeroed zero ws = refl
drop_zeroed (suc n) [] = refl
drop_zeroed (suc n) (w ∷ ws) = drop_zeroed n ws
