-- Laws of choices of rows: the xor of a choice is linear in the choice, and reads its digits below the number of rows. By induction on that number.
use Prim.Native.Nat.{ℕ, zero, suc, ◌+◌, ◌*◌, ◌%◌, ◌^◌, ◌<◌}
use native.Mathlib.Nat.{eq-or-lt_of_le, le_of_suc-le-suc}
use native.Mathlib.Omega.{arith}
use mathlib.Core.Path.{◌≡◌, refl, sym, ap₂, ◌∙◌}
use mathlib.Core.Logic.{◌⊎◌, inl, inr}
use lib.Pow.{pow_pos}
use lib.Bits.{bit_xor, xor_zero_l, xor_zero_r, xor_self, xor_block}
use Rattle.algebra.specs.Rows.{bit}
use Rattle.algebra.specs.Choices.{pick, combo}
use Rattle.algebra.proofs.ChoiceLaws.{combo_below}
use Rattle.algebra.proofs.Digits.{bit_lt, bit_of_xor, bit_of_zero, bit_pow, bit_pow_other, zero_or_one, xor_swap}

pick_xor : (u w x : ℕ) → u < 2 → w < 2 → pick ((u + w) % 2) x ≡ bit_xor (pick u x) (pick w x)
pick_xor zero zero x h k = refl
pick_xor zero (suc zero) x h k = sym (xor_zero_l x)
pick_xor (suc zero) zero x h k = sym (xor_zero_r x)
pick_xor (suc zero) (suc zero) x h k = sym (xor_self x)
pick_xor zero (suc (suc w)) x h k = absurd (omega arith)
pick_xor (suc zero) (suc (suc w)) x h k = absurd (omega arith)
pick_xor (suc (suc u)) w x h k = absurd (omega arith)

-- the sum of two choices
pub combo_xor : (f : ℕ → ℕ) (k a b : ℕ) → combo f k (bit_xor a b) ≡ bit_xor (combo f k a) (combo f k b)
unfolding combo
combo_xor f zero a b = refl
combo_xor f (suc k) a b =
    rw (combo_xor f k a b, bit_of_xor a b k, pick_xor (bit a k) (bit b k) (f k) (bit_lt a k) (bit_lt b k))
    (xor_swap (combo f k a) (combo f k b) (pick (bit a k) (f k)) (pick (bit b k) (f k)))

-- choices with the same digits below k
pub combo_ext : (f : ℕ → ℕ) (k a b : ℕ) → ((i : ℕ) → i < k → bit a i ≡ bit b i) → combo f k a ≡ combo f k b
unfolding combo
combo_ext f zero a b h = refl
combo_ext f (suc k) a b h = rw (combo_ext f k a b (λ i g. h i (omega arith)), h k (omega arith))

-- the same rows
pub combo_rows : (f g : ℕ → ℕ) (k m : ℕ) → ((i : ℕ) → i < k → f i ≡ g i) → combo f k m ≡ combo g k m
unfolding combo
combo_rows f g zero m h = refl
combo_rows f g (suc k) m h = rw (combo_rows f g k m (λ i l. h i (omega arith)), h k (omega arith))

-- the empty choice
pub combo_zero : (f : ℕ → ℕ) (k : ℕ) → combo f k 0 ≡ 0
unfolding combo
combo_zero f zero = refl
combo_zero f (suc k) = rw (combo_zero f k, bit_of_zero k)

-- the choice of one row
pub combo_pow : (f : ℕ → ℕ) (k r : ℕ) → r < k → combo f k (2 ^ r) ≡ f r
unfolding combo
combo_pow f zero r h = absurd (omega arith)
combo_pow f (suc k) r h = go (eq-or-lt_of_le (le_of_suc-le-suc h)) (combo_pow f k r)
  where
    go : (r ≡ k) ⊎ (r < k) → (r < k → combo f k (2 ^ r) ≡ f r) → bit_xor (combo f k (2 ^ r)) (pick (bit (2 ^ r) k) (f k)) ≡ f r
    go (inl e) rest =
        rw (e, bit_pow k, combo_ext f k (2 ^ k) 0 (λ i g. bit_pow_other k i (omega arith) ∙ sym (bit_of_zero i)), combo_zero f k)
        (xor_zero_l (f k))
    go (inr l) rest = rw (rest l, bit_pow_other r k (omega arith)) (xor_zero_r (f r))

-- what holds of 0, of a sum and of each row chosen holds of the choice
pub combo_holds : (P : ℕ → Type 0) → P 0 → ((a b : ℕ) → P a → P b → P (bit_xor a b))
    → (f : ℕ → ℕ) (k m : ℕ) → ((i : ℕ) → i < k → bit m i ≡ 1 → P (f i)) → P (combo f k m)
unfolding combo
combo_holds P z s f zero m h = z
combo_holds P z s f (suc k) m h = s (combo f k m) (pick (bit m k) (f k)) (combo_holds P z s f k m (λ i l o. h i (omega arith) o)) (go (zero_or_one (bit m k) (bit_lt m k)))
  where
    go : (bit m k ≡ 0) ⊎ (bit m k ≡ 1) → P (pick (bit m k) (f k))
    go (inl e) = rw e z
    go (inr e) = rw e (h k (omega arith) e)

-- rows in two parts, x below column n and z from it on
module _ (n : ℕ) (f x z : ℕ → ℕ) where
  pick_parts : (b k : ℕ) → f k ≡ z k * 2 ^ n + x k → pick b (f k) ≡ pick b (z k) * 2 ^ n + pick b (x k)
  pick_parts zero k h = omega arith
  pick_parts (suc b) k h = h

  pick_low : (b k : ℕ) → x k < 2 ^ n → pick b (x k) < 2 ^ n
  pick_low zero k h = pow_pos n
  pick_low (suc b) k h = h

  pub combo_parts : (k m : ℕ) → ((i : ℕ) → i < k → (x i < 2 ^ n) × (f i ≡ z i * 2 ^ n + x i)) → combo f k m ≡ combo z k m * 2 ^ n + combo x k m
  unfolding combo
  combo_parts zero m h = omega arith
  combo_parts (suc k) m h =
      ap₂ bit_xor (combo_parts k m (λ i l. h i (omega arith))) (pick_parts (bit m k) k (h k (omega arith)).1)
      ∙ xor_block n (combo z k m) (pick (bit m k) (z k)) (combo x k m) (pick (bit m k) (x k)) (combo_below n x k m (λ i l. (h i (omega arith)).0)) (pick_low (bit m k) k (h k (omega arith)).0)
