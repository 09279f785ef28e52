-- Elimination step by step, and what it tells of choices of the first rows. The heart is `hits`: a choice of the first j rows is zero in the first n columns, or has
-- there the pivot of a settled row, which no later row has.
use Prim.Native.Nat.{ℕ, zero, suc, ◌+◌, ◌*◌, ◌/◌, ◌%◌, ◌^◌, ◌≤◌, ◌<◌}
use native.Mathlib.Nat.{eq-or-lt_of_le, le_of_suc-le-suc, zero-mod, div_self, lt_of_lt_of_le, div-eq_of_lt, mod-lt}
use native.Mathlib.Decide.{dec_le}
use native.Mathlib.Omega.{arith}
use mathlib.Core.Path.{◌≡◌, refl, sym, ap, ap₂, ◌∙◌}
use mathlib.Core.Logic.{◌⊎◌, inl, inr}
use lib.Pow.{pow_pos, pow_mono, split}
use lib.Bits.{bit_xor, xor_zero_r, xor_shr}
use Rattle.algebra.specs.Rows.{bit}
use Rattle.algebra.specs.Choices.{pick, combo}
use Rattle.algebra.proofs.Digits.{bit_lt, bit_of_xor, bit_of_zero, zero_or_one, xor_back, low_or_top, top_lt}
use Rattle.algebra.proofs.Combos.{combo_xor, combo_zero, combo_pow}
use Rattle.elimination.specs.Eliminated.{Swept, Near, Settled, dead, live, Eliminated}
use Rattle.elimination.proofs.Lows.{low_bit, low_bits, low_xor}

-- two numbers with the same highest digit
cancel_top : (a b j : ℕ) → a / 2 ^ j ≡ 1 → b / 2 ^ j ≡ 1 → bit_xor a b < 2 ^ j
cancel_top a b j h k =
    let z : bit_xor a b / 2 ^ j ≡ 0 = rw (xor_shr, h, k) refl in
    omega (arith, split (bit_xor a b) j, mod-lt (bit_xor a b) (pow_pos j), ap (λ (x : ℕ). x * 2 ^ j) z)

module _ (n k : ℕ) (f g : ℕ → ℕ) where
  -- a choice of the first j rows that is not zero in the first n columns has there a column of a settled row that no later row has
  data Hit (j x : ℕ) : Type 0 where
    none : x % 2 ^ n ≡ 0 → Hit j x
    hit : (t p : ℕ) → t < j → p < n → bit x p ≡ 1 → ((r : ℕ) → t < r → r < k → bit (g r) p ≡ 0) → Hit j x

  more : (j x : ℕ) → Hit j x → Hit (suc j) x
  more j x (none z) = none z
  more j x (hit t p l b o c) = hit t p (omega arith) b o c

  -- with row j added
  with_row : (j x : ℕ) → j < k → Settled n k g j → Hit j x → Hit (suc j) (bit_xor x (g j))
  with_row j x h (dead z) (none y) = none (low_xor n x (g j) y ∙ z)
  with_row j x h (live p b o z c) (none y) = hit j p (omega arith) b (rw (bit_of_xor, low_bit n x p y b, o)) c
  with_row j x h s (hit t p l b o c) = hit t p (omega arith) b (rw (bit_of_xor, o, c j l h)) c

  module _ (s : ℕ) (d : Eliminated n k f g s) where
    hits : (j : ℕ) → j ≤ s → j ≤ k → (m : ℕ) → m < 2 ^ j → Hit j (combo f k m)
    hits zero a b m h = let e : m ≡ 0 = omega arith in none (rw (e, combo_zero f k) (zero-mod (2 ^ n)))
    hits (suc j) a b m h = go (low_or_top m j h) (hits j (omega arith) (omega arith))
      where
        near : Near k f (g j) j
        near = d.near j (omega arith)

        less : ℕ
        less = bit_xor m near.mask

        same : bit_xor (combo f k less) (g j) ≡ combo f k m
        same = rw (near.is, ← combo_xor f k less near.mask, xor_back)

        go : (m < 2 ^ j) ⊎ (m / 2 ^ j ≡ 1) → ((m : ℕ) → m < 2 ^ j → Hit j (combo f k m)) → Hit (suc j) (combo f k m)
        go (inl l) rest = more j (combo f k m) (rest m l)
        go (inr t) rest = rw same at (with_row j (combo f k less) (omega arith) (d.settled j (omega arith)) (rest less (cancel_top m near.mask j t near.own)))

    -- a choice that is zero in the first n columns: its last row is zero there after elimination
    pub dead_row : (m j : ℕ) → m / 2 ^ j ≡ 1 → j ≤ s → j < k → combo f k m % 2 ^ n ≡ 0 → g j % 2 ^ n ≡ 0
    dead_row m j t a b z = go (hits j a (omega arith) less (cancel_top m near.mask j t near.own))
      where
        near : Near k f (g j) j
        near = d.near j b

        less : ℕ
        less = bit_xor m near.mask

        same : combo f k less % 2 ^ n ≡ g j % 2 ^ n
        same = rw (combo_xor f k m near.mask, ← near.is) (low_xor n (combo f k m) (g j) z)

        go : Hit j (combo f k less) → g j % 2 ^ n ≡ 0
        go (none y) = sym same ∙ y
        go (hit t p l q o c) = absurd (omega (arith, o, c j l b, low_bits n (combo f k less) (g j) p same q))

    -- ---- the steps

    next : Settled n k g s → Eliminated n k f g (suc s)
    next y = record { near = d.near; settled = λ t h. go t (eq-or-lt_of_le (le_of_suc-le-suc h)) }
      where
        go : (t : ℕ) → (t ≡ s) ⊎ (t < s) → Settled n k g t
        go t (inl e) = rw e y
        go t (inr l) = d.settled t l

    -- row s is zero in the first n columns
    pub step_dead : g s % 2 ^ n ≡ 0 → Eliminated n k f g (suc s)
    step_dead z = next (dead z)

-- at first each row is itself
pub start : (n k : ℕ) (f : ℕ → ℕ) → Eliminated n k f f 0
start n k f = record {
  near = λ r h. record { mask = 2 ^ r; own = div_self (pow_pos r); is = sym (combo_pow f k r h) };
  settled = λ t h. absurd (omega arith);
}

-- row s, whose lowest column is p, is added to every later row that has it
module _ (n k : ℕ) (f g h : ℕ → ℕ) (s p : ℕ) (d : Eliminated n k f g s) (sk : s < k) (pn : p < n) (o : bit (g s) p ≡ 1) (b : g s % 2 ^ p ≡ 0) (w : Swept k s p g h) where
  add_near : (r : ℕ) → s < r → r < k → Near k f (bit_xor (g r) (g s)) r
  add_near r sr rk = record {
    mask = bit_xor (d.near r rk).mask (d.near s sk).mask;
    own = rw (xor_shr, (d.near r rk).own, div-eq_of_lt small) refl;
    is = ap₂ bit_xor (d.near r rk).is (d.near s sk).is ∙ sym (combo_xor f k (d.near r rk).mask (d.near s sk).mask);
  }
    where
      small : (d.near s sk).mask < 2 ^ r
      small = lt_of_lt_of_le (top_lt (d.near s sk).mask s (d.near s sk).own) (pow_mono sr)

  near : (r : ℕ) → r < k → Dec (r ≤ s) → Near k f (h r) r
  near r rk (yes l) = rw (w.kept r l rk) (d.near r rk)
  near r rk (no l) = rw (w.added r (omega (arith, l)) rk) (go (zero_or_one (bit (g r) p) (bit_lt (g r) p)))
    where
      go : (bit (g r) p ≡ 0) ⊎ (bit (g r) p ≡ 1) → Near k f (bit_xor (g r) (pick (bit (g r) p) (g s))) r
      go (inl z) = rw (z, xor_zero_r) (d.near r rk)
      go (inr y) = rw y (add_near r (omega (arith, l)) rk)

  -- what later rows do not have, a sum of them has not
  none_later : (t q r : ℕ) → t < s → ((r : ℕ) → t < r → r < k → bit (g r) q ≡ 0) → t < r → r < k → Dec (r ≤ s) → bit (h r) q ≡ 0
  none_later t q r ts c tr rk (yes l) = rw (w.kept r l rk) (c r tr rk)
  none_later t q r ts c tr rk (no l) = rw (w.added r (omega (arith, l)) rk, bit_of_xor, c r tr rk) (go (zero_or_one (bit (g r) p) (bit_lt (g r) p)))
    where
      go : (bit (g r) p ≡ 0) ⊎ (bit (g r) p ≡ 1) → (0 + bit (pick (bit (g r) p) (g s)) q) % 2 ≡ 0
      go (inl z) = rw (z, bit_of_zero q)
      go (inr y) = rw (y, c s ts sk)

  settle : (t : ℕ) → t < s → Settled n k g t → Settled n k h t
  settle t l (dead z) = dead (rw (w.kept t (omega arith) (omega arith)) z)
  settle t l (live q a y z c) =
      let e = w.kept t (omega arith) (omega arith) in
      live q a (rw e y) (rw e z) (λ r u v. none_later t q r l c u v (dec_le r s))

  cleared : (r : ℕ) → s < r → r < k → bit (h r) p ≡ 0
  cleared r sr rk = rw (w.added r sr rk, bit_of_xor) (go (zero_or_one (bit (g r) p) (bit_lt (g r) p)))
    where
      go : (bit (g r) p ≡ 0) ⊎ (bit (g r) p ≡ 1) → (bit (g r) p + bit (pick (bit (g r) p) (g s)) p) % 2 ≡ 0
      go (inl z) = rw (z, bit_of_zero p)
      go (inr y) = rw (y, o)

  pub step_sweep : Eliminated n k f h (suc s)
  step_sweep =
      let e = w.kept s (omega arith) sk in
      next n k f h s (record { near = λ r rk. near r rk (dec_le r s); settled = λ t l. settle t l (d.settled t l) })
      (live p pn (rw e o) (rw e b) cleared)
