-- After elimination of rows that have no further columns, some row is zero exactly if some nonempty choice of the rows has xor zero.
use Prim.Native.Nat.{ℕ, ◌-◌, ◌%◌, ◌^◌, ◌≤◌, ◌<◌}
use native.Mathlib.Nat.{zero-mod, mod-eq_of_lt, lt_of_lt_of_le}
use native.Mathlib.Omega.{arith}
use mathlib.Core.Path.{◌≡◌, refl, sym, ap, ◌∙◌}
use mathlib.Core.Logic.{◌≢◌}
use mathlib.Core.Bool.{Bool, true, false, ◌&&◌}
use lib.Dec.{eqb, ltb}
use lib.Pow.{pow_mono}
use borrow.Author.Tests.{eqb-true, eqb-false, eq-eqb, ne_eqb, ltb-true, lt-ltb}
use Rattle.refusal.proofs.Bools.{and_left, and_right, both, is_false}
use Rattle.refusal.proofs.Searches.{some_of, some_at, none_of, none_at, some_here, some_below_lem, some_none}
use Rattle.algebra.specs.Choices.{combo}
use Rattle.algebra.proofs.Digits.{top, top_lt, top_pos, top_below}
use Rattle.elimination.specs.Eliminated.{Eliminated}
use Rattle.elimination.specs.Rooms.{dependent_among}
use Rattle.elimination.specs.Steps.{zero_among}
use Rattle.elimination.proofs.Elimination.{dead_row}

module _ (n k : ℕ) (f g : ℕ → ℕ) (d : Eliminated n k f g k) where
  abbrev vanishes : ℕ → Bool
  vanishes choice = ltb 0 choice && eqb (combo f k choice) 0

  pub dependent_yes : (r : ℕ) → r < k → g r ≡ 0 → dependent_among k f ≡ true
  unfolding dependent_among
  dependent_yes r h z =
      let near = d.near r h in
      some_of (2 ^ k) vanishes near.mask (lt_of_lt_of_le (top_lt near.mask r near.own) (pow_mono h))
      (both (lt-ltb 0 near.mask (top_pos near.mask r near.own)) (eq-eqb (combo f k near.mask) 0 (sym near.is ∙ z)))

  pub dependent_no : ((r : ℕ) → r < k → g r % 2 ^ n ≢ 0) → dependent_among k f ≡ false
  unfolding dependent_among
  dependent_no full = none_of (2 ^ k) vanishes (λ m l. is_false (vanishes m) (λ t.
      never m l (ltb-true 0 m (and_left (ltb 0 m) (eqb (combo f k m) 0) t)) (eqb-true (combo f k m) 0 (and_right (ltb 0 m) (eqb (combo f k m) 0) t))))
    where
      never : (m : ℕ) → m < 2 ^ k → 0 < m → combo f k m ≡ 0 → ⊥
      never m l p z =
          let t = top m p in
          let b = top_below m t.0 k t.1 l in
          full t.0 b (dead_row n k f g k d m t.0 t.1 (omega arith) b (ap (λ (x : ℕ). x % 2 ^ n) z ∙ zero-mod (2 ^ n)))

-- ---- a zero row looked for from the last row down

module _ (k : ℕ) (g : ℕ → ℕ) where
  abbrev zero_test : ℕ → Bool
  zero_test r = eqb (g r) 0

  pub zero_here : 0 < k → g (k - 1) ≡ 0 → zero_among k g ≡ true
  unfolding zero_among
  zero_here h z = some_here k zero_test h (eq-eqb (g (k - 1)) 0 z)

  pub zero_below : 0 < k → g (k - 1) ≢ 0 → zero_among (k - 1) g ≡ zero_among k g
  unfolding zero_among
  zero_below h z = sym (some_below_lem k zero_test h (ne_eqb (g (k - 1)) 0 z))

  pub zero_none : k ≤ 0 → zero_among k g ≡ false
  unfolding zero_among
  zero_none h = some_none k zero_test h

-- after elimination by all the columns that the rows have, one is zero exactly if they were dependent
pub zero_dependent : (n k : ℕ) (f g : ℕ → ℕ) → Eliminated n k f g k → ((r : ℕ) → r < k → g r < 2 ^ n) → zero_among k g ≡ dependent_among k f
unfolding zero_among
zero_dependent n k f g d small = go (zero_among k g) refl
  where
    go : (b : Bool) → zero_among k g ≡ b → b ≡ dependent_among k f
    go true e = let r = some_at k (zero_test k g) e in sym (dependent_yes n k f g d r.0 r.1 (eqb-true (g r.0) 0 r.2))
    go false e =
        sym (dependent_no n k f g d (λ r l z. eqb-false (g r) 0 (none_at k (zero_test k g) e r l) (sym (mod-eq_of_lt (small r l)) ∙ z)))
