-- Rows that lie in their slices, and what the tests that every call shares leave known.
use Prim.Native.Nat.{ℕ, zero, suc, ◌+◌, ◌*◌, ◌^◌, ◌≤◌, ◌<◌}
use native.Mathlib.Omega.{arith}
use mathlib.Core.Path.{◌≡◌, refl, sym, ap, ◌∙◌}
use mathlib.Core.List.{List, [], ◌∷◌}
use mathlib.Core.Bool.{Bool, true, false, ◌||◌}
use borrow.Author.Tests.{eqb-false, ltb-false, le-ltb}
use lib.Dec.{eqb, ltb}
use lib.ListN.{length, get_or, take}
use Rattle.refusal.specs.Search.{some_below}
use Rattle.refusal.specs.Table.{Lent, outside, short}
use Rattle.refusal.proofs.Rooms.{Hold, hold}
use Rattle.refusal.proofs.Bools.{or_left, or_right}
use Rattle.refusal.proofs.Searches.{none_at, some_or}
use Rattle.dense_block.specs.Words.{value, words_for, term_of, strays, strays_in}
use Rattle.dense_block.proofs.Values.{Words}
use Rattle.dense_block.proofs.Terms.{row_within}
use Rattle.dense_block.proofs.Strays.{below_of}
use Rattle.majorana.specs.Sets.{bad_size, set_lent, many_or_short, bad_row_at, bad_rows, many_or_bad}
use Rattle.majorana.specs.Held.{Fits, Held}

module _ {n w : ℕ} {xs zs ps : List ℕ} (fits : Fits n w xs zs ps) (k : ℕ) (low : k < 2 * n) where
  pub x_row : k * w + w ≤ length xs
  x_row = row_within k (2 * n) w (length xs) low fits.x_rows

  pub z_row : k * w + w ≤ length zs
  z_row = row_within k (2 * n) w (length zs) low fits.z_rows

-- ---- sizes

pub record InSize (n q : ℕ) : Type 0 where
  pub modes_low : 0 < n
  pub modes_high : n ≤ 256
  pub qubits_low : 0 < q
  pub qubits_high : q ≤ 256

pub in_size : (n q : ℕ) → bad_size n q ≡ false → InSize n q
unfolding bad_size
in_size n q h =
    let t = or_right (eqb n 0) (ltb 256 n || (eqb q 0 || ltb 256 q)) h in
    let u = or_right (ltb 256 n) (eqb q 0 || ltb 256 q) t in
    record {
      modes_low = omega (arith, eqb-false n 0 (or_left (eqb n 0) (ltb 256 n || (eqb q 0 || ltb 256 q)) h));
      modes_high = ltb-false 256 n (or_left (ltb 256 n) (eqb q 0 || ltb 256 q) t);
      qubits_low = omega (arith, eqb-false q 0 (or_left (eqb q 0) (ltb 256 q) u));
      qubits_high = ltb-false 256 q (or_right (eqb q 0) (ltb 256 q) u);
    }

-- modes, and then qubits
pub sizes : (n q : ℕ) → bad_size n q ≡ (outside n || outside q)
unfolding bad_size
sizes n q = go (eqb n 0) (ltb 256 n) (eqb q 0 || ltb 256 q)
  where
    go : (a b c : Bool) → (a || (b || c)) ≡ ((a || b) || c)
    go true b c = refl
    go false b c = refl

pub few_words : (q : ℕ) → q ≤ 256 → words_for q ≤ 4
few_words q h = omega arith

-- what passing 1 leaves known, with the number of words
pub record Entered (n q w : ℕ) : Type 0 where
  pub size : InSize n q
  pub some : 0 < w
  pub few : w ≤ 4

pub entered : (n q w : ℕ) → bad_size n q ≡ false → w ≡ words_for q → Entered n q w
entered n q w h e =
    let i = in_size n q h in
    record { size = i; some = omega (arith, i.qubits_low); few = omega (arith, few_words q i.qubits_high) }

-- local words start at zero
pub zeros : (k : ℕ) → value (take k (0 ∷ 0 ∷ 0 ∷ 0 ∷ [])) ≡ 0
zeros zero = refl
zeros (suc zero) = refl
zeros (suc (suc zero)) = refl
zeros (suc (suc (suc zero))) = refl
zeros (suc (suc (suc (suc k)))) = rest k
  where
    rest : (k : ℕ) → value (0 ∷ 0 ∷ 0 ∷ 0 ∷ take k []) ≡ 0
    rest zero = refl
    rest (suc k) = refl

-- ---- tests one after another

pub first_holds : {a : Bool} (b : Bool) → a ≡ true → (a || b) ≡ true
first_holds b h = rw h

pub second_holds : {a b : Bool} → a ≡ false → b ≡ true → (a || b) ≡ true
second_holds h k = rw (h, k)

pub none_holds : {a b : Bool} → a ≡ false → b ≡ false → (a || b) ≡ false
none_holds h k = rw (h, k)

-- ---- rows that are not bad

-- of sizes that pass 1 the public test of the rows is just that
pub few_bad : (n q w : ℕ) (xs zs ps : List ℕ) → n ≤ 256 → many_or_bad n q w xs zs ps ≡ bad_rows n q w xs zs ps
unfolding many_or_bad
few_bad n q w xs zs ps a = rw (le-ltb 256 n a)

pub rows_told : (n q w : ℕ) (xs zs ps : List ℕ) {b : Bool} → n ≤ 256 → many_or_bad n q w xs zs ps ≡ b → bad_rows n q w xs zs ps ≡ b
rows_told n q w xs zs ps a h = sym (few_bad _ _ _ _ _ _ a) ∙ h

-- phases, X parts and Z parts can be tested one after another
pub bad_parts : (n q w : ℕ) (xs zs ps : List ℕ) → bad_rows n q w xs zs ps ≡ (some_below (2 * n) (λ k. ltb 3 (get_or ps k 0)) || (strays_in w xs (2 * n) q || strays_in w zs (2 * n) q))
unfolding bad_rows bad_row_at strays_in
bad_parts n q w xs zs ps =
    some_or (2 * n) (λ k. ltb 3 (get_or ps k 0)) (λ k. strays (term_of w xs k) q || strays (term_of w zs k) q)
    ∙ ap (λ (b : Bool). some_below (2 * n) (λ k. ltb 3 (get_or ps k 0)) || b) (some_or (2 * n) (λ k. strays (term_of w xs k) q) (λ k. strays (term_of w zs k) q))

module _ (n q w : ℕ) (xs zs ps : List ℕ) (h : bad_rows n q w xs zs ps ≡ false) (k : ℕ) (low : k < 2 * n) where
  good : bad_row_at q w xs zs ps k ≡ false
  unfolding bad_rows
  good = none_at (2 * n) (bad_row_at q w xs zs ps) h k low

  pub phase_small : get_or ps k 0 < 4
  unfolding bad_row_at
  phase_small = omega (arith, ltb-false 3 (get_or ps k 0) (or_left (ltb 3 (get_or ps k 0)) (strays (term_of w xs k) q || strays (term_of w zs k) q) good))

  no_stray : (strays (term_of w xs k) q || strays (term_of w zs k) q) ≡ false
  unfolding bad_row_at
  no_stray = or_right (ltb 3 (get_or ps k 0)) (strays (term_of w xs k) q || strays (term_of w zs k) q) good

  pub x_below : value (term_of w xs k) < 2 ^ q
  x_below = below_of (term_of w xs k) q (or_left (strays (term_of w xs k) q) (strays (term_of w zs k) q) no_stray)

  pub z_below : value (term_of w zs k) < 2 ^ q
  z_below = below_of (term_of w zs k) q (or_right (strays (term_of w xs k) q) (strays (term_of w zs k) q) no_stray)

-- rows that lie in their slices, and are not bad, are held
pub held_of : (n q w : ℕ) (xs zs ps : List ℕ) → Fits n w xs zs ps → bad_rows n q w xs zs ps ≡ false → Words xs → Words zs → Held n w xs zs ps
held_of n q w xs zs ps fits h px pz = record { fits = fits; x_words = px; z_words = pz; small = phase_small n q w xs zs ps h }

-- ---- lengths: the row set's own, and then the call's others

-- of sizes that pass 1 the public test of the lengths is just that
pub few_short : (n w x z p : ℕ) → n ≤ 256 → w ≤ 4 → many_or_short n w x z p ≡ short (set_lent n w x z p [])
unfolding many_or_short
few_short n w x z p a b = rw (le-ltb 256 n a, le-ltb 4 w b)

module _ (n w x z p : ℕ) (few : n ≤ 256) (narrow : w ≤ 4) (more : List Lent) where
  pub set_too_short : many_or_short n w x z p ≡ true → short (set_lent n w x z p more) ≡ true
  set_too_short h = go (ltb x (2 * n * w)) (ltb z (2 * n * w)) (ltb p (2 * n)) (short more) (sym (few_short n w x z p few narrow) ∙ h)
    where
      go : (a b c d : Bool) → (a || (b || (c || false))) ≡ true → (a || (b || (c || d))) ≡ true
      go true b c d h = refl
      go false true c d h = refl
      go false false true d h = refl
      go false false false d h = cc

  pub set_long : many_or_short n w x z p ≡ false → short (set_lent n w x z p more) ≡ short more
  set_long h = go (ltb x (2 * n * w)) (ltb z (2 * n * w)) (ltb p (2 * n)) (short more) (sym (few_short n w x z p few narrow) ∙ h)
    where
      go : (a b c d : Bool) → (a || (b || (c || false))) ≡ false → (a || (b || (c || d))) ≡ d
      go true b c d h = cc
      go false true c d h = cc
      go false false true d h = cc
      go false false false d h = refl

pub held_in : (n w : ℕ) (xs zs ps : List ℕ) (more : List Lent) → n ≤ 256 → w ≤ 4
    → short (set_lent n w (length xs) (length zs) (length ps) more) ≡ false → Fits n w xs zs ps × Hold more
held_in n w xs zs ps more a b h =
    let r = hold (set_lent n w (length xs) (length zs) (length ps) more) h in
    (record { modes = a; words = b; x_rows = r.0; z_rows = r.1.0; p_rows = r.1.1.0 }, r.1.1.1)

-- rows that the public test of the lengths lets pass lie in their slices
pub fits_of : (n w : ℕ) (xs zs ps : List ℕ) → many_or_short n w (length xs) (length zs) (length ps) ≡ false → Fits n w xs zs ps
unfolding many_or_short
fits_of n w xs zs ps h =
    let s = short (set_lent n w (length xs) (length zs) (length ps) []) in
    let t = or_right (ltb 256 n) (ltb 4 w || s) h in
    (held_in n w xs zs ps [] (ltb-false 256 n (or_left (ltb 256 n) (ltb 4 w || s) h)) (ltb-false 4 w (or_left (ltb 4 w) s t)) (or_right (ltb 4 w) s t)).0
