-- Rows of a block: where a row lies, how long it is, and one row written.
use Rattle.std.proofs.Common.{◌≡◌, ℕ, ◌+◌, ◌-◌, ◌*◌, ◌/◌, ◌<◌, ◌≤◌, List, ◌++◌, length, get_or, take, drop, sym, ap, ◌∙◌, mul-le-mul_right, add-mul, one-mul, le-div_iff_mul-le, arith, length-append, length-drop, take-append-drop, length-take, length-take-le, get_or-drop, get_or-take, drop-drop, take_at, drop_at, [], le_of_lt, div-lt_iff_lt-mul, drop_of_length-le}
use native.Mathlib.Nat.{min-eq_left}
use lib.Seq.{take-nil, take-append-le, drop-append-le, drop-append-add}
use Rattle.dense_block.specs.Words.{term_of, with_term}
use Rattle.dense_block.proofs.Values.{Words, words_take, words_drop}

-- row k of n rows of w words lies within them
pub row_within : (k n w size : ℕ) → k < n → n * w ≤ size → k * w + w ≤ size
row_within k n w size h g =
    let up : k + 1 ≤ n = omega arith in
    omega (arith, mul-le-mul_right w up, add-mul k 1 w, one-mul w)

pub words_term : (w : ℕ) (ws : List ℕ) (k : ℕ) → Words ws → Words (term_of w ws k)
words_term w ws k h = words_take w (drop (k * w) ws) (words_drop (k * w) ws h)

pub length_term : (w : ℕ) (ws : List ℕ) (k : ℕ) → k * w + w ≤ length ws → length (term_of w ws k) ≡ w
length_term w ws k h = rw (length-take, length-drop) (min-eq_left (omega arith))

-- its words are words of the block
pub term_at : (w : ℕ) (ws : List ℕ) (k i : ℕ) → i < w → get_or (term_of w ws k) i 0 ≡ get_or ws (k * w + i) 0
term_at w ws k i h = get_or-take w (drop (k * w) ws) i 0 h ∙ get_or-drop (k * w) ws i 0

-- its start is inside exactly if as many rows fit
pub start_inside : (n w k : ℕ) → (w ≡ 0 → ⊥) → k ≤ n / w → k * w ≤ n
start_inside n w k h g = let p : 0 < w = omega (arith, h) in (le-div_iff_mul-le p).0 g

pub start_outside : (n w k : ℕ) → (w ≡ 0 → ⊥) → n / w < k → n ≤ k * w
start_outside n w k h g = let p : 0 < w = omega (arith, h) in le_of_lt ((div-lt_iff_lt-mul p).0 g)

-- past the end a row has no words
pub term_past : (w : ℕ) (ws : List ℕ) (k : ℕ) → length ws ≤ k * w → ◌≡◌ {A = List ℕ} [] (term_of w ws k)
term_past w ws k h = sym (rw (drop_of_length-le ws h) (take-nil w))

pub term_empty : (w : ℕ) (ws : List ℕ) (k : ℕ) → w ≡ 0 → ◌≡◌ {A = List ℕ} [] (term_of w ws k)
term_empty w ws k h = rw h

-- ---- one row of a block written

module _ (w : ℕ) (ws : List ℕ) (k : ℕ) (ys : List ℕ) (long : length ys ≡ w) (inside : k * w + w ≤ length ws) where
  first : length (take (k * w) ws) ≡ k * w
  first = length-take-le (k * w) ws (omega arith)

  pub length_with : length (with_term w ws k ys) ≡ length ws
  length_with = simp (length-append, length-drop) (omega (arith, first))

  pub term_same : term_of w (with_term w ws k ys) k ≡ ys
  term_same = rw (drop_at (take (k * w) ws) (ys ++ drop w (drop (k * w) ws)) (k * w) first) (take_at ys (drop w (drop (k * w) ws)) w long)

  pub term_before : (j : ℕ) → j < k → term_of w (with_term w ws k ys) j ≡ term_of w ws j
  term_before j h = before (ys ++ drop w (drop (k * w) ws)) ∙ sym (ap (λ (l : List ℕ). term_of w l j) (sym (take-append-drop (k * w) ws)) ∙ before (drop (k * w) ws))
    where
      row_first : j * w + w ≤ k * w
      row_first = row_within j k w (k * w) h (omega arith)

      before : (rest : List ℕ) → term_of w (take (k * w) ws ++ rest) j ≡ take w (drop (j * w) (take (k * w) ws))
      before rest =
          rw (drop-append-le (j * w) (take (k * w) ws) rest (omega (arith, row_first, first)))
          (take-append-le w (drop (j * w) (take (k * w) ws)) rest (omega (arith, row_first, first, length-drop (j * w) (take (k * w) ws))))

  pub behind_with : (n : ℕ) → k * w + w ≤ n → drop n (with_term w ws k ys) ≡ drop n ws
  behind_with n h =
      let m = n - (k * w + w) in
      let e : n ≡ k * w + (w + m) = omega arith in
      rw e (
      past (take (k * w) ws) (ys ++ drop w (drop (k * w) ws)) (k * w) (w + m) first
      ∙ past ys (drop w (drop (k * w) ws)) w m long
      ∙ drop-drop m w (drop (k * w) ws)
      ∙ drop-drop (w + m) (k * w) ws
      )
    where
      past : (l rest : List ℕ) (a b : ℕ) → length l ≡ a → drop (a + b) (l ++ rest) ≡ drop b rest
      past l rest a b g = ap (λ (c : ℕ). drop (c + b) (l ++ rest)) (sym g) ∙ drop-append-add l rest b
