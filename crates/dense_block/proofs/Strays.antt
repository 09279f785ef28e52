-- Columns at or above a bound: the rest of one word, or a word above it. A row without them is a number below 2 ^ q. Which rows of a block have none.
use Rattle.std.proofs.Common.{◌≡◌, ℕ, zero, suc, ◌+◌, ◌-◌, ◌*◌, ◌/◌, ◌%◌, ◌^◌, ◌<◌, ◌≤◌, min, Bool, true, false, not, ◌||◌, eqb, ltb, List, [], ◌∷◌, length, get_or, drop, sym, refl, ap, ◌∙◌, lt_of_lt_of_le, mul-le-mul_right, div-lt_iff_lt-mul, add-mul, one-mul, mul-zero, mul-suc, zero-add, arith, length-drop, drop_of_length-le, length-take, pow_pos, pow_mono, ne_eqb, ltb-false, le-ltb, lt-ltb}
use Rattle.std.specs.List.{list_any}
use native.Mathlib.Decide.{dec_lt}
use lib.Bits.{bit_or, and_le_l, or_zero_r, or_add_and, or_shr}
use lib.Seq.{take-nil}
use Rattle.refusal.specs.Search.{some_below}
use Rattle.refusal.proofs.Searches.{some_past, some_same}
use Rattle.dense_block.specs.Words.{value, strays, term_of, strays_in}
use Rattle.dense_block.proofs.Values.{Words, value_drop, shift_drop, shift_low, value_below}
use Rattle.dense_block.proofs.Terms.{row_within, words_term, length_term, term_at, start_inside}

-- what is left above q columns
value_above : (ws : List ℕ) (q : ℕ) → Words ws
    → value ws / 2 ^ q ≡ get_or ws (q / 64) 0 / 2 ^ (q % 64) + 2 ^ (64 - q % 64) * value (drop (q / 64 + 1) ws)
value_above ws q h =
    let e : q ≡ 64 * (q / 64) + q % 64 = omega arith in
    ap (λ (k : ℕ). value ws / 2 ^ k) e
    ∙ shift_drop ws (q / 64) (q % 64) h
    ∙ ap (λ (x : ℕ). x / 2 ^ (q % 64)) (value_drop ws (q / 64))
    ∙ shift_low (value (drop (q / 64 + 1) ws)) (get_or ws (q / 64) 0) (q % 64) (omega arith)

pos_shl : (k v : ℕ) → ltb 0 (2 ^ k * v) ≡ ltb 0 v
pos_shl k zero = rw mul-zero
pos_shl k (suc v) =
    lt-ltb 0 (2 ^ k * suc v) (omega (arith, mul-le-mul_right (suc v) (pow_pos k), one-mul (suc v)))
    ∙ sym (lt-ltb 0 (suc v) (omega arith))

pub not_zero : (n : ℕ) → not (eqb n 0) ≡ ltb 0 n
not_zero zero = refl
not_zero (suc n) = ap not (ne_eqb (suc n) 0 (λ e. omega (arith, e))) ∙ sym (lt-ltb 0 (suc n) (omega arith))

-- a row is not 0 if one of its words is not
some_word : (ws : List ℕ) → ltb 0 (value ws) ≡ list_any (λ w. not (eqb w 0)) ws
some_word [] = refl
some_word (w ∷ ws) = first w ∙ ap (λ (b : Bool). not (eqb w 0) || b) (some_word ws)
  where
    first : (w : ℕ) → ltb 0 (w + 2 ^ 64 * value ws) ≡ (not (eqb w 0) || ltb 0 (value ws))
    first zero = ap (ltb 0) (zero-add (2 ^ 64 * value ws)) ∙ pos_shl 64 (value ws)
    first (suc w) = lt-ltb 0 (suc w + 2 ^ 64 * value ws) (omega arith) ∙ sym (rw (ne_eqb (suc w) 0 (λ e. omega (arith, e))))

-- a digit of the word of column q, at q or above
pub strays_here : (ws : List ℕ) (q : ℕ) → Words ws → (get_or ws (q / 64) 0 / 2 ^ (q % 64) ≡ 0 → ⊥) → true ≡ strays ws q
unfolding strays
strays_here ws q h n = sym (lt-ltb 0 (value ws / 2 ^ q) (omega (arith, value_above ws q h)))

-- none there: the words above decide
pub strays_above : (ws : List ℕ) (q : ℕ) → Words ws → get_or ws (q / 64) 0 / 2 ^ (q % 64) ≡ 0
    → list_any (λ w. not (eqb w 0)) (drop (q / 64 + 1) ws) ≡ strays ws q
unfolding strays
strays_above ws q h z =
    let above = drop (q / 64 + 1) ws in
    sym (ap (ltb 0) (value_above ws q h ∙ ap (λ (x : ℕ). x + 2 ^ (64 - q % 64) * value above) z ∙ zero-add _)
    ∙ pos_shl (64 - q % 64) (value above)
    ∙ some_word above)

-- ---- a row of q columns

pub below_of : (ws : List ℕ) (q : ℕ) → strays ws q ≡ false → value ws < 2 ^ q
unfolding strays
below_of ws q h =
    let low : value ws / 2 ^ q < 1 = omega (arith, ltb-false 0 (value ws / 2 ^ q) h) in
    omega (arith, (div-lt_iff_lt-mul (pow_pos q)).0 low)

pub no_strays : (ws : List ℕ) (q : ℕ) → value ws < 2 ^ q → strays ws q ≡ false
unfolding strays
no_strays ws q h =
    let low : value ws / 2 ^ q < 1 = (div-lt_iff_lt-mul (pow_pos q)).1 (omega arith) in
    le-ltb 0 (value ws / 2 ^ q) (omega arith)

-- ---- the rows of a block

-- rows of few words end below column q
pub ends_below : (ws : List ℕ) (q : ℕ) → Words ws → length ws ≤ q / 64 → strays ws q ≡ false
ends_below ws q h l = no_strays ws q (lt_of_lt_of_le (value_below ws h) (pow_mono (omega arith)))

pub narrow : (w : ℕ) (ws : List ℕ) (k q : ℕ) → Words ws → w ≤ q / 64 → strays (term_of w ws k) q ≡ false
narrow w ws k q h l = ends_below (term_of w ws k) q (words_term w ws k h) (omega (arith, length-take w (drop (k * w) ws)))

-- a row that starts at the end, or past it, has no words
ended : (w : ℕ) (ws : List ℕ) (k q : ℕ) → length ws ≤ k * w → strays (term_of w ws k) q ≡ false
ended w ws k q h = rw (drop_of_length-le ws h, take-nil w) (no_strays [] q (pow_pos q))

-- rows past the end have no words
pub beyond : (w : ℕ) (ws : List ℕ) (k q : ℕ) → length ws ≤ k → strays (term_of w ws k) q ≡ false
beyond zero ws k q h = no_strays [] q (pow_pos q)
beyond (suc w) ws k q h = ended (suc w) ws k q (omega (arith, mul-suc k w))

-- rows past one that is cut off have no words
pub after_cut : (w : ℕ) (ws : List ℕ) (k j q : ℕ) → length ws < k * w + w → k < j → strays (term_of w ws j) q ≡ false
after_cut w ws k j q h l =
    let up : k + 1 ≤ j = omega arith in
    ended w ws j q (omega (arith, mul-le-mul_right w up, add-mul k 1 w, one-mul w))

-- rows that end in the word of column q: that word decides, and a row that is cut off ends before it
module _ (w : ℕ) (ws : List ℕ) (q : ℕ) (h : Words ws) (e : w ≡ q / 64 + 1) where
  pub last_word : (k : ℕ) → k * w + w ≤ length ws → strays (term_of w ws k) q ≡ ltb 0 (get_or ws (k * w + q / 64) 0 / 2 ^ (q % 64))
  unfolding strays
  last_word k l =
      let t = term_of w ws k in
      let long : length t ≤ q / 64 + 1 = omega (arith, length_term w ws k l) in
      ap (ltb 0) (value_above t q (words_term w ws k h) ∙ rw (drop_of_length-le t long) (omega arith) ∙ ap (λ (x : ℕ). x / 2 ^ (q % 64)) (term_at w ws k (q / 64) (omega arith)))

  pub cut_off : (k : ℕ) → length ws < k * w + w → strays (term_of w ws k) q ≡ false
  cut_off k l = ends_below (term_of w ws k) q (words_term w ws k h) (omega (arith, length-take w (drop (k * w) ws), length-drop (k * w) ws))

  -- of the first n rows those that are whole decide
  module _ (n m : ℕ) (least : m ≡ min n (length ws / w)) where
    pub whole_inside : m * w ≤ length ws
    whole_inside = start_inside (length ws) w m (λ z. omega (arith, z)) (omega arith)

    past : (k : ℕ) → length ws / w ≤ k → strays (term_of w ws k) q ≡ false
    past k l =
        let up : length ws / w < k + 1 = omega arith in
        let p : 0 < w = omega arith in
        cut_off k (omega (arith, (div-lt_iff_lt-mul p).0 up, add-mul k 1 w, one-mul w))

    pub whole_rows : strays_in w ws n q ≡ some_below m (λ k. ltb 0 (get_or ws (k * w + q / 64) 0 / 2 ^ (q % 64)))
    unfolding strays_in
    whole_rows = go (dec_lt n (length ws / w)) ∙ some_same m _ _ (λ k h. last_word k (row_within k m w (length ws) h whole_inside))
      where
        go : Dec (n < length ws / w) → some_below n (λ k. strays (term_of w ws k) q) ≡ some_below m (λ k. strays (term_of w ws k) q)
        go (yes h) = let e : n ≡ m = omega (arith, h) in rw e
        go (no h) = some_past n m (λ k. strays (term_of w ws k) q) (omega arith) (λ k l. past k (omega (arith, h)))

-- words in one: what is at s or above is in one of them
pub or_pos : (a b s : ℕ) → ltb 0 (bit_or a b / 2 ^ s) ≡ (ltb 0 (b / 2 ^ s) || ltb 0 (a / 2 ^ s))
or_pos a b s = ap (ltb 0) (or_shr a b s) ∙ go (a / 2 ^ s) (b / 2 ^ s)
  where
    go : (a b : ℕ) → ltb 0 (bit_or a b) ≡ (ltb 0 b || ltb 0 a)
    go a zero = ap (ltb 0) (or_zero_r a)
    go a (suc b) = lt-ltb 0 (bit_or a (suc b)) (omega (arith, or_add_and a (suc b), and_le_l a (suc b))) ∙ sym (ap (λ (c : Bool). c || ltb 0 a) (lt-ltb 0 (suc b) (omega arith)))
