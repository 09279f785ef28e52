-- The number that words stand for: its parts by word, and how words and number settle each other. By induction on the words.
use Rattle.std.proofs.Common.{◌≡◌, ℕ, zero, suc, ◌+◌, ◌-◌, ◌*◌, ◌/◌, ◌%◌, ◌^◌, ◌<◌, ◌≤◌, List, [], ◌∷◌, ◌++◌, length, get_or, take, drop, sym, refl, ap, ◌∙◌, ap₂, lt_of_lt_of_le, mul_assoc, zero-add, add-one, arith, lit<, length-take, get_or-drop, get_or-take, take_at, pow_pos, pow_mono, pow-add}
use native.Mathlib.Nat.{div-div-eq-div-mul, zero-div, add-mul-div_left}
use native.Mathlib.Decide.{dec_lt}
use lib.ListN.{get_or-eq_default}
use Rattle.dense_block.specs.Words.{value, words_of, words_for, filled}

-- each word fits 64 bits
abbrev pub Words : List ℕ → Type 0
Words ws = (i : ℕ) → get_or ws i 0 < 2 ^ 64

pub words_take : (n : ℕ) (ws : List ℕ) → Words ws → Words (take n ws)
words_take n ws h i = go (dec_lt i n)
  where
    go : Dec (i < n) → get_or (take n ws) i 0 < 2 ^ 64
    go (yes k) = rw (get_or-take n ws i 0 k) (h i)
    go (no k) = rw (get_or-eq_default (take n ws) 0 {n = i} (rw length-take (omega (arith, k)))) (lit< tt)

pub words_drop : (n : ℕ) (ws : List ℕ) → Words ws → Words (drop n ws)
words_drop n ws h i = rw get_or-drop (h (n + i))

-- ---- a row from one of its words on

-- that word, and the rest above it; past the end both are 0
pub value_drop : (ws : List ℕ) (i : ℕ) → value (drop i ws) ≡ get_or ws i 0 + 2 ^ 64 * value (drop (i + 1) ws)
value_drop ws i = rw add-one (go ws i)
  where
    go : (l : List ℕ) (k : ℕ) → value (drop k l) ≡ get_or l k 0 + 2 ^ 64 * value (drop (suc k) l)
    go [] zero = refl
    go [] (suc k) = refl
    go (w ∷ l) zero = refl
    go (w ∷ l) (suc k) = go l k

-- a shift by a word and more drops the lowest word
pub shift_word : (v w j : ℕ) → w < 2 ^ 64 → (w + 2 ^ 64 * v) / 2 ^ (64 + j) ≡ v / 2 ^ j
shift_word v w j h =
    let whole : (w + 2 ^ 64 * v) / 2 ^ 64 ≡ v = omega arith in
    rw (pow-add 2 64 j, ← div-div-eq-div-mul, whole)

pub shift_drop : (ws : List ℕ) (i r : ℕ) → Words ws → value ws / 2 ^ (64 * i + r) ≡ value (drop i ws) / 2 ^ r
shift_drop ws zero r h = ap (λ (k : ℕ). value ws / 2 ^ k) (zero-add r)
shift_drop [] (suc i) r h = zero-div (2 ^ (64 * suc i + r)) ∙ sym (zero-div (2 ^ r))
shift_drop (w ∷ ws) (suc i) r h =
    let e : 64 * suc i + r ≡ 64 + (64 * i + r) = omega arith in
    rw e (shift_word (value ws) w (64 * i + r) (h 0) ∙ shift_drop ws i r (λ k. h (suc k)))

-- a shift by less than a word
pub shift_low : (v w j : ℕ) → j < 64 → (w + 2 ^ 64 * v) / 2 ^ j ≡ w / 2 ^ j + 2 ^ (64 - j) * v
shift_low v w j h =
    let e : j + (64 - j) ≡ 64 = omega arith in
    let p : 2 ^ 64 * v ≡ 2 ^ j * (2 ^ (64 - j) * v) =
    ap (λ (k : ℕ). 2 ^ k * v) (sym e) ∙ ap (λ (k : ℕ). k * v) (pow-add 2 j (64 - j)) ∙ mul_assoc (2 ^ j) (2 ^ (64 - j)) v in
    ap (λ (x : ℕ). (w + x) / 2 ^ j) p ∙ add-mul-div_left w (2 ^ (64 - j) * v) (pow_pos j)

-- ---- words and number settle each other

pub value_below : (ws : List ℕ) → Words ws → value ws < 2 ^ (64 * length ws)
value_below [] h = lit< tt
value_below (w ∷ ws) h =
    let e : 64 * suc (length ws) ≡ 64 + 64 * length ws = omega arith in
    rw (e, pow-add 2 64 (64 * length ws)) (omega (arith, h 0, value_below ws (λ i. h (suc i))))

-- as many words with the same number are the same words
pub value_same : (xs ys : List ℕ) → length xs ≡ length ys → Words xs → Words ys → value xs ≡ value ys → xs ≡ ys
value_same [] [] e p q h = refl
value_same [] (y ∷ ys) e p q h = absurd (omega arith)
value_same (x ∷ xs) [] e p q h = absurd (omega arith)
value_same (x ∷ xs) (y ∷ ys) e p q h =
    let first : x ≡ y = omega (arith, p 0, q 0) in
    let rest = value_same xs ys (omega arith) (λ i. p (suc i)) (λ i. q (suc i)) (omega (arith, p 0, q 0)) in
    ap₂ {C = List ℕ} (λ (a : ℕ) (l : List ℕ). a ∷ l) first rest

pub words_of_value : (ws : List ℕ) → Words ws → words_of (length ws) (value ws) ≡ ws
words_of_value [] h = refl
words_of_value (w ∷ ws) h =
    let low : (w + 2 ^ 64 * value ws) % 2 ^ 64 ≡ w = omega (arith, h 0) in
    let high : (w + 2 ^ 64 * value ws) / 2 ^ 64 ≡ value ws = omega (arith, h 0) in
    ap₂ {C = List ℕ} (λ (a : ℕ) (l : List ℕ). a ∷ l) low (ap (words_of (length ws)) high ∙ words_of_value ws (λ i. h (suc i)))

pub value_of_words : (w v : ℕ) → v < 2 ^ (64 * w) → value (words_of w v) ≡ v
value_of_words zero v h = omega arith
value_of_words (suc w) v h =
    let e : 64 * suc w ≡ 64 + 64 * w = omega arith in
    let p : 2 ^ (64 * suc w) ≡ 2 ^ 64 * 2 ^ (64 * w) = ap (λ (k : ℕ). 2 ^ k) e ∙ pow-add 2 64 (64 * w) in
    rw (value_of_words w (v / 2 ^ 64) (omega arith)) (omega arith)

pub length_words_of : (w v : ℕ) → length (words_of w v) ≡ w
length_words_of zero v = refl
length_words_of (suc w) v = ap suc (length_words_of w (v / 2 ^ 64))

-- ---- a number in the first words

-- q columns fit their words
pub words_hold : (q : ℕ) → q ≤ 64 * words_for q
words_hold q = omega arith

pub take_filled : (w v : ℕ) (ws : List ℕ) → take w (filled w v ws) ≡ words_of w v
take_filled w v ws = take_at (words_of w v) (drop w ws) w (length_words_of w v)

-- the words that a number of q bits was written to stand for it
pub written_back : (q v : ℕ) (ws : List ℕ) → v < 2 ^ q → value (take (words_for q) (filled (words_for q) v ws)) ≡ v
written_back q v ws h = ap value (take_filled (words_for q) v ws) ∙ value_of_words (words_for q) v (lt_of_lt_of_le h (pow_mono (words_hold q)))

-- words written in place of the first ones are those of their number
pub filled_by : (ns ws : List ℕ) (w : ℕ) → length ns ≡ w → Words ns → ns ++ drop w ws ≡ filled w (value ns) ws
filled_by ns ws w e h = ap (λ (l : List ℕ). l ++ drop w ws) (sym (ap (λ (k : ℕ). words_of k (value ns)) (sym e) ∙ words_of_value ns h))
