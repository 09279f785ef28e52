-- Rows written one after another: one word more, one row more, one number more; and which row stands where. By induction on the rows.
use Rattle.std.proofs.Common.{◌≡◌, ℕ, zero, suc, ◌+◌, ◌*◌, ◌/◌, ◌%◌, ◌^◌, ◌<◌, ◌≤◌, ◌⊎◌, List, [], ◌∷◌, ◌++◌, length, get_or, take, drop, set, sym, refl, ap, ◌∙◌, ap₂, inl, inr, append_assoc, append-nil, le_of_suc-le-suc, add-mul, eq-or-lt_of_le, one-mul, zero-mul, div-one, add-one, arith, length-append, length-drop, drop-cons, drop-drop, take_at, drop_at, pow-add}
use native.Mathlib.Nat.{div-div-eq-div-mul}
use lib.Seq.{set_at, get_or_at, drop-length, append_snoc}
use Rattle.dense_block.specs.Words.{value, words_of, filled, term_of}
use Rattle.dense_block.specs.Blocks.{word_at, rows_of, laid, numbers_of, listed}
use Rattle.dense_block.proofs.Values.{length_words_of, value_of_words}

-- ---- words of a number

words_more : (k v : ℕ) → words_of (suc k) v ≡ words_of k v ++ (word_at v k ∷ [])
words_more zero v = ap (λ (x : ℕ). x % 2 ^ 64 ∷ []) (sym (div-one v))
words_more (suc k) v =
    let e : 64 * suc k ≡ 64 + 64 * k = omega arith in
    let p : v / 2 ^ 64 / 2 ^ (64 * k) ≡ v / 2 ^ (64 * suc k) = div-div-eq-div-mul v (2 ^ 64) (2 ^ (64 * k)) ∙ ap (λ (x : ℕ). v / x) (sym (pow-add 2 64 (64 * k)) ∙ ap (λ (x : ℕ). 2 ^ x) (sym e)) in
    ap (λ (l : List ℕ). v % 2 ^ 64 ∷ l) (words_more k (v / 2 ^ 64) ∙ ap (λ (x : ℕ). words_of k (v / 2 ^ 64) ++ (x % 2 ^ 64 ∷ [])) p)

-- one word more is written
pub filled_step : (k v : ℕ) (xs ws : List ℕ) {r : ℕ} → k < length ws → xs ≡ filled k v ws → r ≡ word_at v k → set xs k r ≡ filled (k + 1) v ws
filled_step k v xs ws h e q =
    ap₂ (λ (l : List ℕ) (r : ℕ). set l k r) e q
    ∙ ap (λ (l : List ℕ). set (words_of k v ++ l) k (word_at v k)) (drop-cons ws k 0 h)
    ∙ set_at (words_of k v) (get_or ws k 0) (drop (suc k) ws) (word_at v k) k (length_words_of k v)
    ∙ sym (ap (λ (n : ℕ). filled n v ws) (add-one k)
    ∙ ap (λ (l : List ℕ). l ++ drop (suc k) ws) (words_more k v)
    ∙ append_snoc (words_of k v) (word_at v k) (drop (suc k) ws))

-- every word is written
pub filled_all : (k v w : ℕ) (xs ws : List ℕ) → xs ≡ filled k v ws → length ws ≡ k → k ≡ w → xs ≡ words_of w v
filled_all k v w xs ws e l f =
    e ∙ ap (λ (n : ℕ). filled n v ws) (sym l)
    ∙ ap (λ (r : List ℕ). words_of (length ws) v ++ r) (drop-length ws) ∙ append-nil (words_of (length ws) v)
    ∙ ap (λ (n : ℕ). words_of n v) (l ∙ f)

-- ---- rows of a block

pub length_rows : (w : ℕ) (f : ℕ → ℕ) (m : ℕ) → length (rows_of w f m) ≡ m * w
length_rows w f zero = sym (zero-mul w)
length_rows w f (suc m) =
    length-append (rows_of w f m) (words_of w (f m))
    ∙ ap₂ (λ (a b : ℕ). a + b) (length_rows w f m) (length_words_of w (f m))
    ∙ sym (ap (λ (k : ℕ). k * w) (sym (add-one m)) ∙ add-mul m 1 w ∙ ap (λ (k : ℕ). m * w + k) (one-mul w))

-- the same rows lie in the same words
pub rows_same : (w : ℕ) (f g : ℕ → ℕ) (m : ℕ) → ((k : ℕ) → k < m → f k ≡ g k) → rows_of w f m ≡ rows_of w g m
rows_same w f g zero h = refl
rows_same w f g (suc m) h = ap₂ (λ (a b : List ℕ). a ++ b) (rows_same w f g m (λ k l. h k (omega arith))) (ap (words_of w) (h m (omega arith)))

-- row k of the block
pub term_of_rows : (w : ℕ) (f : ℕ → ℕ) (m k : ℕ) (rest : List ℕ) → k < m → term_of w (rows_of w f m ++ rest) k ≡ words_of w (f k)
term_of_rows w f zero k rest h = absurd (omega arith)
term_of_rows w f (suc m) k rest h =
    ap (λ (l : List ℕ). term_of w l k) (append_assoc (rows_of w f m) (words_of w (f m)) rest)
    ∙ go (eq-or-lt_of_le (le_of_suc-le-suc h)) (term_of_rows w f m k (words_of w (f m) ++ rest))
  where
    go : (k ≡ m) ⊎ (k < m) → (k < m → term_of w (rows_of w f m ++ (words_of w (f m) ++ rest)) k ≡ words_of w (f k)) → term_of w (rows_of w f m ++ (words_of w (f m) ++ rest)) k ≡ words_of w (f k)
    go (inl e) before =
        ap (λ (n : ℕ). term_of w (rows_of w f m ++ (words_of w (f m) ++ rest)) n) e
        ∙ ap (take w) (drop_at (rows_of w f m) (words_of w (f m) ++ rest) (m * w) (length_rows w f m))
        ∙ take_at (words_of w (f m)) rest w (length_words_of w (f m))
        ∙ ap (λ (n : ℕ). words_of w (f n)) (sym e)
    go (inr l) before = before l

-- row k of a slice in whose first words rows were laid: its words, and so its number
pub term_laid : (w : ℕ) (f : ℕ → ℕ) (m k : ℕ) (ws : List ℕ) → k < m → term_of w (laid w f m ws) k ≡ words_of w (f k)
term_laid w f m k ws h = term_of_rows w f m k (drop (m * w) ws) h

pub row_laid : (w : ℕ) (f : ℕ → ℕ) (m k : ℕ) (ws : List ℕ) → k < m → f k < 2 ^ (64 * w) → value (term_of w (laid w f m ws) k) ≡ f k
row_laid w f m k ws h l = ap value (term_laid w f m k ws h) ∙ value_of_words w (f k) l

pub laid_none : (w : ℕ) (f : ℕ → ℕ) (ws : List ℕ) → laid w f 0 ws ≡ ws
laid_none w f ws = ap (λ (n : ℕ). drop n ws) (zero-mul w)

row_more : (m w : ℕ) → (m + 1) * w ≡ m * w + w
row_more m w = add-mul m 1 w ∙ ap (λ (k : ℕ). m * w + k) (one-mul w)

-- row m is written over the words m * w to m * w + w, after the rows before it
pub laid_step : (w : ℕ) (f : ℕ → ℕ) (m k : ℕ) (xs ws ns : List ℕ) → xs ≡ laid w f m ws → ns ≡ words_of w (f m) → k ≡ w
    → take (m * w) xs ++ (ns ++ drop k (drop (m * w) xs)) ≡ laid w f (m + 1) ws
laid_step w f m k xs ws ns ex en ek =
    let first = take_at (rows_of w f m) (drop (m * w) ws) (m * w) (length_rows w f m) in
    let rest = drop_at (rows_of w f m) (drop (m * w) ws) (m * w) (length_rows w f m) in
    ap₂ (λ (a b : List ℕ). a ++ (ns ++ drop k b)) (ap (take (m * w)) ex ∙ first) (ap (drop (m * w)) ex ∙ rest)
    ∙ ap₂ (λ (a b : List ℕ). rows_of w f m ++ (a ++ b)) en
    (ap (λ (n : ℕ). drop n (drop (m * w) ws)) ek ∙ drop-drop w (m * w) ws ∙ ap (λ (n : ℕ). drop n ws) (sym (row_more m w)))
    ∙ sym (append_assoc (rows_of w f m) (words_of w (f m)) (drop ((m + 1) * w) ws))
    ∙ ap (λ (n : ℕ). rows_of w f n ++ drop ((m + 1) * w) ws) (sym (add-one m))

pub length_laid : (w : ℕ) (f : ℕ → ℕ) (m : ℕ) (ws : List ℕ) → m * w ≤ length ws → length (laid w f m ws) ≡ length ws
length_laid w f m ws h =
    length-append (rows_of w f m) (drop (m * w) ws)
    ∙ ap₂ (λ (a b : ℕ). a + b) (length_rows w f m) (length-drop (m * w) ws)
    ∙ omega arith

-- the slice keeps its length
pub laid_keeps : (w : ℕ) (f : ℕ → ℕ) (m : ℕ) (xs ws : List ℕ) → xs ≡ laid w f (m + 1) ws → m * w + w ≤ length ws → length xs ≡ length ws
laid_keeps w f m xs ws e h = ap length e ∙ length_laid w f (m + 1) ws (omega (arith, row_more m w))

-- ---- numbers

pub length_numbers : (f : ℕ → ℕ) (m : ℕ) → length (numbers_of f m) ≡ m
length_numbers f zero = refl
length_numbers f (suc m) = length-append (numbers_of f m) (f m ∷ []) ∙ ap (λ (n : ℕ). n + 1) (length_numbers f m) ∙ add-one m

pub numbers_same : (f g : ℕ → ℕ) (m : ℕ) → ((k : ℕ) → k < m → f k ≡ g k) → numbers_of f m ≡ numbers_of g m
numbers_same f g zero h = refl
numbers_same f g (suc m) h = ap₂ (λ (a : List ℕ) (b : ℕ). a ++ (b ∷ [])) (numbers_same f g m (λ k l. h k (omega arith))) (h m (omega arith))

-- one number more is written
pub listed_step : (f : ℕ → ℕ) (m : ℕ) (ps ns : List ℕ) {r : ℕ} → m < length ns → ps ≡ listed f m ns → r ≡ f m → set ps m r ≡ listed f (m + 1) ns
listed_step f m ps ns h e q =
    ap₂ (λ (l : List ℕ) (r : ℕ). set l m r) e q
    ∙ ap (λ (l : List ℕ). set (numbers_of f m ++ l) m (f m)) (drop-cons ns m 0 h)
    ∙ set_at (numbers_of f m) (get_or ns m 0) (drop (suc m) ns) (f m) m (length_numbers f m)
    ∙ sym (append_snoc (numbers_of f m) (f m) (drop (suc m) ns))
    ∙ ap (λ (n : ℕ). listed f n ns) (sym (add-one m))

pub length_listed : (f : ℕ → ℕ) (m : ℕ) (ns : List ℕ) → m ≤ length ns → length (listed f m ns) ≡ length ns
length_listed f m ns h = length-append (numbers_of f m) (drop m ns) ∙ ap₂ (λ (a b : ℕ). a + b) (length_numbers f m) (length-drop m ns) ∙ omega arith

-- number k of a slice in whose first places numbers were listed
pub number_listed : (f : ℕ → ℕ) (m k : ℕ) (rest : List ℕ) → k < m → get_or (numbers_of f m ++ rest) k 0 ≡ f k
number_listed f zero k rest h = absurd (omega arith)
number_listed f (suc m) k rest h =
    ap (λ (l : List ℕ). get_or l k 0) (append_snoc (numbers_of f m) (f m) rest)
    ∙ go (eq-or-lt_of_le (le_of_suc-le-suc h)) (number_listed f m k (f m ∷ rest))
  where
    go : (k ≡ m) ⊎ (k < m) → (k < m → get_or (numbers_of f m ++ (f m ∷ rest)) k 0 ≡ f k) → get_or (numbers_of f m ++ (f m ∷ rest)) k 0 ≡ f k
    go (inl e) before =
        ap (λ (n : ℕ). get_or (numbers_of f m ++ (f m ∷ rest)) n 0) e
        ∙ get_or_at (numbers_of f m) (f m) rest 0 m (length_numbers f m)
        ∙ ap f (sym e)
    go (inr l) before = before l
