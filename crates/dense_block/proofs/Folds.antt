-- Common ones folded into a word by xor have the parity of them all, since parities add under xor. By induction on the words.
use Rattle.std.proofs.Common.{◌≡◌, ℕ, suc, ◌+◌, ◌%◌, ◌<◌, ◌≤◌, min, List, [], ◌∷◌, length, get_or, drop, sym, refl, ap, ◌∙◌, ap₂, add-one, arith, drop_of_length-le, drop-cons}
use native.Mathlib.Decide.{dec_lt}
use lib.Bits.{bit_and, bit_xor, xor_zero_r}
use lib.Count.{ones}
use Rattle.algebra.specs.Rows.{dot}
use Rattle.algebra.proofs.Digits.{xor_assoc, xor_swap}
use Rattle.algebra.proofs.Dots.{ones_zero, ones_xor, dot_zero_r, dot_zero_l}
use Rattle.dense_block.specs.Words.{value, folded}
use Rattle.dense_block.proofs.Values.{Words}
use Rattle.dense_block.proofs.Commons.{word_and_rest}

pub folded_dot : (xs ys : List ℕ) → Words xs → Words ys → ones (folded xs ys) % 2 ≡ dot (value xs) (value ys)
unfolding dot
folded_dot [] ys p q = omega (arith, ones_zero, dot_zero_l (value ys))
folded_dot (x ∷ xs) [] p q = omega (arith, ones_zero, dot_zero_r (value (x ∷ xs)))
folded_dot (x ∷ xs) (y ∷ ys) p q =
    omega (arith, ones_xor (bit_and x y) (folded xs ys), folded_dot xs ys (λ i. p (suc i)) (λ i. q (suc i)), word_and_rest x y (value xs) (value ys) (p 0) (q 0))

-- two folds in one have the parity of both
pub both_dot : (xs ys us vs : List ℕ) → Words xs → Words ys → Words us → Words vs
    → ones (bit_xor (folded xs ys) (folded us vs)) % 2 ≡ (dot (value xs) (value ys) + dot (value us) (value vs)) % 2
both_dot xs ys us vs a b c d = omega (arith, ones_xor (folded xs ys) (folded us vs), folded_dot xs ys a b, folded_dot us vs c d)

-- ---- a loop that folds: what is folded so far and the fold of the rest

folded_step : (xs ys : List ℕ) (i : ℕ) → i < length xs → i < length ys
    → folded (drop i xs) (drop i ys) ≡ bit_xor (bit_and (get_or xs i 0) (get_or ys i 0)) (folded (drop (i + 1) xs) (drop (i + 1) ys))
folded_step xs ys i h k = rw (add-one, drop-cons xs i 0 h, drop-cons ys i 0 k)

folded_end : (xs ys : List ℕ) (i : ℕ) → min (length xs) (length ys) ≤ i → folded (drop i xs) (drop i ys) ≡ 0
folded_end xs ys i h = go (dec_lt i (length xs))
  where
    none : (l : List ℕ) → folded l [] ≡ 0
    none [] = refl
    none (x ∷ l) = refl

    go : Dec (i < length xs) → folded (drop i xs) (drop i ys) ≡ 0
    go (yes l) = let g : length ys ≤ i = omega arith in rw (drop_of_length-le ys g) (none (drop i xs))
    go (no l) = let g : length xs ≤ i = omega (arith, l) in rw (drop_of_length-le xs g)

pub fold_next : (xs ys : List ℕ) (i sum whole : ℕ) → i < length xs → i < length ys → bit_xor sum (folded (drop i xs) (drop i ys)) ≡ whole
    → bit_xor (bit_xor sum (bit_and (get_or xs i 0) (get_or ys i 0))) (folded (drop (i + 1) xs) (drop (i + 1) ys)) ≡ whole
fold_next xs ys i sum whole h k e = xor_assoc sum _ _ ∙ ap (bit_xor sum) (sym (folded_step xs ys i h k)) ∙ e

-- past the end nothing is left
pub fold_past : (xs ys : List ℕ) (i sum whole : ℕ) → min (length xs) (length ys) ≤ i → bit_xor sum (folded (drop i xs) (drop i ys)) ≡ whole
    → bit_xor sum (folded (drop (i + 1) xs) (drop (i + 1) ys)) ≡ whole
fold_past xs ys i sum whole h e = ap (bit_xor sum) (folded_end xs ys (i + 1) (omega arith) ∙ sym (folded_end xs ys i h)) ∙ e

pub fold_done : (xs ys : List ℕ) (i sum whole : ℕ) → min (length xs) (length ys) ≤ i → bit_xor sum (folded (drop i xs) (drop i ys)) ≡ whole → sum ≡ whole
fold_done xs ys i sum whole h e = sym (xor_zero_r sum) ∙ ap (bit_xor sum) (sym (folded_end xs ys i h)) ∙ e

-- the same for two at once
pub both_next : (xs ys us vs : List ℕ) (i sum whole : ℕ) → i < length xs → i < length ys → i < length us → i < length vs
    → bit_xor sum (bit_xor (folded (drop i xs) (drop i ys)) (folded (drop i us) (drop i vs))) ≡ whole
    → bit_xor (bit_xor sum (bit_xor (bit_and (get_or xs i 0) (get_or ys i 0)) (bit_and (get_or us i 0) (get_or vs i 0))))
    (bit_xor (folded (drop (i + 1) xs) (drop (i + 1) ys)) (folded (drop (i + 1) us) (drop (i + 1) vs))) ≡ whole
both_next xs ys us vs i sum whole hx hy hu hv e =
    xor_assoc sum _ _ ∙ ap (bit_xor sum) (xor_swap (word xs ys) (word us vs) (rest xs ys) (rest us vs) ∙ sym (ap₂ bit_xor (folded_step xs ys i hx hy) (folded_step us vs i hu hv))) ∙ e
  where
    word : List ℕ → List ℕ → ℕ
    word k l = bit_and (get_or k i 0) (get_or l i 0)

    rest : List ℕ → List ℕ → ℕ
    rest k l = folded (drop (i + 1) k) (drop (i + 1) l)

pub both_past : (xs ys us vs : List ℕ) (i sum whole : ℕ) → min (length xs) (length ys) ≤ i → min (length us) (length vs) ≤ i
    → bit_xor sum (bit_xor (folded (drop i xs) (drop i ys)) (folded (drop i us) (drop i vs))) ≡ whole
    → bit_xor sum (bit_xor (folded (drop (i + 1) xs) (drop (i + 1) ys)) (folded (drop (i + 1) us) (drop (i + 1) vs))) ≡ whole
both_past xs ys us vs i sum whole h k e =
    ap (bit_xor sum) (ap₂ bit_xor (folded_end xs ys (i + 1) (omega arith) ∙ sym (folded_end xs ys i h)) (folded_end us vs (i + 1) (omega arith) ∙ sym (folded_end us vs i k))) ∙ e

pub both_done : (xs ys us vs : List ℕ) (i sum whole : ℕ) → min (length xs) (length ys) ≤ i → min (length us) (length vs) ≤ i
    → bit_xor sum (bit_xor (folded (drop i xs) (drop i ys)) (folded (drop i us) (drop i vs))) ≡ whole → sum ≡ whole
both_done xs ys us vs i sum whole h k e = sym (xor_zero_r sum) ∙ ap (bit_xor sum) (sym (ap₂ bit_xor (folded_end xs ys i h) (folded_end us vs i k))) ∙ e
