-- A flipped column of a row of words is a xor with one digit in its number.
use Prim.Native.Nat.{ℕ, zero, suc, ◌+◌, ◌*◌, ◌/◌, ◌%◌, ◌^◌, ◌<◌, ◌≤◌}
use native.Mathlib.Nat.{min-eq_left}
use native.Mathlib.Omega.{arith}
use mathlib.Core.Path.{◌≡◌, refl, sym, ap, ap₂, ◌∙◌}
use mathlib.Core.List.{List, [], ◌∷◌, ◌++◌}
use lib.ListN.{length, get_or, set, take, drop, replicate, length-set, length-take}
use lib.Bits.{bit_xor, xor_block, xor_zero_l, xor_zero_r}
use lib.Pow.{pow-add, pow_pos, pow-lt}
use Rattle.dense_block.specs.Words.{value, words_of, zeroed}
use Rattle.dense_block.proofs.Values.{Words, words_of_value}
use Rattle.ternarytree.specs.Tables.{flipped, lettered}

block : (w v : ℕ) → w + 2 ^ 64 * v ≡ v * 2 ^ 64 + w
block w v = omega arith

-- xor of the lowest word, and of the words above
xor_low : (w v r : ℕ) → w < 2 ^ 64 → r < 64 → bit_xor w (2 ^ r) + 2 ^ 64 * v ≡ bit_xor (w + 2 ^ 64 * v) (2 ^ r)
xor_low w v r h g =
    let b : 2 ^ r < 2 ^ 64 = pow-lt g in
    let e : bit_xor (v * 2 ^ 64 + w) (0 * 2 ^ 64 + 2 ^ r) ≡ bit_xor v 0 * 2 ^ 64 + bit_xor w (2 ^ r) = xor_block 64 v 0 w (2 ^ r) h b in
    let z : 0 * 2 ^ 64 + 2 ^ r ≡ 2 ^ r = omega arith in
    rw (block w v, block (bit_xor w (2 ^ r)) v, ← z) (sym (e ∙ rw (xor_zero_r v, z)))

xor_high : (w v j : ℕ) → w < 2 ^ 64 → w + 2 ^ 64 * bit_xor v (2 ^ j) ≡ bit_xor (w + 2 ^ 64 * v) (2 ^ (64 + j))
xor_high w v j h =
    let e : bit_xor (v * 2 ^ 64 + w) (2 ^ j * 2 ^ 64 + 0) ≡ bit_xor v (2 ^ j) * 2 ^ 64 + bit_xor w 0 = xor_block 64 v (2 ^ j) w 0 h (pow_pos 64) in
    let z : 2 ^ (64 + j) ≡ 2 ^ j * 2 ^ 64 + 0 = pow-add 2 64 j ∙ omega arith in
    rw (block w v, block w (bit_xor v (2 ^ j)), z) (sym (e ∙ rw (xor_zero_r w)))

at_word : (ws : List ℕ) (i r : ℕ) → i < length ws → r < 64 → Words ws → value (set ws i (bit_xor (get_or ws i 0) (2 ^ r))) ≡ bit_xor (value ws) (2 ^ (64 * i + r))
at_word [] i r h g words = absurd (omega arith)
at_word (w ∷ ws) zero r h g words =
    let e : 64 * 0 + r ≡ r = omega arith in
    rw e (xor_low w (value ws) r (words 0) g)
at_word (w ∷ ws) (suc i) r h g words =
    let e : 64 * suc i + r ≡ 64 + (64 * i + r) = omega arith in
    rw (e, at_word ws i r (omega arith) g (λ i. words (suc i))) (xor_high w (value ws) (64 * i + r) (words 0))

pub value_flipped : (ws : List ℕ) (j : ℕ) → j / 64 < length ws → Words ws → value (flipped ws j) ≡ bit_xor (value ws) (2 ^ j)
unfolding flipped
value_flipped ws j h words =
    let e : 64 * (j / 64) + j % 64 ≡ j = omega arith in
    at_word ws (j / 64) (j % 64) h (omega arith) words ∙ rw e

pub length_flipped : (ws : List ℕ) (j : ℕ) → length (flipped ws j) ≡ length ws
unfolding flipped
length_flipped ws j = length-set ws (j / 64) _

pub length_lettered : (b : ℕ) (ws : List ℕ) (j : ℕ) → length (lettered b ws j) ≡ length ws
length_lettered zero ws j = refl
length_lettered (suc b) ws j = length_flipped ws j

-- ---- a part of a row as a whole

value_zero : (n : ℕ) → value (replicate n 0) ≡ 0
value_zero zero = refl
value_zero (suc n) = ap (λ (v : ℕ). 0 + 2 ^ 64 * v) (value_zero n)

-- a part at the front that is filled with zeros
zeroed_is : (n : ℕ) (ws : List ℕ) → n ≤ length ws → replicate n 0 ++ drop n ws ≡ zeroed n ws
zeroed_is zero ws h = refl
zeroed_is (suc n) [] h = absurd (omega arith)
zeroed_is (suc n) (w ∷ ws) h = ap (λ (l : List ℕ). 0 ∷ l) (zeroed_is n ws (omega arith))

pub zeroed_front : (n : ℕ) (ws ys : List ℕ) → n ≤ length ws → ys ≡ replicate (length (take n ws)) 0 → ys ++ drop n ws ≡ zeroed n ws
zeroed_front n ws ys h e = rw (e, length-take, min-eq_left h) (zeroed_is n ws h)

-- words of a cleared part to which the number v was added
pub words_are : (xs ys ws : List ℕ) (v : ℕ) → ys ≡ replicate (length ws) 0 → length xs ≡ length ws → Words xs → value xs ≡ bit_xor (value ys) v → xs ≡ words_of (length ws) v
words_are xs ys ws v ey el w e =
    sym (words_of_value xs w)
    ∙ ap₂ words_of el (e ∙ ap (λ (l : List ℕ). bit_xor (value l) v) ey ∙ ap (λ (n : ℕ). bit_xor n v) (value_zero (length ws)) ∙ xor_zero_l v)
