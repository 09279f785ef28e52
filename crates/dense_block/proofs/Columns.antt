-- One column read, set or cleared: `>>` and `& 1` read a digit of one word, `| m` sets it and `& !m` clears it, in the word and so in the number.
use Rattle.std.proofs.Common.{◌≡◌, ℕ, zero, suc, ◌+◌, ◌-◌, ◌*◌, ◌/◌, ◌%◌, ◌^◌, ◌<◌, ◌≤◌, min, Bool, true, false, List, [], ◌∷◌, length, get_or, drop, set, sym, refl, ap, ◌∙◌, ap₂, not-suc-le-zero, add-zero, mod-lt, mul_assoc, add-mul, one-mul, pow-suc, div-add-mod', mul_left_comm, arith, lit<, get_or-drop, pow_pos, pow-add, shl_exact, shr-shr}
use native.Mathlib.Nat.{mul-add-mod_self_right, mul-add-div_right, add-mul-mod_self_left}
use native.Mathlib.Decide.{dec_lt}
use lib.Seq.{set_out}
use lib.Pow.{pow-lt, split, high}
use lib.Bits.{bit_and, bit_or, and_step, or_add_and, and_le_l}
use Rattle.algebra.specs.Rows.{bit}
use Rattle.algebra.proofs.Digits.{bit_zero, bit_half, and_pow}
use Rattle.dense_block.specs.Words.{value, digit, put_bit, put}
use Rattle.dense_block.proofs.Values.{Words, shift_word, shift_drop, shift_low}

-- ---- a column read

-- the low digits of a row are its first word's
bit_head : (ws : List ℕ) (j : ℕ) → j < 64 → bit (value ws) j ≡ bit (get_or ws 0 0) j
unfolding bit
bit_head [] j h = refl
bit_head (w ∷ ws) j h =
    let e : 64 - j ≡ 1 + (63 - j) = omega arith in
    let p : 2 ^ (64 - j) * value ws ≡ 2 * (2 ^ (63 - j) * value ws) =
    ap (λ (k : ℕ). 2 ^ k * value ws) e ∙ ap (λ (k : ℕ). k * value ws) (pow-add 2 1 (63 - j)) ∙ mul_assoc 2 (2 ^ (63 - j)) (value ws) in
    ap (λ (x : ℕ). x % 2) (shift_low (value ws) w j h ∙ ap (λ (x : ℕ). w / 2 ^ j + x) p)
    ∙ add-mul-mod_self_left (w / 2 ^ j) 2 (2 ^ (63 - j) * value ws)

-- a column is a digit of one word, past the end too
pub bit_value : (ws : List ℕ) (j : ℕ) → Words ws → bit (value ws) j ≡ bit (get_or ws (j / 64) 0) (j % 64)
unfolding bit
bit_value ws j h =
    let e : j ≡ 64 * (j / 64) + j % 64 = omega arith in
    ap (λ (k : ℕ). value ws / 2 ^ k % 2) e
    ∙ ap (λ (x : ℕ). x % 2) (shift_drop ws (j / 64) (j % 64) h)
    ∙ bit_head (drop (j / 64) ws) (j % 64) (omega arith)
    ∙ ap (λ (x : ℕ). bit x (j % 64)) (get_or-drop (j / 64) ws 0 0 ∙ ap (λ (k : ℕ). get_or ws k 0) (add-zero (j / 64)))

-- ---- a digit made on or off, and the others

bit_above : (p k lo m : ℕ) → lo < 2 ^ k → bit (p * 2 ^ k + lo) (k + m) ≡ bit p m
unfolding bit
bit_above p k lo m h = ap (λ (x : ℕ). x % 2) (sym (shr-shr (p * 2 ^ k + lo) k m) ∙ ap (λ (x : ℕ). x / 2 ^ m) (high p k h))

bit_below : (p k lo j : ℕ) → j < k → bit (p * 2 ^ k + lo) j ≡ bit lo j
unfolding bit
bit_below p k lo j h =
    let m = k - j - 1 in
    let e : k ≡ (m + 1) + j = omega arith in
    let f : p * 2 ^ k ≡ (p * 2 ^ m * 2) * 2 ^ j =
    ap (λ (n : ℕ). p * 2 ^ n) e ∙ ap (λ (n : ℕ). p * n) (pow-add 2 (m + 1) j ∙ ap (λ (n : ℕ). n * 2 ^ j) (pow-add 2 m 1))
    ∙ sym (mul_assoc p (2 ^ m * 2) (2 ^ j)) ∙ ap (λ (n : ℕ). n * 2 ^ j) (sym (mul_assoc p (2 ^ m) 2)) in
    ap (λ (n : ℕ). (n + lo) / 2 ^ j % 2) f
    ∙ ap (λ (n : ℕ). n % 2) (mul-add-div_right (pow_pos j) (p * 2 ^ m * 2) lo)
    ∙ mul-add-mod_self_right (p * 2 ^ m) 2 (lo / 2 ^ j)

-- a number by its digits above k, the digit k, and those below
put_parts : (x k : ℕ) (on : Bool) → put_bit x k on ≡ (x / 2 ^ k / 2 * 2 + digit on) * 2 ^ k + x % 2 ^ k
unfolding put_bit bit
put_parts x k on =
    let s = split x k in
    let h : x / 2 ^ k * 2 ^ k ≡ x / 2 ^ k / 2 * 2 * 2 ^ k + x / 2 ^ k % 2 * 2 ^ k =
    ap (λ (n : ℕ). n * 2 ^ k) (sym (div-add-mod' (x / 2 ^ k) 2)) ∙ add-mul (x / 2 ^ k / 2 * 2) (x / 2 ^ k % 2) (2 ^ k) in
    omega (arith, add-mul (x / 2 ^ k / 2 * 2) (digit on) (2 ^ k))

digit_lt : (on : Bool) → digit on < 2
digit_lt true = omega arith
digit_lt false = omega arith

pub put_same : (x k : ℕ) (on : Bool) → bit (put_bit x k on) k ≡ digit on
put_same x k on =
    rw (put_parts x k on)
    (ap (bit ((x / 2 ^ k / 2 * 2 + digit on) * 2 ^ k + x % 2 ^ k)) (sym (add-zero k))
    ∙ bit_above (x / 2 ^ k / 2 * 2 + digit on) k (x % 2 ^ k) 0 (mod-lt x (pow_pos k))
    ∙ bit_zero (x / 2 ^ k / 2 * 2 + digit on)
    ∙ omega (arith, digit_lt on))

pub put_other : (x k j : ℕ) (on : Bool) → (j ≡ k → ⊥) → bit (put_bit x k on) j ≡ bit x j
put_other x k j on n = rw (put_parts x k on) (go (dec_lt j k) ∙ ap (λ (y : ℕ). bit y j) (split x k))
  where
    lo : x % 2 ^ k < 2 ^ k
    lo = mod-lt x (pow_pos k)

    go : Dec (j < k) → bit ((x / 2 ^ k / 2 * 2 + digit on) * 2 ^ k + x % 2 ^ k) j ≡ bit (x / 2 ^ k * 2 ^ k + x % 2 ^ k) j
    go (yes h) = bit_below (x / 2 ^ k / 2 * 2 + digit on) k (x % 2 ^ k) j h ∙ sym (bit_below (x / 2 ^ k) k (x % 2 ^ k) j h)
    go (no h) =
        let m = j - k - 1 in
        let e : j ≡ k + (1 + m) = omega (arith, h) in
        ap (bit ((x / 2 ^ k / 2 * 2 + digit on) * 2 ^ k + x % 2 ^ k)) e
        ∙ bit_above (x / 2 ^ k / 2 * 2 + digit on) k (x % 2 ^ k) (1 + m) lo
        ∙ sym (bit_half (x / 2 ^ k / 2 * 2 + digit on) m)
        ∙ ap (λ (y : ℕ). bit y m) (omega (arith, digit_lt on))
        ∙ bit_half (x / 2 ^ k) m
        ∙ sym (bit_above (x / 2 ^ k) k (x % 2 ^ k) (1 + m) lo)
        ∙ ap (bit (x / 2 ^ k * 2 ^ k + x % 2 ^ k)) (sym e)

-- ---- one word, as the code does it

-- `1 << k` in 64 bits
pub one_shl : (k : ℕ) → k < 64 → (1 * 2 ^ k) % 2 ^ 64 ≡ 2 ^ k
one_shl k h = shl_exact 1 k 64 (lit< tt) (omega arith) ∙ one-mul (2 ^ k)

put_on : (x k : ℕ) → bit_or x (2 ^ k) ≡ put_bit x k true
unfolding put_bit
put_on x k = omega (arith, or_add_and x (2 ^ k), and_pow x k, and_le_l x (2 ^ k))

-- `x & !m`, in k bits
and_not : (k x m : ℕ) → x < 2 ^ k → m < 2 ^ k → bit_and x ((2 ^ k - 1) - m) ≡ x - bit_and x m
and_not zero x m h g = let e : x ≡ 0 = omega arith in rw e
and_not (suc k) x m h g =
    let p = pow-suc 2 k in
    let n = (2 ^ suc k - 1) - m in
    let half : n / 2 ≡ (2 ^ k - 1) - m / 2 = omega arith in
    let low : n % 2 ≡ 1 - m % 2 = omega arith in
    let ih = and_not k (x / 2) (m / 2) (omega arith) (omega arith) in
    let s = and_step x n ∙ ap₂ (λ (a b : ℕ). bit_and (x / 2) a * 2 + min (x % 2) b) half low in
    last x (m % 2) (bit_and x n) (bit_and x m) (bit_and (x / 2) ((2 ^ k - 1) - m / 2)) (bit_and (x / 2) (m / 2)) (omega arith) s (and_step x m) ih (and_le_l (x / 2) (m / 2))
  where
    last : (x d u v p q : ℕ) → d < 2 → u ≡ p * 2 + min (x % 2) (1 - d) → v ≡ q * 2 + min (x % 2) d → p ≡ x / 2 - q → q ≤ x / 2 → u ≡ x - v
    last x d u v p q h a b c e = omega arith

put_off : (x k : ℕ) → x < 2 ^ 64 → k < 64 → bit_and x ((2 ^ 64 - 1) - 2 ^ k) ≡ put_bit x k false
unfolding put_bit
put_off x k h g = omega (arith, and_not 64 x (2 ^ k) h (pow-lt g), and_pow x k)

pub put_word_on : (ws : List ℕ) (j : ℕ) → set ws (j / 64) (bit_or (get_or ws (j / 64) 0) ((1 * 2 ^ (j % 64)) % 2 ^ 64)) ≡ put ws j true
unfolding put
put_word_on ws j = rw (one_shl (j % 64) (omega arith), put_on)

pub put_word_off : (ws : List ℕ) (j : ℕ)
    → get_or ws (j / 64) 0 < 2 ^ 64
    → set ws (j / 64) (bit_and (get_or ws (j / 64) 0) ((2 ^ 64 - 1) - (1 * 2 ^ (j % 64)) % 2 ^ 64)) ≡ put ws j false
unfolding put
put_word_off ws j h = rw (one_shl (j % 64) (omega arith), put_off (get_or ws (j / 64) 0) (j % 64) h (omega arith))

pub put_past : (ws : List ℕ) (j : ℕ) (on : Bool) → length ws ≤ j / 64 → ws ≡ put ws j on
unfolding put
put_past ws j on h = sym (set_out ws (j / 64) (put_bit (get_or ws (j / 64) 0) (j % 64) on) h)

-- ---- a column set in the words is a digit set in the number

put_low : (w v r : ℕ) (on : Bool) → bit (w + 2 ^ 64 * v) r ≡ bit w r → put_bit w r on + 2 ^ 64 * v ≡ put_bit (w + 2 ^ 64 * v) r on
unfolding put_bit
put_low w v r on e =
    let under : bit w r * 2 ^ r ≤ w = omega (arith, and_le_l w (2 ^ r), and_pow w r) in
    rw e (omega arith)

put_high : (w v k : ℕ) (on : Bool) → bit (w + 2 ^ 64 * v) (64 + k) ≡ bit v k → w + 2 ^ 64 * put_bit v k on ≡ put_bit (w + 2 ^ 64 * v) (64 + k) on
unfolding put_bit
put_high w v k on e =
    let under : bit v k * 2 ^ k ≤ v = omega (arith, and_le_l v (2 ^ k), and_pow v k) in
    rw (e, pow-add 2 64 k) (omega (arith, mul_left_comm (bit v k) (2 ^ 64) (2 ^ k), mul_left_comm (digit on) (2 ^ 64) (2 ^ k)))

put_at : (ws : List ℕ) (i r : ℕ) (on : Bool) → i < length ws → r < 64 → Words ws
    → value (set ws i (put_bit (get_or ws i 0) r on)) ≡ put_bit (value ws) (64 * i + r) on
unfolding bit
put_at [] i r on h k p = absurd (not-suc-le-zero h)
put_at (w ∷ ws) zero r on h k p =
    let e : 64 * 0 + r ≡ r = omega arith in
    rw e (put_low w (value ws) r on (bit_head (w ∷ ws) r k))
put_at (w ∷ ws) (suc i) r on h k p =
    let e : 64 * suc i + r ≡ 64 + (64 * i + r) = omega arith in
    ap (λ (v : ℕ). w + 2 ^ 64 * v) (put_at ws i r on (omega arith) k (λ n. p (suc n)))
    ∙ put_high w (value ws) (64 * i + r) on (ap (λ (x : ℕ). x % 2) (shift_word (value ws) w (64 * i + r) (p 0)))
    ∙ ap (λ (n : ℕ). put_bit (w + 2 ^ 64 * value ws) n on) (sym e)

pub value_put : (ws : List ℕ) (j : ℕ) (on : Bool) → j / 64 < length ws → Words ws → value (put ws j on) ≡ put_bit (value ws) j on
unfolding put
value_put ws j on h p =
    let e : 64 * (j / 64) + j % 64 ≡ j = omega arith in
    put_at ws (j / 64) (j % 64) on h (omega arith) p ∙ ap (λ (n : ℕ). put_bit (value ws) n on) e
