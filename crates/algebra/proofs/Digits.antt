-- Laws of the binary digits of a number: what xor and and do to each, when digits settle a number, its highest digit.
use Prim.Native.Nat.{ℕ, zero, suc, ◌+◌, ◌-◌, ◌*◌, ◌/◌, ◌%◌, ◌^◌, ◌≤◌, ◌<◌, min}
use native.Mathlib.Nat.{mod-lt, mod_self, div-one, div-div-eq-div-mul, div-eq_of_lt, lt_of_lt_of_le, one-mul, add_assoc, mod-add-mod, add-mod-mod}
use native.Mathlib.Decide.{dec_lt}
use native.Mathlib.Omega.{arith}
use mathlib.Core.Path.{◌≡◌, refl, sym, ap, ◌∙◌}
use mathlib.Core.Logic.{◌⊎◌, inl, inr, ◌≢◌}
use lib.Arith.{bin_ind}
use lib.Pow.{pow-add, pow_pos, pow_mono, pow-lt, split, shl-shr, shr_lt, field, mod-mod-pow}
use lib.Bits.{bit_and, bit_xor, differ, xor_shr, xor_step, and_shr, and_step, and_high, xor_comm, xor_zero_l, xor_zero_r, xor_self, xor_shifted}
use Rattle.algebra.specs.Rows.{bit}

-- ---- one digit

pub bit_lt : (x j : ℕ) → bit x j < 2
unfolding bit
bit_lt x j = omega arith

-- a digit is 0 or 1
pub zero_or_one : (d : ℕ) → d < 2 → (d ≡ 0) ⊎ (d ≡ 1)
zero_or_one zero h = inl refl
zero_or_one (suc zero) h = inr refl
zero_or_one (suc (suc d)) h = absurd (omega arith)

pub bit_zero : (x : ℕ) → bit x 0 ≡ x % 2
unfolding bit
bit_zero x = ap (λ (n : ℕ). n % 2) (div-one x)

pub bit_half : (x j : ℕ) → bit (x / 2) j ≡ bit x (1 + j)
unfolding bit
bit_half x j = ap (λ (n : ℕ). n % 2) (div-div-eq-div-mul x 2 (2 ^ j) ∙ ap (λ (m : ℕ). x / m) (sym (pow-add 2 1 j)))

differ_odd : (a b : ℕ) → a < 2 → b < 2 → differ a b ≡ (a + b) % 2
differ_odd zero zero h k = refl
differ_odd zero (suc b) h k = omega arith
differ_odd (suc a) zero h k = omega arith
differ_odd (suc a) (suc b) h k = omega (arith, differ_odd a b (omega arith) (omega arith))

pub bit_of_xor : (a b j : ℕ) → bit (bit_xor a b) j ≡ (bit a j + bit b j) % 2
unfolding bit
bit_of_xor a b j =
    ap (λ (x : ℕ). x % 2) (xor_shr a b j)
    ∙ omega (arith, xor_step (a / 2 ^ j) (b / 2 ^ j), differ_odd (a / 2 ^ j % 2) (b / 2 ^ j % 2) (omega arith) (omega arith))

pub bit_of_and : (a b j : ℕ) → bit (bit_and a b) j ≡ min (bit a j) (bit b j)
unfolding bit
bit_of_and a b j = ap (λ (x : ℕ). x % 2) (and_shr a b j) ∙ omega (arith, and_step (a / 2 ^ j) (b / 2 ^ j))

-- ---- digits settle a number

pub bits_ext : (a b : ℕ) → ((j : ℕ) → bit a j ≡ bit b j) → a ≡ b
bits_ext a b h = fuel (a + b) a b (omega arith) (omega arith) h
  where
    fuel : (n x y : ℕ) → x ≤ n → y ≤ n → ((j : ℕ) → bit x j ≡ bit y j) → x ≡ y
    fuel zero x y p q e = omega arith
    fuel (suc n) x y p q e =
        let ih = fuel n (x / 2) (y / 2) (omega arith) (omega arith) (λ j. bit_half x j ∙ e (1 + j) ∙ sym (bit_half y j)) in
        omega (arith, bit_zero x, bit_zero y, e 0)

-- below 2 ^ k there is no digit at k or above
pub bit_none : (k m i : ℕ) → m < 2 ^ k → k ≤ i → bit m i ≡ 0
unfolding bit
bit_none k m i h g = ap (λ (x : ℕ). x % 2) (div-eq_of_lt (lt_of_lt_of_le h (pow_mono g)))

pub bit_of_zero : (i : ℕ) → bit 0 i ≡ 0
bit_of_zero i = bit_none 0 0 i (omega arith) (omega arith)

pub bit_mod : (k m i : ℕ) → i < k → bit (m % 2 ^ k) i ≡ bit m i
unfolding bit
bit_mod k m i h =
    let e : k ≡ ((k - i - 1) + 1) + i = omega arith in
    ap (λ (j : ℕ). m % 2 ^ j / 2 ^ i % 2) e ∙ ap (λ (x : ℕ). x % 2) (field m ((k - i - 1) + 1) i) ∙ mod-mod-pow (m / 2 ^ i) (k - i - 1) 1

-- numbers below 2 ^ k with the same digits below k
pub bits_below : (k a b : ℕ) → a < 2 ^ k → b < 2 ^ k → ((j : ℕ) → j < k → bit a j ≡ bit b j) → a ≡ b
bits_below k a b p q h = bits_ext a b (λ j. go j (dec_lt j k))
  where
    go : (j : ℕ) → Dec (j < k) → bit a j ≡ bit b j
    go j (yes l) = h j l
    go j (no l) = let g : k ≤ j = omega (arith, l) in bit_none k a j p g ∙ sym (bit_none k b j q g)

-- ---- powers of two

pub bit_pow : (k : ℕ) → bit (2 ^ k) k ≡ 1
unfolding bit
bit_pow k = ap (λ (x : ℕ). x % 2) (ap (λ (x : ℕ). x / 2 ^ k) (sym (one-mul (2 ^ k))) ∙ shl-shr 1 k)

pub bit_pow_other : (k i : ℕ) → i ≢ k → bit (2 ^ k) i ≡ 0
bit_pow_other k i h = go (dec_lt i k)
  where
    go : Dec (i < k) → bit (2 ^ k) i ≡ 0
    go (yes l) = sym (bit_mod k (2 ^ k) i l) ∙ ap (λ (x : ℕ). bit x i) (mod_self (2 ^ k)) ∙ bit_of_zero i
    go (no l) = bit_none (suc k) (2 ^ k) i (pow-lt (omega arith)) (omega (arith, l))

pub and_pow : (x k : ℕ) → bit_and x (2 ^ k) ≡ bit x k * 2 ^ k
unfolding bit
and_pow x k =
    let p : 2 ^ (1 + k) ≡ 2 * 2 ^ k = pow-add 2 1 k in
    let e : 2 ^ k ≡ 2 ^ (1 + k) - 2 ^ k = omega arith in
    ap (bit_and x) e ∙ and_high x 1 k

-- ---- xor

pub xor_assoc : (a b c : ℕ) → bit_xor (bit_xor a b) c ≡ bit_xor a (bit_xor b c)
xor_assoc a b c = bits_ext _ _ (λ j. simp (bit_of_xor, mod-add-mod, add-mod-mod, add_assoc))

pub xor_left_comm : (a b c : ℕ) → bit_xor a (bit_xor b c) ≡ bit_xor b (bit_xor a c)
xor_left_comm a b c = rw (← xor_assoc a b c, xor_comm a b, xor_assoc)

pub xor_swap : (a b c d : ℕ) → bit_xor (bit_xor a b) (bit_xor c d) ≡ bit_xor (bit_xor a c) (bit_xor b d)
xor_swap a b c d = simp (xor_assoc, xor_left_comm b c d)

-- each row is its own inverse
pub xor_back : (a b : ℕ) → bit_xor (bit_xor a b) b ≡ a
xor_back a b = rw (xor_assoc, xor_self, xor_zero_r)

pub xor_same : (a b : ℕ) → bit_xor a b ≡ 0 → a ≡ b
xor_same a b h = sym (xor_back a b) ∙ ap (λ (x : ℕ). bit_xor x b) h ∙ xor_zero_l b

pub xor_cancel : (s a b : ℕ) → bit_xor s a ≡ bit_xor s b → a ≡ b
xor_cancel s a b h = sym (undo a) ∙ ap (bit_xor s) h ∙ undo b
  where
    undo : (x : ℕ) → bit_xor s (bit_xor s x) ≡ x
    undo x = rw (← xor_assoc s s x, xor_self, xor_zero_l)

-- ---- the highest digit

-- a positive number has one
pub top : (u : ℕ) → 0 < u → (j : ℕ) × (u / 2 ^ j ≡ 1)
top = bin_ind (λ (u : ℕ). 0 < u → (j : ℕ) × (u / 2 ^ j ≡ 1)) (λ h. absurd (omega arith)) (λ u ih h. go u ih h (dec_lt 1 u))
  where
    go : (u : ℕ) → (0 < u / 2 → (j : ℕ) × (u / 2 / 2 ^ j ≡ 1)) → 0 < u → Dec (1 < u) → (j : ℕ) × (u / 2 ^ j ≡ 1)
    go u ih h (yes l) =
        let r = ih (omega arith) in
        (1 + r.0, ap (λ (x : ℕ). u / x) (pow-add 2 1 r.0) ∙ sym (div-div-eq-div-mul u 2 (2 ^ r.0)) ∙ r.1)
    go u ih h (no l) = (0, omega (arith, l))

pub top_digit : (u j : ℕ) → u / 2 ^ j ≡ 1 → bit u j ≡ 1
unfolding bit
top_digit u j h = omega arith

-- the highest digit, and what is below it
pub top_split : (u j : ℕ) → u / 2 ^ j ≡ 1 → u ≡ bit_xor (2 ^ j) (u % 2 ^ j)
top_split u j h =
    sym (split u j)
    ∙ sym (xor_shifted (u / 2 ^ j) j (u % 2 ^ j) (mod-lt u (pow_pos j)))
    ∙ ap (λ (x : ℕ). bit_xor x (u % 2 ^ j)) (ap (λ (x : ℕ). x * 2 ^ j) h ∙ one-mul (2 ^ j))

pub top_lt : (u j : ℕ) → u / 2 ^ j ≡ 1 → u < 2 ^ suc j
top_lt u j h = omega (arith, split u j, mod-lt u (pow_pos j), ap (λ (x : ℕ). x * 2 ^ j) h)

pub top_pos : (u j : ℕ) → u / 2 ^ j ≡ 1 → 0 < u
top_pos u j h = omega (arith, split u j, pow_pos j, ap (λ (x : ℕ). x * 2 ^ j) h)

-- it lies below a power of two that bounds the number
pub top_below : (u j k : ℕ) → u / 2 ^ j ≡ 1 → u < 2 ^ k → j < k
top_below u j k h l = go (dec_lt j k)
  where
    go : Dec (j < k) → j < k
    go (yes g) = g
    go (no g) = let e : k ≤ j = omega (arith, g) in absurd (omega (arith, div-eq_of_lt (lt_of_lt_of_le l (pow_mono e))))

div_below : (u j : ℕ) → u / 2 ^ j ≡ 0 → u < 2 ^ j
div_below u j h = omega (arith, split u j, mod-lt u (pow_pos j), ap (λ (x : ℕ). x * 2 ^ j) h)

pub low_or_top : (u j : ℕ) → u < 2 ^ suc j → (u < 2 ^ j) ⊎ (u / 2 ^ j ≡ 1)
low_or_top u j h = go (zero_or_one (u / 2 ^ j) (shr_lt 1 j (rw (one_add j) h)))
  where
    one_add : (j : ℕ) → 1 + j ≡ suc j
    one_add j = omega arith

    go : (u / 2 ^ j ≡ 0) ⊎ (u / 2 ^ j ≡ 1) → (u < 2 ^ j) ⊎ (u / 2 ^ j ≡ 1)
    go (inl z) = inl (div_below u j z)
    go (inr o) = inr o
