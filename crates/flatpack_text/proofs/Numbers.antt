-- A field with one byte more: digits go on as a number grows. By induction on the field, and by the answers of its tests.
use Prim.Native.Nat.{ℕ, ◌+◌, ◌-◌, ◌*◌, ◌≤◌}
use native.Mathlib.Nat.{zero-add}
use native.Mathlib.Omega.{arith}
use mathlib.Core.Path.{◌≡◌, refl, sym}
use mathlib.Core.List.{List, [], ◌∷◌, ◌++◌}
use mathlib.Core.Bool.{Bool, true, false, cond, not, ◌&&◌, and_assoc}
use lib.Dec.{eqb, ltb, leb}
use borrow.Author.Tests.{eqb-true, eqb-false, leb-true, le-leb, lt-ltb}
use Rattle.refusal.proofs.Bools.{and_left, and_right, never}
use Rattle.flatpack_text.specs.declared.read.Field.TheVariants.{Dash, Number, Bad}
use Rattle.flatpack_text.specs.Text.{is_digit, all_digits, leading_zero, decimal_from, decimal, is_number, is_dash, field_of}
use Rattle.flatpack_text.specs.Moves.{next}

pub digit_low : (b : ℕ) → is_digit b ≡ true → 48 ≤ b
unfolding is_digit
digit_low b h = leb-true 48 b (and_left (leb 48 b) (leb b 57) h)

pub digit_high : (b : ℕ) → is_digit b ≡ true → b ≤ 57
unfolding is_digit
digit_high b h = leb-true b 57 (and_right (leb 48 b) (leb b 57) h)

digits_more : (t : List ℕ) (b : ℕ) → all_digits (t ++ (b ∷ [])) ≡ (all_digits t && is_digit b)
digits_more [] b = go (is_digit b)
  where
    go : (d : Bool) → (d && true) ≡ d
    go true = refl
    go false = refl
digits_more (a ∷ t) b = rw (digits_more t b) (sym (and_assoc (is_digit a) (all_digits t) (is_digit b)))

pub decimal_more : (n : ℕ) (t : List ℕ) (b : ℕ) → decimal_from n (t ++ (b ∷ [])) ≡ 10 * decimal_from n t + (b - 48)
decimal_more n [] b = refl
decimal_more n (a ∷ t) b = decimal_more (10 * n + (a - 48)) t b

decimal_grows : (n : ℕ) (t : List ℕ) → n ≤ decimal_from n t
decimal_grows n [] = omega arith
decimal_grows n (a ∷ t) = let h = decimal_grows (10 * n + (a - 48)) t in omega arith

-- a first digit other than 0 makes a number above 0, and may have more after it
first_digit : (a : ℕ) (t : List ℕ) → is_digit a ≡ true → (not (leading_zero (a ∷ t)) && ltb 0 (decimal (a ∷ t))) ≡ not (eqb a 48)
first_digit a t h = go t (eqb a 48) refl
  where
    above : (t : List ℕ) → eqb a 48 ≡ false → ltb 0 (decimal (a ∷ t)) ≡ true
    above t e =
        let g = decimal_grows (10 * 0 + (a - 48)) t in
        let l = digit_low a h in
        let n = eqb-false a 48 e in
        lt-ltb 0 (decimal (a ∷ t)) (omega arith)

    go : (t : List ℕ) (z : Bool) → eqb a 48 ≡ z → (not (leading_zero (a ∷ t)) && ltb 0 (decimal (a ∷ t))) ≡ not z
    go [] true e = let s : a ≡ 48 = eqb-true a 48 e in rw s
    go [] false e = above [] e
    go (c ∷ t) true e = rw e
    go (c ∷ t) false e = rw e (above (c ∷ t) e)

-- what a number asks of one digit more
abbrev grows : ℕ → ℕ → Bool
grows n b = is_digit b && (ltb 0 n && leb (10 * n + (b - 48)) 65535)

-- the tests of a number: digits d, one more digit e, first digit not 0 f, no leading zero l, above 0 z, small enough s, still small enough m
tests : (d e f l z s m : Bool) → (d ≡ true → (l && z) ≡ f) → (m ≡ true → s ≡ true) → ((d && e) && (f && m)) ≡ ((d && (l && s)) && (e && (z && m)))
tests false e f l z s m p q = refl
tests true false f l z s m p q = go (l && s)
  where
    go : (x : Bool) → false ≡ (x && false)
    go true = refl
    go false = refl
tests true true f l z s false p q = go f (l && s) z
  where
    go : (x y z : Bool) → (x && false) ≡ (y && (z && false))
    go true true true = refl
    go true true false = refl
    go true false z = refl
    go false true true = refl
    go false true false = refl
    go false false z = refl
tests true true f l z s true p q = go l z (sym (p refl)) (q refl)
  where
    go : (l z : Bool) → f ≡ (l && z) → s ≡ true → (f && true) ≡ ((l && s) && (z && true))
    go true true h k = rw (h, k)
    go true false h k = rw (h, k)
    go false z h k = rw h

number_more : (a : ℕ) (t : List ℕ) (b : ℕ) → is_number ((a ∷ t) ++ (b ∷ [])) ≡ (is_number (a ∷ t) && grows (decimal (a ∷ t)) b)
number_more a t b =
    let n = decimal (a ∷ t) in
    rw (digits_more (a ∷ t) b, decimal_more 0 (a ∷ t) b, leads t)
    (tests (all_digits (a ∷ t)) (is_digit b) (not (eqb a 48)) (not (leading_zero (a ∷ t))) (ltb 0 n) (leb n 65535) (leb (10 * n + (b - 48)) 65535)
    (λ h. first_digit a t (and_left (is_digit a) (all_digits t) h))
    (λ h. let l = leb-true (10 * n + (b - 48)) 65535 h in le-leb n 65535 (omega arith)))
  where
    leads : (t : List ℕ) → leading_zero ((a ∷ t) ++ (b ∷ [])) ≡ eqb a 48
    leads [] = refl
    leads (c ∷ t) = refl

not_dash : (a : ℕ) (t : List ℕ) (b : ℕ) → is_dash ((a ∷ t) ++ (b ∷ [])) ≡ false
not_dash a [] b = refl
not_dash a (c ∷ t) b = refl

dash_or_number : (a : ℕ) (t : List ℕ) → is_dash (a ∷ t) ≡ true → is_number (a ∷ t) ≡ true → ⊥
unfolding is_digit
dash_or_number a [] h k =
    let e : a ≡ 45 = eqb-true a 45 h in
    let l = digit_low a (and_left (is_digit a) true (and_left (all_digits (a ∷ [])) _ k)) in
    omega arith
dash_or_number a (c ∷ t) h k = never k (absurd (never h refl))

pub field_more : (f : List ℕ) (b : ℕ) → field_of (f ++ (b ∷ [])) ≡ next (field_of f) b
unfolding field_of next
field_more [] b = go (is_digit b) refl
  where
    go : (d : Bool) → is_digit b ≡ d → cond (eqb b 45) Dash (cond ((d && true) && (true && leb (10 * 0 + (b - 48)) 65535)) (Number (10 * 0 + (b - 48))) Bad) ≡ cond (eqb b 45) Dash (cond d (Number (b - 48)) Bad)
    go true e =
        let h = digit_high b e in
        rw (zero-add (b - 48), le-leb (b - 48) 65535 (omega arith))
    go false e = refl
field_more (a ∷ t) b =
    rw (not_dash a t b, number_more a t b, decimal_more 0 (a ∷ t) b) (go (is_dash (a ∷ t)) (is_number (a ∷ t)) refl refl)
  where
    go : (h k : Bool) → is_dash (a ∷ t) ≡ h → is_number (a ∷ t) ≡ k
        → cond (k && grows (decimal (a ∷ t)) b) (Number (10 * decimal (a ∷ t) + (b - 48))) Bad ≡ next (cond h Dash (cond k (Number (decimal (a ∷ t))) Bad)) b
    go true true p q = absurd (dash_or_number a t p q)
    go true false p q = refl
    go false true p q = refl
    go false false p q = refl
