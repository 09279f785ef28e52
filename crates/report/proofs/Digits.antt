-- The decimal digits of a number: one after another, how many there are, and what they are read as. By induction on the bound of their number.
use Prim.Native.Nat.{ℕ, zero, suc, ◌+◌, ◌-◌, ◌*◌, ◌/◌, ◌%◌, ◌^◌, ◌≤◌, ◌<◌}
use native.Mathlib.Omega.{arith}
use mathlib.Core.Path.{◌≡◌, refl, sym, ap, ◌∙◌}
use mathlib.Core.List.{List, [], ◌∷◌, ◌++◌}
use mathlib.Core.Bool.{Bool, true, false}
use lib.Dec.{ltb}
use lib.ListN.{length, length-append}
use borrow.Author.Tests.{ltb-true, ltb-false, lt-ltb, le-ltb, le-leb, ne_eqb}
use Rattle.flatpack_text.specs.declared.read.Field.{Field}
use Rattle.flatpack_text.specs.declared.read.Field.TheVariants.{Number}
use Rattle.flatpack_text.specs.Text.{is_digit, field_of}
use Rattle.flatpack_text.specs.Moves.{next}
use Rattle.report.specs.Report.{digits_in, digits_of}
use Rattle.flatpack_text.proofs.Numbers.{field_more}

in_small : (k n : ℕ) → n < 10 → digits_in (suc k) n ≡ (48 + n) ∷ []
unfolding digits_in
in_small k n h = rw (lt-ltb n 10 h, digits_in)

in_large : (k n : ℕ) → 10 ≤ n → digits_in (suc k) n ≡ digits_in k (n / 10) ++ ((48 + n % 10) ∷ [])
unfolding digits_in
in_large k n h = rw (le-ltb n 10 h, digits_in)

-- any bound that is large enough gives the same digits
any_bound : (j k n : ℕ) → n < j → n < k → digits_in j n ≡ digits_in k n
any_bound zero k n h l = absurd (omega arith)
any_bound (suc j) zero n h l = absurd (omega arith)
any_bound (suc j) (suc k) n h l = go (ltb n 10) refl (any_bound j k (n / 10))
  where
    go : (b : Bool) → ltb n 10 ≡ b → (n / 10 < j → n / 10 < k → digits_in j (n / 10) ≡ digits_in k (n / 10)) → digits_in (suc j) n ≡ digits_in (suc k) n
    go true e ih = let s = ltb-true n 10 e in in_small j n s ∙ sym (in_small k n s)
    go false e ih =
        let s = ltb-false n 10 e in
        in_large j n s ∙ ap (λ (l : List ℕ). l ++ ((48 + n % 10) ∷ [])) (ih (omega arith) (omega arith)) ∙ sym (in_large k n s)

pub digits_small : (n : ℕ) → n < 10 → digits_of n ≡ (48 + n) ∷ []
unfolding digits_of
digits_small n h = in_small n n h

pub digits_large : (n : ℕ) → 10 ≤ n → digits_of n ≡ digits_of (n / 10) ++ ((48 + n % 10) ∷ [])
unfolding digits_of
digits_large n h = in_large n n h ∙ ap (λ (l : List ℕ). l ++ ((48 + n % 10) ∷ [])) (any_bound n (suc (n / 10)) (n / 10) (omega arith) (omega arith))

-- one digit more, counted
pub length_large : (n : ℕ) → 10 ≤ n → length (digits_of n) ≡ length (digits_of (n / 10)) + 1
length_large n h = ap length (digits_large n h) ∙ length-append (digits_of (n / 10)) ((48 + n % 10) ∷ [])

-- a number below 10^(k + 1) has at most k + 1 digits
pub digits_few : (k n : ℕ) → n < 10 ^ suc k → length (digits_of n) ≤ suc k
digits_few zero n h = rw (digits_small n h) (omega arith)
digits_few (suc k) n h = go (ltb n 10) refl (digits_few k (n / 10))
  where
    go : (b : Bool) → ltb n 10 ≡ b → (n / 10 < 10 ^ suc k → length (digits_of (n / 10)) ≤ suc k) → length (digits_of n) ≤ suc (suc k)
    go true e ih = rw (digits_small n (ltb-true n 10 e)) (omega arith)
    go false e ih =
        let r = ih (omega arith) in
        let l = length_large n (ltb-false n 10 e) in
        omega arith

-- the numbers that a word holds have at most 20 digits
pub digits_word : (n : ℕ) → n < 2 ^ 64 → length (digits_of n) ≤ 20
digits_word n h = digits_few 19 n (omega arith)

-- what is written is read back: the digits of a number of at most 65,535 are a field with that number
digit_read : (m d : ℕ) → 0 < m → d < 10 → 10 * m + d ≤ 65535 → next (Number m) (48 + d) ≡ Number (10 * m + d)
unfolding next is_digit
digit_read m d p h l =
    let e : 48 + d - 48 ≡ d = omega arith in
    rw (e, le-leb 48 (48 + d) (omega arith), le-leb (48 + d) 57 (omega arith), lt-ltb 0 m p, le-leb (10 * m + d) 65535 l)

first_read : (d : ℕ) → d < 10 → field_of ((48 + d) ∷ []) ≡ Number d
unfolding field_of next is_digit
first_read d h =
    let e : 48 + d - 48 ≡ d = omega arith in
    field_more [] (48 + d) ∙ rw (ne_eqb (48 + d) 45 (λ k. omega arith), le-leb 48 (48 + d) (omega arith), le-leb (48 + d) 57 (omega arith), e)

in_read : (k n : ℕ) → n < k → n ≤ 65535 → field_of (digits_in k n) ≡ Number n
in_read zero n h l = absurd (omega arith)
in_read (suc k) n h l = go (ltb n 10) refl (in_read k (n / 10))
  where
    go : (b : Bool) → ltb n 10 ≡ b → (n / 10 < k → n / 10 ≤ 65535 → field_of (digits_in k (n / 10)) ≡ Number (n / 10)) → field_of (digits_in (suc k) n) ≡ Number n
    go true e ih = let s = ltb-true n 10 e in ap field_of (in_small k n s) ∙ first_read n s
    go false e ih =
        let s = ltb-false n 10 e in
        let f : field_of (digits_in k (n / 10)) ≡ Number (n / 10) = ih (omega arith) (omega arith) in
        let w : 10 * (n / 10) + n % 10 ≡ n = omega arith in
        ap field_of (in_large k n s) ∙ field_more (digits_in k (n / 10)) (48 + n % 10)
        ∙ ap (λ (g : Field). next g (48 + n % 10)) f
        ∙ digit_read (n / 10) (n % 10) (omega arith) (omega arith) (omega arith) ∙ ap Number w

pub digits_read : (n : ℕ) → n ≤ 65535 → field_of (digits_of n) ≡ Number n
unfolding digits_of
digits_read n h = in_read (suc n) n (omega arith) h
