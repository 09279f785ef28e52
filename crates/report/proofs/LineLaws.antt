-- A line of fields in a buffer: stored field by field where it fits, and not at all where it does not.
use Prim.Native.Nat.{ℕ, ◌+◌, ◌*◌, ◌^◌, ◌≤◌, ◌<◌}
use native.Mathlib.Nat.{zero-add, mul-le-mul_right}
use native.Mathlib.Numerals.{add-one}
use native.Mathlib.Omega.{arith}
use mathlib.Core.Path.{◌≡◌, sym, ap, ◌∙◌}
use mathlib.Core.List.{List, [], ◌∷◌, ◌++◌, append_assoc}
use lib.ListN.{length, get_or, length-append}
use lib.Seq.{sets, length-sets, sets-eq}
use borrow.Author.Tests.{le-leb, lt-leb}
use Rattle.algebra.specs.Rows.{Row}
use Rattle.dense_block.specs.Words.{words_for, term_of}
use Rattle.report.specs.Report.{digits_of, letter_at, letters, line_from, row_of, row_number, row_line, row_lines, row_in, wrote, written}
use Rattle.report.proofs.Digits.{digits_word}
use Rattle.report.proofs.Stores.{join, length_columns}

-- a field and the byte that ends it
abbrev pub field : List ℕ → ℕ → List ℕ
field f end = f ++ (end ∷ [])

length_field : (f : List ℕ) (end : ℕ) → length (field f end) ≡ length f + 1
length_field f end = length-append f (end ∷ [])

two_fields : (a b : List ℕ) → field a 9 ++ field b 10 ≡ line_from (a ∷ b ∷ [])
two_fields a b = append_assoc a (9 ∷ []) (field b 10)

three_fields : (a b c : List ℕ) → (field a 9 ++ field b 9) ++ field c 10 ≡ line_from (a ∷ b ∷ c ∷ [])
three_fields a b c = append_assoc (field a 9) (field b 9) (field c 10) ∙ ap (λ (l : List ℕ). field a 9 ++ l) (two_fields b c) ∙ append_assoc a (9 ∷ []) (line_from (b ∷ c ∷ []))

pub length_two : (a b : List ℕ) → length (line_from (a ∷ b ∷ [])) ≡ length a + length b + 2
length_two a b = ap length (sym (two_fields a b)) ∙ length-append (field a 9) (field b 10) ∙ omega (arith, length_field a 9, length_field b 10)

pub length_three : (a b c : List ℕ) → length (line_from (a ∷ b ∷ c ∷ [])) ≡ length a + length b + length c + 3
length_three a b c =
    ap length (sym (three_fields a b c)) ∙ length-append (field a 9 ++ field b 9) (field c 10)
    ∙ omega (arith, length-append (field a 9) (field b 9), length_field a 9, length_field b 9, length_field c 10)

-- what a line leaves
abbrev pub Leaves : List ℕ → List ℕ → ℕ → List ℕ → Type 0
Leaves line out r e = record { count : r ≡ wrote line out; bytes : e ≡ written line out }

pub too_short : (line out : List ℕ) → length out < length line → Leaves line out 0 out
unfolding wrote written
too_short line out h = record { count = rw (lt-leb (length line) (length out) h); bytes = rw (lt-leb (length line) (length out) h) }

fits : (line out : List ℕ) {r : ℕ} {e : List ℕ} → length line ≤ length out → r ≡ 0 + length line → e ≡ sets out 0 line → Leaves line out r e
unfolding wrote written
fits line out h p q =
    let k : 0 + length line ≤ length out = omega arith in
    record {
      count = p ∙ zero-add (length line) ∙ rw (le-leb (length line) (length out) h);
      bytes = q ∙ sets-eq line out 0 k ∙ rw (zero-add (length line), le-leb (length line) (length out) h);
    }

-- ---- fields one after the other, from a place on

-- a line at a place, and the place after it
abbrev pub Stored : List ℕ → ℕ → List ℕ → ℕ → List ℕ → Type 0
Stored out at line r e = record { place : r ≡ at + length line; bytes : e ≡ sets out at line }

pub at_front : (line out : List ℕ) {r : ℕ} {e : List ℕ} → length line ≤ length out → Stored out 0 line r e → Leaves line out r e
at_front line out h s = fits line out h s.place s.bytes

pub stored_same : {a b : List ℕ} (out : List ℕ) (at r : ℕ) (e : List ℕ) → a ≡ b → Stored out at a r e → Stored out at b r e
stored_same out at r e h s = record { place = s.place ∙ ap (λ (l : List ℕ). at + length l) h; bytes = s.bytes ∙ ap (sets out at) h }

module _ (out : List ℕ) (at : ℕ) (a : List ℕ) {r : ℕ} {d : List ℕ} (p : r ≡ at + length (field a 9)) (q : d ≡ sets out at (field a 9)) where
  -- after one field there is room for a second of k bytes and what ends it
  pub second_fits : (k : ℕ) → at + (length a + k + 2) ≤ length out → r + k < length d
  second_fits k h = omega (arith, p, length_field a 9, ap length q ∙ length-sets out at (field a 9))

  pub two_stored : (b : List ℕ) {s : ℕ} {e : List ℕ} → s ≡ r + length (field b 10) → e ≡ sets d r (field b 10) → Stored out at (line_from (a ∷ b ∷ [])) s e
  two_stored b {s} {e} u v = stored_same out at s e (two_fields a b) (join out at (field a 9) (field b 10) p q u v)

  module _ (b : List ℕ) {s : ℕ} {e : List ℕ} (u : s ≡ r + length (field b 9)) (v : e ≡ sets d r (field b 9)) where
    -- after two fields there is room for a third of k bytes and its line feed
    pub third_fits : (k : ℕ) → at + (length a + length b + k + 3) ≤ length out → s + k < length e
    third_fits k h = omega (arith, p, u, length_field a 9, length_field b 9, ap length q ∙ length-sets out at (field a 9), ap length v ∙ length-sets d r (field b 9))

    pub three_stored : (c : List ℕ) {t : ℕ} {f : List ℕ} → t ≡ s + length (field c 10) → f ≡ sets e s (field c 10) → Stored out at (line_from (a ∷ b ∷ c ∷ [])) t f
    three_stored c {t} {f} x y =
        let i = join out at (field a 9) (field b 9) p q u v in
        stored_same out at t f (three_fields a b c) (join out at (field a 9 ++ field b 9) (field c 10) i.place i.bytes x y)

-- ---- the rows

-- the number beside the letters fits a word
pub number_fits : (p : ℕ) (xs zs : List ℕ) → p < 2 ^ 64 → row_number (row_of p xs zs) < 2 ^ 64
unfolding row_number
number_fits p xs zs h = h

-- a row's line has at most q + 64 bytes
pub row_short : (q k p : ℕ) (xs zs : List ℕ) → k < 2 ^ 64 → p < 2 ^ 64 → length (row_line q k (row_of p xs zs)) ≤ q + 64
row_short q k p xs zs h l =
    let r = row_of p xs zs in
    omega (
      arith,
      length_three (digits_of k) (digits_of (row_number r)) (letters q r),
      digits_word k h,
      digits_word (row_number r) (number_fits p xs zs l),
      length_columns (letter_at r) q,
    )

-- one row more, where each takes at most s bytes
pub room_next : (k count s place at n size : ℕ) → k < count → at + count * s ≤ size → place ≤ at + k * s → n ≤ s → (place + n ≤ size) × (place + n ≤ at + (k + 1) * s)
room_next k count s place at n size h l p q =
    let m : (k + 1) * s ≤ count * s = mul-le-mul_right s (omega arith) in
    (omega arith, omega arith)

-- the lines so far and one more
pub rows_next : (out : List ℕ) {d e : List ℕ} {r t : ℕ} (at q : ℕ) (row : ℕ → Row) (k : ℕ) {l : List ℕ} → l ≡ row_line q k (row k)
    → Stored out at (row_lines q row k) r d → Stored d r l t e → Stored out at (row_lines q row (k + 1)) t e
rows_next out {d} {e} {r} {t} at q row k {l} h s u =
    stored_same out at t e (ap (λ (m : List ℕ). row_lines q row k ++ m) h ∙ sym (ap (row_lines q row) (add-one k))) (join out at (row_lines q row k) l s.place s.bytes u.place u.bytes)

-- a row's line from the parts that are lent
pub row_same : (q k w : ℕ) (xs zs ps : List ℕ) {p : ℕ} {ts us : List ℕ} → w ≡ words_for q → p ≡ get_or ps k 0 → ts ≡ term_of w xs k → us ≡ term_of w zs k
    → row_line q k (row_of p ts us) ≡ row_line q k (row_in q xs zs ps k)
row_same q k w xs zs ps e f g h = rw (f, g, h, e)
