-- A refusal's sentence in a buffer, piece by piece.
use Prim.Native.Nat.{ℕ, ◌+◌, ◌≤◌, ◌<◌}
use native.Mathlib.Nat.{zero-add}
use native.Mathlib.Omega.{arith}
use mathlib.Core.Path.{◌≡◌, refl, sym, ap, ◌∙◌}
use mathlib.Core.List.{List, [], ◌∷◌, ◌++◌}
use lib.ListN.{length, length-append}
use lib.Seq.{sets, length-sets, sets-eq}
use borrow.Author.Tests.{leb-true, le-leb, lt-leb}
use Rattle.refusal.specs.declared.Refusal.{Refusal}
use Rattle.refusal.specs.declared.Refusal.TheVariants.{Size, Short, Qubits, Child, SelfChild, SecondParent, SecondEntry, Roots, Leaf, Commuting, Dependent, NoVacuum, Vacuum, Undecodable, Unencodable, Malformed, Value, OddModes}
use Rattle.refusal.specs.Numbers.{paper}
use Rattle.std.specs.Prelude.{Option, Some, None}
use Rattle.report.specs.declared.explain.Spot.{Spot}
use Rattle.report.specs.declared.explain.Spot.TheVariants.{X, Y, Z}
use Rattle.report.specs.declared.locate.Site.{Site}
use Rattle.report.specs.Report.{digits_of}
use Rattle.report.specs.Explain.{opening, at_line, spot_words, phrase, piece, line_mark, spot_mark, place, sentence, explained_length, explained}
use Rattle.report.proofs.Digits.{digits_word}
use Rattle.report.proofs.Stores.{join}
use Rattle.report.proofs.LineLaws.{Stored, stored_same}

-- lengths
pub length_piece : (f : List ℕ) (end : ℕ) → length (piece f end) ≡ length f + 1
length_piece f end = length-append f (end ∷ [])

phrase_short : (why : Refusal) → length (phrase why) ≤ 43
unfolding phrase
phrase_short Size = leb-true _ _ refl
phrase_short Short = leb-true _ _ refl
phrase_short Qubits = leb-true _ _ refl
phrase_short Child = leb-true _ _ refl
phrase_short SelfChild = leb-true _ _ refl
phrase_short SecondParent = leb-true _ _ refl
phrase_short SecondEntry = leb-true _ _ refl
phrase_short Roots = leb-true _ _ refl
phrase_short Leaf = leb-true _ _ refl
phrase_short (Commuting i j) = leb-true _ _ refl
phrase_short Dependent = leb-true _ _ refl
phrase_short NoVacuum = leb-true _ _ refl
phrase_short Vacuum = leb-true _ _ refl
phrase_short Undecodable = leb-true _ _ refl
phrase_short Unencodable = leb-true _ _ refl
phrase_short Malformed = leb-true _ _ refl
phrase_short Value = leb-true _ _ refl
phrase_short OddModes = leb-true _ _ refl

-- ---- pieces

-- the words of a case
pub phrase_stored : (out : List ℕ) (at end : ℕ) {w v : Refusal} {r : ℕ} {e : List ℕ} → w ≡ v → Stored out at (piece (phrase v) end) r e → Stored out at (piece (phrase w) end) r e
phrase_stored out at end {w} {v} {r} {e} h s = stored_same out at r e (ap (λ (v : Refusal). piece (phrase v) end) (sym h)) s

-- one piece after another
pub after_piece : (out : List ℕ) (at : ℕ) (a b : List ℕ) {r s : ℕ} {d e : List ℕ} → Stored out at a r d → Stored d r b s e → Stored out at (a ++ b) s e
after_piece out at a b p q = join out at a b p.place p.bytes q.place q.bytes

-- a piece moves the place by its length, and changes no length of the buffer
pub moved : (out : List ℕ) (at : ℕ) (line : List ℕ) {r : ℕ} {e : List ℕ} → Stored out at line r e → (r ≡ at + length line) × (length e ≡ length out)
moved out at line s = (s.place, ap length s.bytes ∙ length-sets out at line)

spot_short : (spot : Option Spot) → length (spot_words spot) ≤ 8
spot_short None = leb-true _ _ refl
spot_short (Some X) = leb-true _ _ refl
spot_short (Some Y) = leb-true _ _ refl
spot_short (Some Z) = leb-true _ _ refl

-- ---- the place

module _ (out : List ℕ) (at : ℕ) (site : Site) {r : ℕ} {d : List ℕ} (a : Stored out at (piece at_line 32) r d) where
  pub number_fits : site.line < 18446744073709551616 → at + 64 ≤ length out → r + length (digits_of site.line) < length d
  number_fits h l = omega (arith, moved out at (piece at_line 32) a, digits_word site.line h)

  module _ {s m : ℕ} {e : List ℕ} (mark : m ≡ spot_mark site.spot) (b : Stored d r (piece (digits_of site.line) m) s e) where
    pub spot_fits : site.line < 18446744073709551616 → at + 64 ≤ length out → s + 8 < length e
    spot_fits h l = omega (arith, moved out at (piece at_line 32) a, moved d r (piece (digits_of site.line) m) b, length_piece (digits_of site.line) m, digits_word site.line h)

    pub place_stored : {t : ℕ} {f : List ℕ} → Stored e s (piece (spot_words site.spot) 10) t f → Stored out at (place (Some site)) t f
    place_stored {t} {f} c =
        after_piece out at (piece at_line 32) (piece (digits_of site.line) (spot_mark site.spot) ++ piece (spot_words site.spot) 10) a
        (after_piece d r (piece (digits_of site.line) (spot_mark site.spot)) (piece (spot_words site.spot) 10)
        (stored_same d r s e (ap (piece (digits_of site.line)) mark) b) c)

pub place_short : (site : Site) → site.line < 18446744073709551616 → length (place (Some site)) ≤ 40
place_short site h =
    let n = piece (digits_of site.line) (spot_mark site.spot) in
    let p = piece (spot_words site.spot) 10 in
    omega (
      arith,
      length-append (piece at_line 32) (n ++ p),
      length-append n p,
      length_piece (digits_of site.line) (spot_mark site.spot),
      length_piece (spot_words site.spot) 10,
      digits_word site.line h,
      spot_short site.spot,
    )

-- a site that is known
pub place_is : (out : List ℕ) (at : ℕ) {o : Option Site} {site : Site} {r : ℕ} {e : List ℕ} → o ≡ Some site → Stored out at (place (Some site)) r e → length (place (Some site)) ≤ 40
    → record { spot : r ≡ at + length (place o); bytes : e ≡ sets out at (place o); short : length (place o) ≤ 40 }
place_is out at h s l = rw h (record { spot = s.place; bytes = s.bytes; short = l })

-- ---- the sentence

pub not_explained : (why : Refusal) (site : Option Site) (out : List ℕ) → length out < 256
    → record { count : 0 ≡ explained_length why site out; bytes : out ≡ explained why site out }
unfolding explained_length explained
not_explained why site out h = record { count = rw (lt-leb 256 (length out) h); bytes = rw (lt-leb 256 (length out) h) }

module _ (out : List ℕ) (why : Refusal) (site : Option Site) (room : 256 ≤ length out) {r : ℕ} {d : List ℕ} (a : Stored out 0 (piece opening 32) r d) where
  pub code_fits : (n : ℕ) → n < 256 → r + length (digits_of n) < length d
  code_fits n h = omega (arith, moved out 0 (piece opening 32) a, digits_word n (omega arith))

  module _ {n s : ℕ} {e : List ℕ} (small : n < 256) (code : n ≡ (paper why).number) (b : Stored d r (piece (digits_of n) 58) s e) where
    pub phrase_fits : s + 64 ≤ length e
    phrase_fits = omega (arith, moved out 0 (piece opening 32) a, moved d r (piece (digits_of n) 58) b, length_piece (digits_of n) 58, digits_word n (omega arith))

    module _ {m t : ℕ} {f : List ℕ} (mark : m ≡ line_mark site) (c : Stored e s (piece (phrase why) m) t f) where
      pub place_fits : t + 64 ≤ length f
      place_fits =
          omega (
            arith,
            moved out 0 (piece opening 32) a,
            moved d r (piece (digits_of n) 58) b,
            moved e s (piece (phrase why) m) c,
            length_piece (digits_of n) 58,
            length_piece (phrase why) m,
            digits_word n (omega arith),
            phrase_short why,
          )

      pub sentence_stored : {u : ℕ} {g : List ℕ} → Stored f t (place site) u g → length (place site) ≤ 40
          → record { count : u ≡ explained_length why site out; bytes : g ≡ explained why site out }
      unfolding sentence explained_length explained
      sentence_stored {u} {g} h short =
          let p = piece (digits_of (paper why).number) 58 in
          let q = piece (phrase why) (line_mark site) in
          let whole : Stored out 0 (sentence why site) u g =
          after_piece out 0 (piece opening 32) (p ++ (q ++ place site)) a
          (after_piece d r p (q ++ place site) (stored_same d r s e (ap (λ (k : ℕ). piece (digits_of k) 58) code) b)
          (after_piece e s q (place site) (stored_same e s t f (ap (piece (phrase why)) mark) c) h)) in
          let k : 0 + length (sentence why site) ≤ length out =
          omega (arith, whole.place, moved f t (place site) h, place_fits, short, moved e s (piece (phrase why) m) c, moved d r (piece (digits_of n) 58) b, moved out 0 (piece opening 32) a) in
          record {
            count = whole.place ∙ rw (le-leb 256 (length out) room, zero-add (length (sentence why site)));
            bytes = whole.bytes ∙ sets-eq (sentence why site) out 0 k ∙ rw (le-leb 256 (length out) room, zero-add (length (sentence why site)));
          }
