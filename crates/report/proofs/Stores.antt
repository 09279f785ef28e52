-- Bytes stored in a buffer one after the other: runs of stores joined, and a whole line at the front. By induction on the bytes.
use Prim.Native.Nat.{ℕ, zero, suc, ◌+◌, ◌<◌}
use native.Mathlib.Nat.{add-zero, add-suc, suc-add}
use native.Mathlib.Numerals.{add-one}
use native.Mathlib.Omega.{arith}
use mathlib.Core.Path.{◌≡◌, refl, sym, ap, ◌∙◌}
use mathlib.Core.List.{List, [], ◌∷◌, ◌++◌}
use lib.ListN.{length, get_or, set, take, length-append}
use lib.Seq.{length-take-le, take-suc, sets}
use Rattle.report.specs.Report.{columns}

-- a run and one more after it
pub sets_more : (d : List ℕ) (i : ℕ) (a b : List ℕ) → sets (sets d i a) (i + length a) b ≡ sets d i (a ++ b)
sets_more d i [] b = rw add-zero
sets_more d i (v ∷ a) b = rw (add-suc i (length a), ← (suc-add i (length a))) (sets_more (set d i v) (suc i) a b)

-- a run at a place that follows one
pub join : (d : List ℕ) {e f : List ℕ} {j k : ℕ} (i : ℕ) (a b : List ℕ)
    → j ≡ i + length a → e ≡ sets d i a → k ≡ j + length b → f ≡ sets e j b
    → record { place : k ≡ i + length (a ++ b); bytes : f ≡ sets d i (a ++ b) }
join d {e} {f} {j} {k} i a b p q r s = record {
  place = r ∙ ap (λ (n : ℕ). n + length b) p ∙ omega (arith, length-append a b);
  bytes = s ∙ ap (λ (l : List ℕ). sets l j b) q ∙ ap (λ (n : ℕ). sets (sets d i a) n b) p ∙ sets_more d i a b;
}

-- ---- loops

one_more : (d : List ℕ) (at i : ℕ) (w : List ℕ) (v : ℕ) → length w ≡ i → set (sets d at w) (at + i) v ≡ sets d at (w ++ (v ∷ []))
one_more d at i w v h = ap (λ (k : ℕ). set (sets d at w) (at + k) v) (sym h) ∙ sets_more d at w (v ∷ [])

-- a word, byte by byte
pub word_next : (d : List ℕ) {e : List ℕ} (at i : ℕ) (w : List ℕ) → i < length w → e ≡ sets d at (take i w) → set e (at + i) (get_or w i 0) ≡ sets d at (take (i + 1) w)
word_next d at i w h p =
    ap (λ (l : List ℕ). set l (at + i) (get_or w i 0)) p
    ∙ one_more d at i (take i w) (get_or w i 0) (length-take-le i w (omega arith))
    ∙ ap (sets d at) (sym (ap (λ (k : ℕ). take k w) (add-one i) ∙ take-suc w i 0 h))

-- columns, from column 0
pub length_columns : (f : ℕ → ℕ) (j : ℕ) → length (columns f j) ≡ j
length_columns f zero = refl
length_columns f (suc j) = length-append (columns f j) (f j ∷ []) ∙ omega (arith, length_columns f j)

pub columns_next : (d : List ℕ) {e : List ℕ} (at j : ℕ) (f : ℕ → ℕ) {v : ℕ} → e ≡ sets d at (columns f j) → v ≡ f j → set e (at + j) v ≡ sets d at (columns f (j + 1))
columns_next d at j f {v} p q =
    ap (λ (l : List ℕ). set l (at + j) v) p ∙ ap (set (sets d at (columns f j)) (at + j)) q
    ∙ one_more d at j (columns f j) (f j) (length_columns f j)
    ∙ ap (λ (k : ℕ). sets d at (columns f k)) (sym (add-one j))

-- a run that has come to its end, and the byte after it
pub ending : (d : List ℕ) {e : List ℕ} (at i : ℕ) (w : List ℕ) (v : ℕ) → i ≡ length w → e ≡ sets d at w
    → record { place : at + i + 1 ≡ at + length (w ++ (v ∷ [])); bytes : set e (at + i) v ≡ sets d at (w ++ (v ∷ [])) }
ending d at i w v h p = join d at w (v ∷ []) (ap (λ (k : ℕ). at + k) h) p refl refl
