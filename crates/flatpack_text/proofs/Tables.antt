-- The table of entries with one entry more: by induction on the table.
use Prim.Native.Nat.{ℕ, ◌+◌, ◌*◌, ◌≤◌}
use native.Mathlib.Numerals.{add-one, towards_suc}
use native.Mathlib.Omega.{arith}
use mathlib.Core.Path.{◌≡◌, refl, sym, ap, ◌∙◌}
use mathlib.Core.List.{List, [], ◌∷◌, ◌++◌, append-nil, append_assoc}
use mathlib.Core.Bool.{Bool, true, false, cond}
use lib.Dec.{ltb}
use lib.ListN.{length, set, take, length-append}
use lib.Seq.{sets, take_all, take-append-le}
use borrow.Author.Tests.{ltb-true, ltb-false}
use Rattle.dense_block.specs.Words.{copied}
use Rattle.flatpack_text.specs.Text.{Entry}
use Rattle.flatpack_text.specs.Machine.{slot_number, numbers_of}

pub copied_nil : (d : List ℕ) → copied d [] ≡ d
copied_nil [] = refl
copied_nil (a ∷ d) = refl

copied_one : (d s : List ℕ) (v : ℕ) → copied d (s ++ (v ∷ [])) ≡ set (copied d s) (length s) v
copied_one [] s v = refl
copied_one (a ∷ d) [] v = ap (λ (l : List ℕ). v ∷ l) (copied_nil d)
copied_one (a ∷ d) (b ∷ s) v = ap (λ (l : List ℕ). b ∷ l) (copied_one d s v)

copied_more : (d s vs : List ℕ) → copied d (s ++ vs) ≡ sets (copied d s) (length s) vs
copied_more d s [] = rw append-nil
copied_more d s (v ∷ vs) =
    ap (copied d) (sym (append_assoc s (v ∷ []) vs)) ∙ copied_more d (s ++ (v ∷ [])) vs
    ∙ rw (copied_one d s v, length-append s (v ∷ []), add-one (length s))

pub length_numbers : (es : List Entry) → length (numbers_of es) ≡ 4 * length es
length_numbers [] = refl
length_numbers (e ∷ es) = let h = length_numbers es in omega arith

numbers_more : (es : List Entry) (e : Entry) → numbers_of (es ++ (e ∷ [])) ≡ numbers_of es ++ numbers_of (e ∷ [])
numbers_more [] e = refl
numbers_more (f ∷ es) e = ap (λ (l : List ℕ). f.qubit ∷ slot_number f.x ∷ slot_number f.y ∷ slot_number f.z ∷ l) (numbers_more es e)

-- one entry more in the table; past 256 nothing changes
pub table_more : (d : List ℕ) (es : List Entry) (e : Entry)
    → cond (ltb (length es) 256) (sets (copied d (numbers_of (take 256 es))) (4 * length es) (numbers_of (e ∷ []))) (copied d (numbers_of (take 256 es)))
    ≡ copied d (numbers_of (take 256 (es ++ (e ∷ []))))
table_more d es e = go (ltb (length es) 256) refl
  where
    go : (b : Bool) → ltb (length es) 256 ≡ b
        → cond b (sets (copied d (numbers_of (take 256 es))) (4 * length es) (numbers_of (e ∷ []))) (copied d (numbers_of (take 256 es)))
        ≡ copied d (numbers_of (take 256 (es ++ (e ∷ []))))
    go true h =
        let l = ltb-true (length es) 256 h in
        let k : length (es ++ (e ∷ [])) ≤ 256 = omega (arith, length-append es (e ∷ [])) in
        rw (take_all 256 es (omega arith), take_all 256 (es ++ (e ∷ [])) k, numbers_more es e)
        (sym (copied_more d (numbers_of es) (numbers_of (e ∷ [])) ∙ ap (λ (n : ℕ). sets (copied d (numbers_of es)) n (numbers_of (e ∷ []))) (length_numbers es)))
    go false h = rw (take-append-le 256 es (e ∷ []) (ltb-false (length es) 256 h))

-- four stores, one after the other
pub four_stores : (d : List ℕ) {d1 d2 d3 d4 : List ℕ} (a q x y z : ℕ) → d1 ≡ set d a q → d2 ≡ set d1 (a + 1) x → d3 ≡ set d2 (a + 2) y → d4 ≡ set d3 (a + 3) z → d4 ≡ sets d a (q ∷ x ∷ y ∷ z ∷ [])
four_stores d a q x y z p1 p2 p3 p4 =
    p4 ∙ ap (λ (l : List ℕ). set l (a + 3) z) (p3 ∙ ap (λ (l : List ℕ). set l (a + 2) y) (p2 ∙ ap (λ (l : List ℕ). set l (a + 1) x) p1)) ∙ simp towards_suc
