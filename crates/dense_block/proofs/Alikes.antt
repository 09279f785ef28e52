-- `alike` decides whether words are the same, and so whether rows of one length have the same number.
use Rattle.std.proofs.Common.{◌≡◌, ℕ, ◌+◌, ◌<◌, Bool, true, false, ◌&&◌, eqb, List, [], ◌∷◌, length, get_or, drop, sym, refl, ap, ◌∙◌, add-one, arith, drop-cons, eq-eqb, ne_eqb, eqb-true}
use Rattle.dense_block.specs.Words.{value, alike}
use Rattle.dense_block.proofs.Values.{Words, value_same}

pub alike_step : (xs ys : List ℕ) (i : ℕ) → i < length xs → i < length ys
    → alike (drop i xs) (drop i ys) ≡ (eqb (get_or xs i 0) (get_or ys i 0) && alike (drop (i + 1) xs) (drop (i + 1) ys))
alike_step xs ys i h k = rw (add-one, drop-cons xs i 0 h, drop-cons ys i 0 k)

pub alike_eq : (xs ys : List ℕ) → alike xs ys ≡ true → xs ≡ ys
alike_eq [] [] h = refl
alike_eq [] (y ∷ ys) h = cc
alike_eq (x ∷ xs) [] h = cc
alike_eq (x ∷ xs) (y ∷ ys) h = go (eqb x y) refl h (alike_eq xs ys)
  where
    go : (b : Bool) → eqb x y ≡ b → (b && alike xs ys) ≡ true → (alike xs ys ≡ true → xs ≡ ys) → ◌≡◌ {A = List ℕ} (x ∷ xs) (y ∷ ys)
    go true e k ih = let p = eqb-true x y e in let q = ih k in cc
    go false e k ih = cc

pub alike_refl : (xs : List ℕ) → alike xs xs ≡ true
alike_refl [] = refl
alike_refl (x ∷ xs) = rw (eq-eqb x x refl) (alike_refl xs)

-- the same words, or the same number
pub alike_value : (xs ys : List ℕ) → length xs ≡ length ys → Words xs → Words ys → alike xs ys ≡ eqb (value xs) (value ys)
alike_value xs ys e p q = go (alike xs ys) refl
  where
    go : (b : Bool) → alike xs ys ≡ b → alike xs ys ≡ eqb (value xs) (value ys)
    go true h = h ∙ sym (eq-eqb _ _ (ap value (alike_eq xs ys h)))
    go false h = h ∙ sym (ne_eqb _ _ (λ k.
        let same : xs ≡ ys = value_same xs ys e p q k in
        let yes : alike xs ys ≡ true = rw same (alike_refl ys) in
        let z : ◌≡◌ {A = ℕ} 0 1 = cc in omega arith))
