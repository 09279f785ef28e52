-- A row changed along another, word by word: one law for every loop of that kind. The number of a sum is the xor of the numbers.
use Rattle.std.proofs.Common.{◌≡◌, ℕ, zero, suc, ◌+◌, ◌*◌, ◌^◌, ◌<◌, ◌≤◌, min, List, [], ◌∷◌, ◌++◌, length, get_or, take, drop, set, sym, refl, ap, ◌∙◌, ap₂, not-suc-le-zero, add-one, arith, take-append-drop}
use lib.Seq.{drop-nil}
use lib.Bits.{bit_xor, xor_block, xor_lt, xor_zero_r}
use Rattle.dense_block.specs.Words.{value, along, xors, copied}
use Rattle.dense_block.proofs.Values.{Words}

module _ (f : ℕ → ℕ → ℕ) where
  along_nil : (ds : List ℕ) → along f ds [] ≡ ds
  along_nil [] = refl
  along_nil (d ∷ ds) = refl

  pub length_along : (ds ss : List ℕ) → length (along f ds ss) ≡ length ds
  length_along [] ss = refl
  length_along (d ∷ ds) [] = refl
  length_along (d ∷ ds) (s ∷ ss) = ap suc (length_along ds ss)

  along_suc : (ds ss : List ℕ) (i : ℕ) → i < length ds → i < length ss
      → take (suc i) (set ds i (f (get_or ds i 0) (get_or ss i 0))) ++ along f (drop (suc i) (set ds i (f (get_or ds i 0) (get_or ss i 0)))) (drop (suc i) ss)
      ≡ take i ds ++ along f (drop i ds) (drop i ss)
  along_suc [] ss i h k = absurd (not-suc-le-zero h)
  along_suc (d ∷ ds) [] i h k = absurd (not-suc-le-zero k)
  along_suc (d ∷ ds) (s ∷ ss) zero h k = refl
  along_suc (d ∷ ds) (s ∷ ss) (suc i) h k = ap (λ (l : List ℕ). d ∷ l) (along_suc ds ss i (omega arith) (omega arith))

  -- one word more is changed
  pub along_step : (ds ss : List ℕ) (i : ℕ) → i < length ds → i < length ss
      → take (i + 1) (set ds i (f (get_or ds i 0) (get_or ss i 0))) ++ along f (drop (i + 1) (set ds i (f (get_or ds i 0) (get_or ss i 0)))) (drop (i + 1) ss)
      ≡ take i ds ++ along f (drop i ds) (drop i ss)
  along_step ds ss i h k = rw add-one (along_suc ds ss i h k)

  -- past the shorter length nothing is left to change
  pub along_end : (ds ss : List ℕ) (i : ℕ) → min (length ds) (length ss) ≤ i → take i ds ++ along f (drop i ds) (drop i ss) ≡ ds
  along_end [] ss zero h = refl
  along_end [] ss (suc i) h = refl
  along_end (d ∷ ds) [] i h = rw (drop-nil, along_nil) (take-append-drop i (d ∷ ds))
  along_end (d ∷ ds) (s ∷ ss) zero h = absurd (omega arith)
  along_end (d ∷ ds) (s ∷ ss) (suc i) h = ap (λ (l : List ℕ). d ∷ l) (along_end ds ss i (omega arith))

-- ---- sums

pub words_xors : (ds ss : List ℕ) → Words ds → Words ss → Words (xors ds ss)
words_xors [] ss p q i = p i
words_xors (d ∷ ds) [] p q i = p i
words_xors (d ∷ ds) (s ∷ ss) p q zero = xor_lt 64 d s (p 0) (q 0)
words_xors (d ∷ ds) (s ∷ ss) p q (suc i) = words_xors ds ss (λ k. p (suc k)) (λ k. q (suc k)) i

-- a row added to one that is as long or longer
pub value_xors : (ds ss : List ℕ) → length ss ≤ length ds → Words ds → Words ss → value (xors ds ss) ≡ bit_xor (value ds) (value ss)
value_xors [] [] e p q = refl
value_xors [] (s ∷ ss) e p q = absurd (omega arith)
value_xors (d ∷ ds) [] e p q = sym (xor_zero_r (value (d ∷ ds)))
value_xors (d ∷ ds) (s ∷ ss) e p q =
    let ih = value_xors ds ss (omega arith) (λ i. p (suc i)) (λ i. q (suc i)) in
    let b = xor_block 64 (value ds) (value ss) d s (p 0) (q 0) in
    ap (λ (v : ℕ). bit_xor d s + 2 ^ 64 * v) ih
    ∙ swap (bit_xor d s) (bit_xor (value ds) (value ss))
    ∙ sym b
    ∙ ap₂ bit_xor (sym (swap d (value ds))) (sym (swap s (value ss)))
  where
    swap : (w v : ℕ) → w + 2 ^ 64 * v ≡ v * 2 ^ 64 + w
    swap w v = omega arith

-- ---- copies

-- a row as long is copied whole
pub copied_whole : (ds ss : List ℕ) → length ds ≡ length ss → copied ds ss ≡ ss
copied_whole [] [] e = refl
copied_whole [] (s ∷ ss) e = absurd (omega arith)
copied_whole (d ∷ ds) [] e = absurd (omega arith)
copied_whole (d ∷ ds) (s ∷ ss) e = ap (λ (l : List ℕ). s ∷ l) (copied_whole ds ss (omega arith))
