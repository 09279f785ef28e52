-- The product of rows of a set: multiplied from the left, row by row, it is the product of the definition; and a row multiplied on words is the algebra's product.
use Prim.Native.Nat.{ℕ, suc, ◌+◌, ◌≤◌, ◌<◌}
use native.Mathlib.Numerals.{add-one}
use native.Mathlib.Omega.{arith}
use mathlib.Core.Path.{◌≡◌, sym, ap, ap₂, ◌∙◌}
use mathlib.Core.List.{List, [], ◌∷◌}
use mathlib.Core.Bool.{Bool, true, false}
use borrow.Author.Tests.{le-leb, lt-leb, leb-false}
use lib.Dec.{leb}
use lib.Bits.{bit_xor}
use lib.ListN.{length, get_or, drop, drop_of_length-le}
use lib.Seq.{drop-cons}
use Rattle.std.proofs.Common.{MatchBool}
use Rattle.std.specs.List.{HoldsAt, AllWithin}
use Rattle.refusal.proofs.Searches.{some_of, none_of, none_at}
use Rattle.algebra.specs.Rows.{Row, times, identity}
use Rattle.algebra.specs.Modes.{Modes}
use Rattle.algebra.proofs.RowLaws.{times_assoc, identity_times, times_identity}
use Rattle.dense_block.specs.Words.{value}
use Rattle.products.specs.Products.{product_of, some_high}
use Rattle.products.specs.Private.{row_of}
use Rattle.pauli.specs.declared.Meeting.{Meeting}
use Rattle.pauli.specs.Product.{LentRow, Meets, row_of as lent_row}

-- ---- row numbers that are not too high

-- what std says of `any` over the numbers
pub high_by : (rows : ℕ) (ks : List ℕ) (r : Bool)
    → MatchBool r ((k : ℕ) × (k < length ks) × HoldsAt (λ j. rows ≤ j) ks k) (AllWithin (λ j. j < rows) ks 0 (length ks)) → r ≡ some_high rows ks
unfolding some_high
high_by rows ks true h = sym (some_of (length ks) (λ i. leb rows (get_or ks i 0)) h.0 h.1 (le-leb _ _ (h.2 0)))
high_by rows ks false h = sym (none_of (length ks) (λ i. leb rows (get_or ks i 0)) (λ k low. lt-leb _ _ (h k 0 (omega arith) low)))

pub number_low : (rows : ℕ) (ks : List ℕ) → some_high rows ks ≡ false → (i : ℕ) → i < length ks → get_or ks i 0 < rows
unfolding some_high
number_low rows ks h i l = leb-false rows (get_or ks i 0) (none_at (length ks) (λ i. leb rows (get_or ks i 0)) h i l)

-- ---- from the left

module _ (m : Modes) where
  product_small : (ks : List ℕ) → (product_of m ks).p < 4
  unfolding product_of
  product_small [] = omega arith
  product_small (k ∷ ks) = omega arith

  product_start : (ks : List ℕ) → times identity (product_of m ks) ≡ product_of m ks
  product_start ks = identity_times (product_of m ks) (product_small ks)

  -- words that are zero hold the identity
  pub product_from : (us vs ks : List ℕ) → value us ≡ 0 → value vs ≡ 0 → times (row_of 0 us vs) (product_of m ks) ≡ product_of m ks
  product_from us vs ks h k = ap₂ {C = Row} (λ (x z : ℕ). times (record { p = 0; x = x; z = z }) (product_of m ks)) h k ∙ product_start ks

  -- one row more in the product so far
  pub product_step : (r : Row) (ks : List ℕ) (i : ℕ) → i < length ks
      → times (times r (m.row (get_or ks i 0))) (product_of m (drop (i + 1) ks)) ≡ times r (product_of m (drop i ks))
  unfolding product_of
  product_step r ks i h = rw (add-one, drop-cons ks i 0) (times_assoc r (m.row (get_or ks i 0)) (product_of m (drop (suc i) ks)))

  -- no row is left
  pub product_end : (r : Row) (ks : List ℕ) (i : ℕ) → r.p < 4 → length ks ≤ i → times r (product_of m (drop i ks)) ≡ r
  unfolding product_of
  product_end r ks i h k = rw (drop_of_length-le ks k) (times_identity r h)

-- ---- one row, on words

-- two rows that the code has met, and the parts of the one added to those of the other
pub times_met : {l r : LentRow} {row : Row} {m : Meeting} (us vs : List ℕ) → Meets l r m → lent_row r ≡ row
    → value us ≡ bit_xor (value l.xs) (value r.xs) → value vs ≡ bit_xor (value l.zs) (value r.zs) → row_of m.phase.power us vs ≡ times (lent_row l) row
times_met {l} us vs m e x z = (λ i. record { p = m.phase i; x = x i; z = z i }) ∙ ap (λ (row : Row). times (lent_row l) row) e
