-- The product of rows of a set, given by their numbers, and what the two calls answer and leave.
use Rattle.std.specs.Prelude.{ℕ, ◌*◌, ◌≡◌, List, [], ◌∷◌, Bool, not, ◌&&◌, ◌||◌, ltb, leb, Float, length, get_or, Result, Ok, Err}
use Rattle.refusal.specs.Numbers.{Paper, bare, paper}
use Rattle.refusal.specs.declared.Refusal.{Refusal}
use Rattle.refusal.specs.Table.{◌gives◌, first_of, ◌of◌, short, on_done}
use Rattle.refusal.specs.Search.{some_below}
use Rattle.algebra.specs.Rows.{Row, times, identity}
use Rattle.algebra.specs.Modes.{Modes}
use Rattle.dense_block.specs.Words.{filled}
use Rattle.pauli.specs.declared.Phase.{Phase}
use Rattle.pauli.specs.declared.Coefficient.{Coefficient}
use Rattle.pauli.specs.declared.Marked.{Marked}
use Rattle.pauli.specs.declared.Marked.TheVariants.{Real}
use Rattle.pauli.specs.Phases.{row_power}
use Rattle.pauli.specs.Coefficients.{turned, marked, zero_float, stands, is_finite, SameNumber}
use Rattle.majorana.specs.Sets.{Set, width, modes, bad_size, set_lent, bad_set}

-- the rows of these numbers multiplied in the order in which they stand; an empty product is the identity, phase 0
unfoldable pub product_of : Modes → List ℕ → Row
product_of m [] = identity
product_of m (k ∷ ks) = times (m.row k) (product_of m ks)

abbrev pub product : Set → List ℕ → Row
product s ks = product_of (modes s) ks

-- ---- refusals

-- 1: modes 0 or above 256, qubits 0 or above 256, a product of more than 512 rows
unfoldable pub product_size : Set → List ℕ → Bool
product_size s ks = bad_size s.n s.q || ltb 512 (length ks)

-- 2: the row set, and w words for each part of the product
unfoldable pub product_short : Set → List ℕ → List ℕ → Bool
product_short s oxs ozs =
    short (set_lent s.n (width s) (length s.xs) (length s.zs) (length s.ps) ((width s of length oxs) ∷ (width s of length ozs) ∷ []))

-- a row number at or above `rows`
unfoldable pub some_high : ℕ → List ℕ → Bool
some_high rows ks = some_below (length ks) (λ i. leb rows (get_or ks i 0))

-- 17: the row set, a row number at or above 2n, a coefficient part not finite
unfoldable pub product_bad : Set → List ℕ → Bool → Bool
product_bad s ks finite = bad_set s || (some_high (2 * s.n) ks || not finite)

-- the order of the refusals; `finite`: the coefficient's parts are
unfoldable pub product_refused : Set → List ℕ → Bool → List ℕ → List ℕ → Paper
product_refused s ks finite oxs ozs =
    first_of (
    (product_size s ks gives 1)
    ∷ (product_short s oxs ozs gives 2)
    ∷ (product_bad s ks finite gives 17)
    ∷ [])

-- what a part of the product is at exit: the number v in its first w words, if the call is done
abbrev pub part_left : Paper → Set → ℕ → List ℕ → List ℕ
part_left p s v os = on_done p (filled (width s) v os) os

-- ---- with a coefficient of either kind, which comes back as an A

-- an answer in numbers: its number and pair, the phase of the product, and the coefficient; 0 and `none` unless it is done
pub record Told (A : Type 0) : Type 0 where
  pub told : Paper
  pub phase : ℕ
  pub coefficient : A

abbrev pub product_paper : {A : Type 0} → A → Result (Phase × A) Refusal → Told A
product_paper none (Ok made) = record { told = bare 0; phase = made.0.power; coefficient = made.1 }
product_paper none (Err r) = record { told = paper r; phase = 0; coefficient = none }

-- `finite`: the coefficient's parts are; `turn k`: what i to the power k makes of it. It is turned by the letter power of
-- the product
pub record Makes {A : Type 0} (finite : Bool) (turn : ℕ → A) (none : A) (s : Set) (ks oxs ozs : List ℕ)
    (r : Result (Phase × A) Refusal) (xs zs : List ℕ) : Type 0 where
  pub answer : product_paper none r ≡ record {
    told = product_refused s ks finite oxs ozs;
    phase = on_done (product_refused s ks finite oxs ozs) (product s ks).p 0;
    coefficient = on_done (product_refused s ks finite oxs ozs) (turn (row_power (product s ks))) none;
  }
  pub x_part : xs ≡ part_left (product_refused s ks finite oxs ozs) s (product s ks).x oxs
  pub z_part : zs ≡ part_left (product_refused s ks finite oxs ozs) s (product s ks).z ozs

-- ---- with a complex coefficient

-- (0, 0) unless it is done
abbrev pub zero_coefficient : Coefficient
zero_coefficient = record { re = zero_float; im = zero_float }

abbrev pub multiplied_paper : Result (Phase × Coefficient) Refusal → Told Coefficient
multiplied_paper r = product_paper zero_coefficient r

abbrev pub finite_parts : Coefficient → Bool
finite_parts c = is_finite c.re && is_finite c.im

-- the coefficient is multiplied by i to the letter power of the product
abbrev pub Multiplies : Set → List ℕ → Coefficient → List ℕ → List ℕ
    → Result (Phase × Coefficient) Refusal → List ℕ → List ℕ → Type 0
Multiplies s ks c oxs ozs r xs zs = Makes (finite_parts c) (λ k. turned k c) zero_coefficient s ks oxs ozs r xs zs

-- ---- with a real coefficient, which comes back marked

-- the same, with real 0 unless it is done
abbrev pub real_paper : Result (Phase × Marked) Refusal → Told Marked
real_paper r = product_paper (Real zero_float) r

abbrev pub RealMultiplies : Set → List ℕ → Float → List ℕ → List ℕ
    → Result (Phase × Marked) Refusal → List ℕ → List ℕ → Type 0
RealMultiplies s ks c oxs ozs r xs zs = Makes (is_finite c) (λ k. marked k c) (Real zero_float) s ks oxs ozs r xs zs

-- ---- the two calls on one input

-- a real coefficient x and the complex one (x, 0): the same number and phase, and what is marked stands for what is turned, signs of zero apart
pub record AsComplex (a : Told Marked) (b : Told Coefficient) : Type 0 where
  pub told : a.told ≡ b.told
  pub phase : a.phase ≡ b.phase
  pub coefficient : SameNumber (stands a.coefficient) b.coefficient
