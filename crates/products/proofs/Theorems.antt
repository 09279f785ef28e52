-- What the two calls of this crate promise.
--
-- Where one of them is done, the words that it left stand for the product of the rows: no bit of it is cut off and none is stray, so that it may be lent again as a row:
-- `product_whole`, `real_whole`. The rows of a set that passes 17 are rows on q columns, a product of such rows is one, by induction on the factors, and q columns fit
-- their words.
--
-- On one input the call with the real coefficient x answers as the one with the complex coefficient (x, 0), and leaves the same words: `real_stands`. Its coefficient is
-- marked, and stands for the complex one, signs of zero apart.
use Prim.Native.Nat.{ℕ, zero, suc, ◌*◌, ◌<◌}
use native.Mathlib.Omega.{arith}
use mathlib.Core.Path.{◌≡◌, refl, sym, ap, ◌∙◌}
use mathlib.Core.List.{List, [], ◌∷◌}
use mathlib.Core.Bool.{Bool, true, false, not, ◌||◌}
use lib.Ieee.{Float}
use lib.ListN.{length, get_or}
use Rattle.std.specs.Prelude.{Result, Ok}
use Rattle.refusal.specs.declared.Refusal.{Refusal}
use Rattle.refusal.specs.Numbers.{Paper, bare}
use Rattle.refusal.specs.Table.{◌gives◌, first_of, if_zero, on_done}
use Rattle.refusal.proofs.Bools.{or_left, or_right, and_true}
use Rattle.algebra.specs.Rows.{OnColumns}
use Rattle.algebra.specs.Modes.{Modes}
use Rattle.algebra.proofs.RowLaws.{identity_on, times_on}
use Rattle.pauli.specs.declared.Phase.{Phase}
use Rattle.pauli.specs.declared.Coefficient.{Coefficient}
use Rattle.pauli.specs.declared.Marked.{Marked}
use Rattle.pauli.specs.declared.Marked.TheVariants.{Real}
use Rattle.pauli.specs.Phases.{row_power}
use Rattle.pauli.specs.Coefficients.{turned, marked, zero_float, stands, is_finite, SameNumber}
use Rattle.pauli.specs.Product.{Whole}
use Rattle.pauli.proofs.Turns.{marked_stands}
use Rattle.pauli.proofs.Theorems.{written_whole}
use Rattle.majorana.specs.Sets.{Set, width, modes, bad_set}
use Rattle.majorana.proofs.SetLaws.{phase_small, x_below, z_below}
use Rattle.products.specs.Products.{product_of, product, product_size, product_short, some_high, product_bad, product_refused, part_left, Told, zero_coefficient, finite_parts, multiplied_paper, Makes, Multiplies, real_paper, RealMultiplies, AsComplex}
use Rattle.products.proofs.ProductLaws.{number_low}

-- ---- a product of rows on q columns

module _ (q rows : ℕ) (m : Modes) (on : (k : ℕ) → k < rows → OnColumns q (m.row k)) where
  product_on : (ks : List ℕ) → ((i : ℕ) → i < length ks → get_or ks i 0 < rows) → OnColumns q (product_of m ks)
  unfolding product_of
  product_on [] low = identity_on q
  product_on (k ∷ ks) low = times_on q (m.row k) (product_of m ks) (on k (low 0 (omega arith))) (product_on ks (λ i h. low (suc i) (omega arith)))

-- a row of a set that passes 17
row_on : (s : Set) → bad_set s ≡ false → (k : ℕ) → k < 2 * s.n → OnColumns s.q ((modes s).row k)
row_on s good k low = record {
  phase_small = phase_small s.n s.q (width s) s.xs s.zs s.ps good k low;
  x_low = x_below s.n s.q (width s) s.xs s.zs s.ps good k low;
  z_low = z_below s.n s.q (width s) s.xs s.zs s.ps good k low;
}

-- ---- what is left where no test refuses, whatever the coefficient

module _ (s : Set) (ks : List ℕ) (finite : Bool) (oxs ozs : List ℕ) (done : product_refused s ks finite oxs ozs ≡ bare 0) where
  not_bad : product_bad s ks finite ≡ false
  unfolding product_refused
  not_bad = go (product_size s ks) (product_short s oxs ozs) (product_bad s ks finite) (ap (λ (p : Paper). p.number) done)
    where
      go : (a b c : Bool) → (first_of ((a gives 1) ∷ (b gives 2) ∷ (c gives 17) ∷ [])).number ≡ 0 → c ≡ false
      go true b c h = absurd (omega arith)
      go false true c h = absurd (omega arith)
      go false false true h = absurd (omega arith)
      go false false false h = refl

  set_product_on : OnColumns s.q (product s ks)
  unfolding product_bad
  set_product_on =
      let high = some_high (2 * s.n) ks in
      let numbers = or_left high (not finite) (or_right (bad_set s) (high || not finite) not_bad) in
      product_on s.q (2 * s.n) (modes s) (row_on s (or_left (bad_set s) (high || not finite) not_bad)) ks (number_low (2 * s.n) ks numbers)

  left_whole : (p : ℕ) (xs zs : List ℕ) → p ≡ on_done (product_refused s ks finite oxs ozs) (product s ks).p 0
      → xs ≡ part_left (product_refused s ks finite oxs ozs) s (product s ks).x oxs → zs ≡ part_left (product_refused s ks finite oxs ozs) s (product s ks).z ozs
      → Whole s.q (product s ks) (record { p = p; xs = xs; zs = zs })
  left_whole p xs zs e x z =
      written_whole s.q (product s ks) p xs zs oxs ozs set_product_on
      (e ∙ ap (λ (t : Paper). on_done t (product s ks).p 0) done)
      (x ∙ ap (λ (t : Paper). part_left t s (product s ks).x oxs) done)
      (z ∙ ap (λ (t : Paper). part_left t s (product s ks).z ozs) done)

-- of either kind of coefficient
makes_whole : {A : Type 0} {finite : Bool} {turn : ℕ → A} {none : A} {s : Set} {ks oxs ozs : List ℕ} {made : Phase × A} {xs zs : List ℕ}
    → Makes finite turn none s ks oxs ozs (Ok made) xs zs → Whole s.q (product s ks) (record { p = made.0.power; xs = xs; zs = zs })
makes_whole {A} h = left_whole _ _ _ _ _ (sym (ap (λ (t : Told A). t.told) h.answer)) _ _ _ (ap (λ (t : Told A). t.phase) h.answer) h.x_part h.z_part

module _ (s : Set) (ks : List ℕ) (oxs ozs : List ℕ) where
  pub product_whole : (c d : Coefficient) (f : Phase) (xs zs : List ℕ) → Multiplies s ks c oxs ozs (Ok (f, d)) xs zs
      → Whole s.q (product s ks) (record { p = f.power; xs = xs; zs = zs })
  product_whole c d f xs zs h = makes_whole h

  pub real_whole : (c : Float) (d : Marked) (f : Phase) (xs zs : List ℕ) → RealMultiplies s ks c oxs ozs (Ok (f, d)) xs zs
      → Whole s.q (product s ks) (record { p = f.power; xs = xs; zs = zs })
  real_whole c d f xs zs h = makes_whole h

  -- ---- a real coefficient as a complex one

  module _ (x : Float) where
    abbrev complex_refused : Paper
    complex_refused = product_refused s ks (finite_parts (stands (Real x))) oxs ozs

    -- (x, 0) is finite exactly if x is
    same_refusal : product_refused s ks (is_finite x) oxs ozs ≡ complex_refused
    same_refusal = ap (λ (finite : Bool). product_refused s ks finite oxs ozs) (sym (and_true (is_finite x)))

    -- turned by one power, or both zero
    same_coefficient : (k : ℕ) (p : Paper) → SameNumber (stands (on_done p (marked k x) (Real zero_float))) (on_done p (turned k (stands (Real x))) zero_coefficient)
    same_coefficient k p = go p.number
      where
        go : (n : ℕ) → SameNumber (stands (if_zero n (marked k x) (Real zero_float))) (if_zero n (turned k (stands (Real x))) zero_coefficient)
        go zero = marked_stands k x
        go (suc n) = record { re = refl; im = refl }

    pub real_stands : (r : Result (Phase × Marked) Refusal) (t : Result (Phase × Coefficient) Refusal) (xs zs xs' zs' : List ℕ)
        → RealMultiplies s ks x oxs ozs r xs zs → Multiplies s ks (stands (Real x)) oxs ozs t xs' zs'
        → AsComplex (real_paper r) (multiplied_paper t) × (xs ≡ xs') × (zs ≡ zs')
    real_stands r t xs zs xs' zs' a b =
        let e = same_refusal in
        let c = same_coefficient (row_power (product s ks)) complex_refused in (
          record {
            told = ap (λ (u : Told Marked). u.told) a.answer ∙ e ∙ sym (ap (λ (u : Told Coefficient). u.told) b.answer);
            phase = ap (λ (u : Told Marked). u.phase) a.answer ∙ ap (λ (p : Paper). on_done p (product s ks).p 0) e ∙ sym (ap (λ (u : Told Coefficient). u.phase) b.answer);
            coefficient = rw (ap (λ (u : Told Marked). u.coefficient) a.answer, ap (λ (u : Told Coefficient). u.coefficient) b.answer, e) c;
          },
          a.x_part ∙ ap (λ (p : Paper). part_left p s (product s ks).x oxs) e ∙ sym b.x_part,
          a.z_part ∙ ap (λ (p : Paper). part_left p s (product s ks).z ozs) e ∙ sym b.z_part,
        )
