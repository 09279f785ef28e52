-- What a product hands back and leaves: which test refuses, what the words written stand for, and the answer with a coefficient of either kind. One outcome for each input.
use Prim.Native.Nat.{ℕ, ◌*◌, ◌%◌, ◌≤◌}
use native.Mathlib.Omega.{arith}
use mathlib.Core.Path.{◌≡◌, refl, ap, sym, ◌∙◌}
use mathlib.Core.List.{List, [], ◌∷◌, ◌++◌}
use mathlib.Core.Bool.{Bool, true, false, not, ◌||◌}
use lib.Dec.{ltb}
use lib.Ieee.{Float}
use lib.IntN.{pos, ◌-ℤ◌}
use lib.ListN.{length, drop}
use Rattle.std.specs.Prelude.{Result, Ok, Err}
use Rattle.refusal.specs.declared.Refusal.{Refusal}
use Rattle.refusal.specs.declared.Refusal.TheVariants.{Size, Short, Value}
use Rattle.refusal.specs.Numbers.{Paper, bare, paper}
use Rattle.refusal.specs.Table.{◌of◌, ◌gives◌, first_of, on_done}
use Rattle.refusal.proofs.Bools.{or_false}
use Rattle.refusal.proofs.Outcome.{one_outcome, paper_injective, refused_number}
use Rattle.algebra.specs.Rows.{common, Row}
use Rattle.dense_block.specs.Words.{value, filled}
use Rattle.dense_block.proofs.Values.{Words, filled_by}
use Rattle.pauli.specs.declared.Phase.{Phase}
use Rattle.pauli.specs.declared.Coefficient.{Coefficient}
use Rattle.pauli.specs.declared.Marked.{Marked}
use Rattle.pauli.specs.Phases.{letter_power, row_power}
use Rattle.pauli.proofs.Signed.{mod_four_lt}
use Rattle.majorana.specs.Sets.{Set, width, bad_size, many_or_short, many_or_bad}
use Rattle.majorana.proofs.SetLaws.{InSize, in_size, few_words, few_bad, set_too_short, set_long}
use Rattle.products.specs.Phases.{phase_of}
use Rattle.products.specs.Products.{product, product_size, product_short, some_high, product_bad, product_refused, Told, product_paper, Makes, Multiplies, RealMultiplies}

-- words copied to the first ones of a slice
pub copied_to : {us ws : List ℕ} {w v : ℕ} (os : List ℕ) → ws ≡ us → length us ≡ w → Words us → value us ≡ v → ws ++ drop w os ≡ filled w v os
copied_to {us} {ws} {w} {v} os e long fits f = rw (e, sym f) (filled_by us os w long fits)

-- ---- which test refuses

module _ (s : Set) (ks : List ℕ) where
  pub size_of_set : bad_size s.n s.q ≡ true → product_size s ks ≡ true
  unfolding product_size
  size_of_set h = rw h

  pub size_of_product : bad_size s.n s.q ≡ false → (b : Bool) → ltb 512 (length ks) ≡ b → product_size s ks ≡ b
  unfolding product_size
  size_of_product h b k = rw h k

-- by the tests of the code, of w words a part
module _ (s : Set) (size : bad_size s.n s.q ≡ false) (w : ℕ) (e : w ≡ width s) where
  sized : InSize s.n s.q
  sized = in_size s.n s.q size

  narrow : w ≤ 4
  narrow = omega (arith, e, few_words s.q sized.qubits_high)

  modes_few : s.n ≤ 256
  modes_few = sized.modes_high

  rows_too_short : (oxs ozs : List ℕ) → many_or_short s.n w (length s.xs) (length s.zs) (length s.ps) ≡ true → product_short s oxs ozs ≡ true
  unfolding product_short
  rows_too_short oxs ozs h = rw (sym e) (set_too_short s.n w _ _ _ modes_few narrow ((w of length oxs) ∷ (w of length ozs) ∷ []) h)

  parts_short : (oxs ozs : List ℕ) → many_or_short s.n w (length s.xs) (length s.zs) (length s.ps) ≡ false
      → product_short s oxs ozs ≡ (ltb (length oxs) w || ltb (length ozs) w)
  unfolding product_short
  parts_short oxs ozs h =
      rw (sym e) (set_long s.n w _ _ _ modes_few narrow ((w of length oxs) ∷ (w of length ozs) ∷ []) h)
      ∙ ap (λ (b : Bool). ltb (length oxs) w || b) (or_false (ltb (length ozs) w))

  -- whatever the rows, a part that is too short is refused; if none is, they decide
  pub outs_short : (oxs ozs : List ℕ) → (ltb (length oxs) w || ltb (length ozs) w) ≡ true → product_short s oxs ozs ≡ true
  outs_short oxs ozs k = go (many_or_short s.n w (length s.xs) (length s.zs) (length s.ps)) refl
    where
      go : (b : Bool) → many_or_short s.n w (length s.xs) (length s.zs) (length s.ps) ≡ b → product_short s oxs ozs ≡ true
      go true h = rows_too_short oxs ozs h
      go false h = parts_short oxs ozs h ∙ k

  pub outs_long : (oxs ozs : List ℕ) → (ltb (length oxs) w || ltb (length ozs) w) ≡ false
      → product_short s oxs ozs ≡ many_or_short s.n w (length s.xs) (length s.zs) (length s.ps)
  outs_long oxs ozs k = go (many_or_short s.n w (length s.xs) (length s.zs) (length s.ps)) refl
    where
      go : (b : Bool) → many_or_short s.n w (length s.xs) (length s.zs) (length s.ps) ≡ b
          → product_short s oxs ozs ≡ many_or_short s.n w (length s.xs) (length s.zs) (length s.ps)
      go true h = rows_too_short oxs ozs h ∙ sym h
      go false h = parts_short oxs ozs h ∙ k ∙ sym h

  pub same_bad : (ks : List ℕ) (finite : Bool) → product_bad s ks finite ≡ (many_or_bad s.n s.q w s.xs s.zs s.ps || (some_high (2 * s.n) ks || not finite))
  unfolding product_bad
  same_bad ks finite = rw (sym e) (ap (λ (b : Bool). b || (some_high (2 * s.n) ks || not finite)) (sym (few_bad s.n s.q w s.xs s.zs s.ps modes_few)))

-- rows that are done passed both tests
pub both_passed : (b d : Bool) → bare 0 ≡ first_of ((b gives 2) ∷ (d gives 17) ∷ []) → (b ≡ false) × (d ≡ false)
both_passed true d e = absurd (refused_number Short (sym (ap (λ (p : Paper). p.number) e)))
both_passed false true e = absurd (refused_number Value (sym (ap (λ (p : Paper). p.number) e)))
both_passed false false e = (refl, refl)

module _ {A : Type 0} (finite : Bool) (turn : ℕ → A) (none : A) (s : Set) (ks oxs ozs : List ℕ) where
  pub make_size : product_size s ks ≡ true → Makes finite turn none s ks oxs ozs (Err Size) oxs ozs
  unfolding product_refused
  make_size h = record { answer = rw h; x_part = rw h; z_part = rw h }

  pub make_short : product_size s ks ≡ false → product_short s oxs ozs ≡ true → Makes finite turn none s ks oxs ozs (Err Short) oxs ozs
  unfolding product_refused
  make_short h k = record { answer = rw (h, k); x_part = rw (h, k); z_part = rw (h, k) }

  pub make_value : product_size s ks ≡ false → product_short s oxs ozs ≡ false → product_bad s ks finite ≡ true
      → Makes finite turn none s ks oxs ozs (Err Value) oxs ozs
  unfolding product_refused
  make_value h k l = record { answer = rw (h, k, l); x_part = rw (h, k, l); z_part = rw (h, k, l) }

  -- by 2 or by 17 of the rows
  pub make_refused : (why : Refusal) (b d : Bool) → product_size s ks ≡ false → product_short s oxs ozs ≡ b → (d ≡ true → product_bad s ks finite ≡ true)
      → paper why ≡ first_of ((b gives 2) ∷ (d gives 17) ∷ []) → Makes finite turn none s ks oxs ozs (Err why) oxs ozs
  make_refused why true d h k l e = let is : why ≡ Short = paper_injective e in rw is (make_short h k)
  make_refused why false true h k l e = let is : why ≡ Value = paper_injective e in rw is (make_value h k (l refl))
  make_refused why false false h k l e = absurd (refused_number why (ap (λ (p : Paper). p.number) e))

  pub make_done : product_size s ks ≡ false → product_short s oxs ozs ≡ false → product_bad s ks finite ≡ false
      → (made : Phase × A) (xs zs : List ℕ) → made.0.power ≡ (product s ks).p → made.1 ≡ turn (row_power (product s ks))
      → xs ≡ filled (width s) (product s ks).x oxs → zs ≡ filled (width s) (product s ks).z ozs
      → Makes finite turn none s ks oxs ozs (Ok made) xs zs
  unfolding product_refused
  make_done h k l made xs zs p t x z = record { answer = rw (h, k, l, p, t); x_part = rw (h, k, l) x; z_part = rw (h, k, l) z }

-- ---- the answer with a coefficient

-- a letter power is below 4
power_small : (r : Row) → row_power r % 4 ≡ row_power r
unfolding letter_power
power_small r = omega (arith, mod_four_lt (pos r.p -ℤ pos (common r.x r.z)))

-- of either kind, from the phase and the letter power of the product
module _ {A : Type 0} (turn : ℕ → A) (none : A) (s : Set) (ks oxs ozs xs zs : List ℕ) (finite : Bool) (f g : Phase) (d : A) where
  turned : Makes finite phase_of (phase_of 0) s ks oxs ozs (Ok (f, g)) xs zs → d ≡ turn (g.power % 4) → Makes finite turn none s ks oxs ozs (Ok (f, d)) xs zs
  turned made t = record { answer = λ i. record { told = done i; phase = p i; coefficient = c i }; x_part = made.x_part; z_part = made.z_part }
    where
      row : Row
      row = product s ks

      refused : Paper
      refused = product_refused s ks finite oxs ozs

      done : bare 0 ≡ refused
      done = ap (λ (t : Told Phase). t.told) made.answer

      p : f.power ≡ on_done refused row.p 0
      p = ap (λ (t : Told Phase). t.phase) made.answer

      letters : g ≡ phase_of (row_power row)
      letters = ap (λ (t : Told Phase). t.coefficient) made.answer ∙ ap (λ (q : Paper). on_done q (phase_of (row_power row)) (phase_of 0)) (sym done)

      c : d ≡ on_done refused (turn (row_power row)) none
      c = t ∙ ap (λ (h : Phase). turn (h.power % 4)) letters ∙ ap turn (power_small row) ∙ ap (λ (q : Paper). on_done q (turn (row_power row)) none) done

  pub makes_turned : {was : Bool} {r : Result (Phase × Phase) Refusal} → Makes was phase_of (phase_of 0) s ks oxs ozs r xs zs
      → was ≡ finite → r ≡ Ok (f, g) → d ≡ turn (g.power % 4) → Makes finite turn none s ks oxs ozs (Ok (f, d)) xs zs
  makes_turned made e k t = turned (rw (e, k) at made) t

-- ---- one outcome

module _ {A : Type 0} (none : A) where
  paper_one : (r t : Result (Phase × A) Refusal) → product_paper none r ≡ product_paper none t → r ≡ t
  paper_one (Ok m) (Ok n) e =
      let p : m.0.power ≡ n.0.power = ap (λ (t : Told A). t.phase) e in
      let k : m.1 ≡ n.1 = ap (λ (t : Told A). t.coefficient) e in
      λ j. Ok (record { power = p j }, k j)
  paper_one (Ok m) (Err t) e = absurd (refused_number t (sym (ap (λ (t : Told A). t.told.number) e)))
  paper_one (Err r) (Ok n) e = absurd (refused_number r (ap (λ (t : Told A). t.told.number) e))
  paper_one (Err r) (Err t) e = ap Err (paper_injective (ap (λ (t : Told A). t.told) e))

  makes_one : {finite : Bool} {turn : ℕ → A} {s : Set} {ks oxs ozs : List ℕ} (r t : Result (Phase × A) Refusal) {xs xs' zs zs' : List ℕ}
      → Makes finite turn none s ks oxs ozs r xs zs → Makes finite turn none s ks oxs ozs t xs' zs' → (r ≡ t) × (xs ≡ xs') × (zs ≡ zs')
  makes_one r t a b = (paper_one r t (one_outcome a.answer b.answer), one_outcome a.x_part b.x_part, one_outcome a.z_part b.z_part)

module _ (s : Set) (ks oxs ozs : List ℕ) (xs xs' zs zs' : List ℕ) where
  pub product_outcome : (c : Coefficient) (r t : Result (Phase × Coefficient) Refusal)
      → Multiplies s ks c oxs ozs r xs zs → Multiplies s ks c oxs ozs t xs' zs' → (r ≡ t) × (xs ≡ xs') × (zs ≡ zs')
  product_outcome c r t a b = makes_one _ r t a b

  pub real_outcome : (c : Float) (r t : Result (Phase × Marked) Refusal)
      → RealMultiplies s ks c oxs ozs r xs zs → RealMultiplies s ks c oxs ozs t xs' zs' → (r ≡ t) × (xs ≡ xs') × (zs ≡ zs')
  real_outcome c r t a b = makes_one _ r t a b
