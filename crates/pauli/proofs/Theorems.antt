-- What `multiply` leaves stands for the product: the first words of its parts, with the phase in the answer, are the product's row, of which no bit is cut off, and
-- they have no stray bit. Rows that pass 17 are rows on q columns, the product of two such rows is one, and q columns fit their words. Done in both orders, it says the
-- same of whether the rows commute, and that equals comparing the two phases, which else differ by 2.
use Prim.Native.Nat.{ℕ, zero, suc, ◌+◌, ◌*◌, ◌%◌, ◌<◌}
use native.Mathlib.Omega.{arith}
use mathlib.Core.Path.{◌≡◌, refl, sym, ap, ap₂, ◌∙◌}
use mathlib.Core.List.{List, [], ◌∷◌}
use mathlib.Core.Bool.{Bool, true, false, not, ◌||◌}
use borrow.Author.Tests.{ltb-false, le-ltb}
use lib.Dec.{eqb, ltb}
use lib.ListN.{take}
use Rattle.std.specs.Prelude.{Ok}
use Rattle.refusal.specs.Numbers.{Paper, bare}
use Rattle.refusal.specs.Table.{◌gives◌, first_of, outside, on_done}
use Rattle.refusal.proofs.Bools.{or_left, or_right}
use Rattle.algebra.specs.Rows.{Row, OnColumns, clash}
use Rattle.algebra.proofs.RowLaws.{times_on, clash_lt, clash_comm, orders}
use Rattle.dense_block.specs.Words.{value, words_for, filled, digit, strays}
use Rattle.dense_block.proofs.Values.{written_back}
use Rattle.dense_block.proofs.Strays.{below_of, no_strays}
use Rattle.pauli.specs.declared.Meeting.{Meeting}
use Rattle.pauli.specs.Product.{LentRow, Input, given, trimmed, row_of, left_row, right_row, product, commuting, bad_row, too_short, refused, Told, multiplied, product_x, product_z, Multiplied, Whole}
use Rattle.pauli.proofs.Products.{value_test, commute_orders}

-- ---- rows and words

-- a row that passes 17 is a row on q columns
pub good_on : (q : ℕ) (l : LentRow) → bad_row q l ≡ false → OnColumns q (row_of l)
unfolding bad_row
good_on q l h =
    let parts = or_right (ltb 3 l.p) (strays l.xs q || strays l.zs q) h in
    record {
      phase_small = omega (arith, ltb-false 3 l.p (or_left (ltb 3 l.p) (strays l.xs q || strays l.zs q) h));
      x_low = below_of l.xs q (or_left (strays l.xs q) (strays l.zs q) parts);
      z_low = below_of l.zs q (or_right (strays l.xs q) (strays l.zs q) parts);
    }

-- and the other way round
pub on_good : (q : ℕ) (l : LentRow) → OnColumns q (row_of l) → bad_row q l ≡ false
unfolding bad_row
on_good q l h = rw (le-ltb 3 l.p (omega (arith, h.phase_small)), no_strays l.xs q h.x_low, no_strays l.zs q h.z_low)

-- a row on q columns that is written to the first words of two slices
pub written_whole : (q : ℕ) (r : Row) (p : ℕ) (xs zs oxs ozs : List ℕ) → OnColumns q r → p ≡ r.p
    → xs ≡ filled (words_for q) r.x oxs → zs ≡ filled (words_for q) r.z ozs → Whole q r (record { p = p; xs = xs; zs = zs })
written_whole q r p xs zs oxs ozs on e f g = record { on_columns = on; stands = same; good = on_good q (trimmed q (record { p = p; xs = xs; zs = zs })) (rw same on) }
  where
    x : value (take (words_for q) xs) ≡ r.x
    x = ap (λ (ws : List ℕ). value (take (words_for q) ws)) f ∙ written_back q r.x oxs on.x_low

    z : value (take (words_for q) zs) ≡ r.z
    z = ap (λ (ws : List ℕ). value (take (words_for q) ws)) g ∙ written_back q r.z ozs on.z_low

    same : row_of (trimmed q (record { p = p; xs = xs; zs = zs })) ≡ r
    same = λ i. record { p = e i; x = x i; z = z i }

-- ---- the call

module _ (i : Input) (a : Meeting) (xs zs : List ℕ) (m : Multiplied i (Ok a) xs zs) where
  none_refused : refused i ≡ bare 0
  unfolding multiplied
  none_refused = sym (ap (λ (t : Told). t.told) m.answer)

  rows_good : value_test i ≡ false
  unfolding refused
  rows_good = go (outside i.q) (too_short i) (value_test i) (ap (λ (p : Paper). p.number) none_refused)
    where
      go : (a b c : Bool) → (first_of ((a gives 1) ∷ (b gives 2) ∷ (c gives 17) ∷ [])).number ≡ 0 → c ≡ false
      go true b c h = absurd (omega arith)
      go false true c h = absurd (omega arith)
      go false false true h = absurd (omega arith)
      go false false false h = refl

  product_on : OnColumns i.q (product i)
  product_on =
      let l = trimmed i.q i.left in
      let r = trimmed i.q i.right in
      times_on i.q (row_of l) (row_of r) (good_on i.q l (or_left (bad_row i.q l) (bad_row i.q r) rows_good)) (good_on i.q r (or_right (bad_row i.q l) (bad_row i.q r) rows_good))

  -- the phase, and whether the rows commute
  said : (a.phase.power ≡ (product i).p) × (a.commute ≡ commuting (left_row i) (right_row i))
  unfolding multiplied
  said = (
    ap (λ (t : Told). t.phase) m.answer ∙ ap (λ (p : Paper). on_done p (product i).p 0) none_refused,
    ap (λ (t : Told). t.commute) m.answer ∙ ap (λ (p : Paper). on_done p (commuting (left_row i) (right_row i)) false) none_refused,
  )

  pub multiply_whole : Whole i.q (product i) (record { p = a.phase.power; xs = xs; zs = zs })
  unfolding product_x product_z
  multiply_whole =
      let done = none_refused in
      written_whole i.q (product i) a.phase.power xs zs i.out_xs i.out_zs product_on
      said.0
      (m.x_part ∙ ap (λ (p : Paper). on_done p (filled (words_for i.q) (product i).x i.out_xs) i.out_xs) done)
      (m.z_part ∙ ap (λ (p : Paper). on_done p (filled (words_for i.q) (product i).z i.out_zs) i.out_zs) done)

-- ---- the call in both orders

-- a clash, from whether two rows commute
clash_from : (k : ℕ) → k < 2 → digit (not (eqb k 0)) ≡ k
clash_from zero h = refl
clash_from (suc zero) h = refl
clash_from (suc (suc k)) h = absurd (omega arith)

-- both answers say the same of whether the rows commute: it equals comparing the two phases, which else differ by 2
pub multiply_orders : (q : ℕ) (l r : LentRow) (oxs ozs oxs' ozs' : List ℕ) (f g : Meeting) (xs zs xs' zs' : List ℕ)
    → Multiplied (given q l r oxs ozs) (Ok f) xs zs
    → Multiplied (given q r l oxs' ozs') (Ok g) xs' zs'
    → (f.commute ≡ g.commute) × (f.commute ≡ eqb f.phase.power g.phase.power) × (f.phase.power ≡ (g.phase.power + 2 * digit (not f.commute)) % 4)
multiply_orders q l r oxs ozs oxs' ozs' f g xs zs xs' zs' m n =
    let a = row_of (trimmed q l) in
    let b = row_of (trimmed q r) in
    let there = said (given q l r oxs ozs) f xs zs m in
    let back = said (given q r l oxs' ozs') g xs' zs' n in (
      there.1 ∙ ap (λ (k : ℕ). eqb k 0) (clash_comm a b) ∙ sym back.1,
      there.1 ∙ commute_orders a b ∙ ap₂ eqb (sym there.0) (sym back.0),
      omega (arith, there.0, back.0, orders a b, ap (λ (t : Bool). digit (not t)) there.1 ∙ clash_from (clash a b) (clash_lt a b)),
    )
