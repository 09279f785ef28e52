-- The answer of `multiply`: which test refuses, and what the words written stand for. One outcome for each input. What `meet` makes of parities: the sign of the phase, and
-- whether the rows commute, which is whether the two orders' phases are equal.
use Prim.Native.Nat.{ℕ, zero, suc, ◌+◌, ◌*◌, ◌%◌, ◌<◌}
use native.Mathlib.Omega.{arith}
use mathlib.Core.Path.{◌≡◌, refl, sym, ap, ◌∙◌}
use mathlib.Core.List.{List, [], ◌∷◌, ◌++◌}
use mathlib.Core.Logic.{◌⊎◌, inl, inr}
use mathlib.Core.Bool.{Bool, true, false, not, ◌||◌}
use borrow.Author.Tests.{eq-eqb, ne_eqb}
use lib.Dec.{eqb}
use lib.ListN.{length, take, drop}
use lib.Seq.{length-take-le}
use lib.Bits.{bit_xor}
use Rattle.std.specs.Prelude.{Result, Ok, Err}
use Rattle.refusal.specs.Table.{outside, Lent, ◌of◌}
use Rattle.refusal.proofs.Rooms.{Hold, hold}
use Rattle.refusal.specs.declared.Refusal.{Refusal}
use Rattle.refusal.specs.declared.Refusal.TheVariants.{Size, Short, Value}
use Rattle.refusal.proofs.Outcome.{one_outcome, paper_injective, refused_number}
use Rattle.algebra.specs.Rows.{Row, common, dot, times, clash}
use Rattle.algebra.proofs.Digits.{zero_or_one}
use Rattle.algebra.proofs.Dots.{dot_lt, twice_dot}
use Rattle.algebra.proofs.RowLaws.{clash_dot, clash_lt, orders, anticommute_differ}
use Rattle.dense_block.specs.Words.{value, words_for, words_of, filled, digit, odd}
use Rattle.pauli.specs.declared.Meeting.{Meeting}
use Rattle.pauli.specs.Product.{LentRow, Input, first_words, trimmed, row_of, product, commuting, Meets, bad_row, too_short, refused, Told, product_paper, multiplied, product_x, product_z, Multiplied}

abbrev pub value_test : Input → Bool
value_test i = bad_row i.q (trimmed i.q i.left) || bad_row i.q (trimmed i.q i.right)

-- ---- which test refuses

abbrev lents : Input → List Lent
lents i =
    (words_for i.q of length i.left.xs) ∷ (words_for i.q of length i.left.zs)
    ∷ (words_for i.q of length i.right.xs) ∷ (words_for i.q of length i.right.zs)
    ∷ (words_for i.q of length i.out_xs) ∷ (words_for i.q of length i.out_zs) ∷ []

module _ (i : Input) where
  pub by_columns : outside i.q ≡ true → Multiplied i (Err Size) i.out_xs i.out_zs
  unfolding multiplied product_x product_z refused
  by_columns h = record { answer = rw h; x_part = rw h; z_part = rw h }

  pub by_short : outside i.q ≡ false → too_short i ≡ true → Multiplied i (Err Short) i.out_xs i.out_zs
  unfolding multiplied product_x product_z refused
  by_short h k = record { answer = rw (h, k); x_part = rw (h, k); z_part = rw (h, k) }

  by_value : outside i.q ≡ false → too_short i ≡ false → value_test i ≡ true → Multiplied i (Err Value) i.out_xs i.out_zs
  unfolding multiplied product_x product_z refused
  by_value h k l = record { answer = rw (h, k, l); x_part = rw (h, k, l); z_part = rw (h, k, l) }

  by_none : outside i.q ≡ false → too_short i ≡ false → value_test i ≡ false → (m : Meeting) (xs zs : List ℕ)
      → Meets (trimmed i.q i.left) (trimmed i.q i.right) m
      → xs ≡ filled (words_for i.q) (product i).x i.out_xs → zs ≡ filled (words_for i.q) (product i).z i.out_zs
      → Multiplied i (Ok m) xs zs
  unfolding multiplied product_x product_z refused
  by_none h k l m xs zs met x z = record { answer = rw (h, k, l, met.phase, met.commute); x_part = rw (h, k, l) x; z_part = rw (h, k, l) z }

  -- the slices are long enough
  lengths_pass : too_short i ≡ false → Hold (lents i)
  unfolding too_short
  lengths_pass h = hold (lents i) h

  -- the rows that the code has cut to the columns' words
  module _ (w : ℕ) (s : w ≡ words_for i.q) (a b : LentRow) (e : a ≡ first_words w i.left) (f : b ≡ first_words w i.right) where
    pub by_row : outside i.q ≡ false → too_short i ≡ false → (bad_row i.q a || bad_row i.q b) ≡ true → Multiplied i (Err Value) i.out_xs i.out_zs
    by_row h k l = by_value h k (rw (e, f, s) at l)

    pub by_words : outside i.q ≡ false → too_short i ≡ false → bad_row i.q a ≡ false → bad_row i.q b ≡ false
        → (m : Meeting) (xs zs : List ℕ) → Meets a b m
        → xs ≡ words_of (length (take w i.out_xs)) (bit_xor (value a.xs) (value b.xs))
        → zs ≡ words_of (length (take w i.out_zs)) (bit_xor (value a.zs) (value b.zs))
        → Multiplied i (Ok m) (xs ++ drop w i.out_xs) (zs ++ drop w i.out_zs)
    by_words h k l n m xs zs met x z =
        let held = lengths_pass k in
        let good : (bad_row i.q a || bad_row i.q b) ≡ false = rw (l, n) in
        by_none h k (rw (e, f, s) at good) m _ _ (rw (e, f, s) at met)
        (rw (x, e, f, s, length-take-le _ _ held.1.1.1.1.0))
        (rw (z, e, f, s, length-take-le _ _ held.1.1.1.1.1.0))

-- ---- signs and parities

pub digit_dot : (d : ℕ) → d < 2 → digit (eqb d 1) ≡ d
digit_dot zero h = refl
digit_dot (suc zero) h = refl
digit_dot (suc (suc d)) h = absurd (omega arith)

-- the sign of a product, by the parity that the code takes
sign_of : (p : ℕ) (zs xs : List ℕ) → (p + 2 * digit (odd zs xs)) % 4 ≡ (p + 2 * common (value zs) (value xs)) % 4
unfolding odd
sign_of p zs xs = rw (digit_dot (dot (value zs) (value xs)) (dot_lt _ _)) (sym (twice_dot p (value zs) (value xs)))

-- the phase of a product, by the code's two steps: `add` and `double_parity`
pub met_phase : (l r : ℕ) (zs xs : List ℕ) {f g : ℕ} {b : Bool} → f ≡ (l + r) % 4 → g ≡ (f + 2 * digit b) % 4 → b ≡ odd zs xs
    → g ≡ (l + r + 2 * common (value zs) (value xs)) % 4
met_phase l r zs xs e h k = omega (arith, e, h, ap digit k, sign_of (l + r) zs xs)

-- a parity that is not odd is even
even : (a : ℕ) → a < 2 → not (eqb a 1) ≡ eqb a 0
even zero h = refl
even (suc zero) h = refl
even (suc (suc a)) h = absurd (omega arith)

-- whether two rows commute, by the one parity that the code takes
pub commute_by : (a b : LentRow) (u : ℕ) → u ≡ (dot (value a.xs) (value b.zs) + dot (value a.zs) (value b.xs)) % 2 → not (eqb u 1) ≡ commuting (row_of a) (row_of b)
commute_by a b u e = even u (omega arith) ∙ ap (λ (k : ℕ). eqb k 0) (e ∙ sym (clash_dot (row_of a) (row_of b)))

-- it equals comparing the two orders' phases
pub commute_orders : (r s : Row) → commuting r s ≡ eqb (times r s).p (times s r).p
commute_orders r s = go (zero_or_one (clash r s) (clash_lt r s))
  where
    same : (a b c : ℕ) → b < 4 → a ≡ (b + 2 * c) % 4 → c ≡ 0 → a ≡ b
    same a b c h e k = omega arith

    go : (clash r s ≡ 0) ⊎ (clash r s ≡ 1) → commuting r s ≡ eqb (times r s).p (times s r).p
    go (inl e) = eq-eqb (clash r s) 0 e ∙ sym (eq-eqb _ _ (same (times r s).p (times s r).p (clash r s) (omega arith) (orders r s) e))
    go (inr e) = ne_eqb (clash r s) 0 (omega arith) ∙ sym (ne_eqb _ _ ((anticommute_differ r s).0 e))

-- ---- one outcome

pub meet_outcome : (l r : LentRow) (a b : Meeting) → Meets l r a → Meets l r b → a ≡ b
meet_outcome l r a b m n =
    let p : a.phase.power ≡ b.phase.power = one_outcome m.phase n.phase in
    let k : a.commute ≡ b.commute = one_outcome m.commute n.commute in
    λ j. record { phase = record { power = p j }; commute = k j }

pub product_injective : (r s : Result Meeting Refusal) → product_paper r ≡ product_paper s → r ≡ s
product_injective (Ok m) (Ok n) e =
    let p : m.phase.power ≡ n.phase.power = ap (λ (t : Told). t.phase) e in
    let k : m.commute ≡ n.commute = ap (λ (t : Told). t.commute) e in
    λ j. Ok (record { phase = record { power = p j }; commute = k j })
product_injective (Ok m) (Err s) e = absurd (refused_number s (sym (ap (λ (t : Told). t.told.number) e)))
product_injective (Err r) (Ok n) e = absurd (refused_number r (ap (λ (t : Told). t.told.number) e))
product_injective (Err r) (Err s) e = ap Err (paper_injective (ap (λ (t : Told). t.told) e))

pub multiply_outcome : (i : Input) (r s : Result Meeting Refusal) (xs xs' zs zs' : List ℕ) → Multiplied i r xs zs → Multiplied i s xs' zs' → (r ≡ s) × ((xs ≡ xs') × (zs ≡ zs'))
multiply_outcome i r s xs xs' zs zs' m n =
    (product_injective r s (one_outcome m.answer n.answer), (one_outcome m.x_part n.x_part, one_outcome m.z_part n.z_part))
