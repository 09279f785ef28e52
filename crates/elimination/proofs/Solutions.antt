-- Solutions of equations e i · v = b i. Two that are zero in every dependent column are equal: the highest column in which they differ would be dependent. The least
-- solution is one: with a dependent column set, the xor of the columns before it would make a smaller one.
use Prim.Native.Nat.{ℕ, zero, suc, ◌+◌, ◌*◌, ◌/◌, ◌%◌, ◌^◌, ◌≤◌, ◌<◌}
use native.Mathlib.Nat.{mod-lt, div-eq_of_lt, div_self, add-mul, lt_of_lt_of_le}
use native.Mathlib.Decide.{dec_lt}
use native.Mathlib.Omega.{arith}
use mathlib.Core.Path.{◌≡◌, refl, sym, ap, ◌∙◌}
use mathlib.Core.Logic.{◌⊎◌, inl, inr}
use mathlib.Core.Bool.{Bool, true, false, not, ◌&&◌}
use lib.Dec.{eqb}
use lib.Pow.{pow_pos, pow_mono, split}
use lib.Bits.{bit_xor, xor_lt, xor_shr, xor_step, xor_zero_r}
use borrow.Author.Tests.{eqb-true, eq-eqb, not-true}
use Rattle.refusal.specs.Search.{found, none}
use Rattle.refusal.proofs.Bools.{and_left, and_right, both, is_false, never}
use Rattle.refusal.proofs.Searches.{some_of, some_at, all_at, all_of, least_of, least_none, Searched, hit, miss, searched}
use Rattle.algebra.specs.Rows.{bit, dot}
use Rattle.algebra.proofs.Digits.{bit_lt, bit_of_xor, bit_mod, bit_none, bits_below, zero_or_one, xor_same, top, top_digit, top_split, top_below}
use Rattle.algebra.proofs.Dots.{dot_lt, dot_zero_r, dot_xor_r, dot_pow}
use Rattle.elimination.specs.Equations.{solves, spans_in, dependent_in, plain_in, solution}

-- an odd digit taken away, and whatever below it
smaller : (v x j : ℕ) → bit v j ≡ 1 → x / 2 ^ j ≡ 1 → bit_xor v x < v
unfolding bit
smaller v x j o t =
    let w = bit_xor v x in
    let high : w / 2 ^ j + 1 ≡ v / 2 ^ j = rw (xor_shr, t) (odd_xor (v / 2 ^ j) o) in
    omega (arith, split w j, split v j, mod-lt w (pow_pos j), ap (λ (y : ℕ). y * 2 ^ j) high, add-mul (w / 2 ^ j) 1 (2 ^ j))
  where
    odd_xor : (a : ℕ) → a % 2 ≡ 1 → bit_xor a 1 + 1 ≡ a
    odd_xor a h = rw (xor_step a 1, h, xor_zero_r) (omega arith)

-- ---- the tests as facts

module _ (n : ℕ) (e : ℕ → ℕ) where
  pub solves_at : (b : ℕ → ℕ) (v : ℕ) → solves n e b v ≡ true → (i : ℕ) → i < n → dot (e i) v ≡ b i
  unfolding solves
  solves_at b v h i l = eqb-true (dot (e i) v) (b i) (all_at n (λ i. eqb (dot (e i) v) (b i)) h i l)

  pub solves_of : (b : ℕ → ℕ) (v : ℕ) → ((i : ℕ) → i < n → dot (e i) v ≡ b i) → solves n e b v ≡ true
  unfolding solves
  solves_of b v h = all_of n (λ i. eqb (dot (e i) v) (b i)) (λ i l. eq-eqb (dot (e i) v) (b i) (h i l))

  -- column j is the xor of the columns of u, which stand before it
  pub record Spans (j : ℕ) : Type 0 where
    pub u : ℕ
    pub before : u < 2 ^ j
    pub same : (i : ℕ) → i < n → dot (e i) u ≡ bit (e i) j

  pub dependent_of : (j : ℕ) → Spans j → dependent_in n e j ≡ true
  unfolding dependent_in spans_in
  dependent_of j s =
      some_of (2 ^ j) (spans_in n e j) s.u s.before (all_of n (λ i. eqb (dot (e i) s.u) (bit (e i) j)) (λ i l. eq-eqb (dot (e i) s.u) (bit (e i) j) (s.same i l)))

  pub dependent_at : (j : ℕ) → dependent_in n e j ≡ true → Spans j
  unfolding dependent_in spans_in
  dependent_at j h =
      let r = some_at (2 ^ j) (spans_in n e j) h in
      record { u = r.0; before = r.1; same = λ i l. eqb-true (dot (e i) r.0) (bit (e i) j) (all_at n (λ i. eqb (dot (e i) r.0) (bit (e i) j)) r.2 i l) }

  pub plain_at : (q v : ℕ) → plain_in n e q v ≡ true → (j : ℕ) → j < q → Spans j → bit v j ≡ 0
  unfolding plain_in
  plain_at q v h j l s = go (zero_or_one (bit v j) (bit_lt v j))
    where
      go : (bit v j ≡ 0) ⊎ (bit v j ≡ 1) → bit v j ≡ 0
      go (inl z) = z
      go (inr o) =
          absurd (never (both (dependent_of j s) (eq-eqb (bit v j) 1 o))
          (not-true (dependent_in n e j && eqb (bit v j) 1) (all_at q (λ j. not (dependent_in n e j && eqb (bit v j) 1)) h j l)))

  pub plain_of : (q v : ℕ) → ((j : ℕ) → j < q → Spans j → bit v j ≡ 1 → ⊥) → plain_in n e q v ≡ true
  unfolding plain_in
  plain_of q v h = all_of q (λ j. not (dependent_in n e j && eqb (bit v j) 1)) (λ j l. ap not (is_false (dependent_in n e j && eqb (bit v j) 1) (λ t.
      h j l (dependent_at j (and_left (dependent_in n e j) (eqb (bit v j) 1) t)) (eqb-true (bit v j) 1 (and_right (dependent_in n e j) (eqb (bit v j) 1) t)))))

  -- ---- one solution

  -- two that are zero in every dependent column are the same
  pub unique : (b : ℕ → ℕ) (q v w : ℕ) → v < 2 ^ q → w < 2 ^ q
      → solves n e b v ≡ true → solves n e b w ≡ true → plain_in n e q v ≡ true → plain_in n e q w ≡ true → v ≡ w
  unique b q v w vq wq sv sw pv pw = go (bit_xor v w) refl
    where
      go : (u : ℕ) → bit_xor v w ≡ u → v ≡ w
      go zero z = xor_same v w z
      go (suc x) z = absurd (apart (bit_xor v w) refl (omega arith))
        where
          apart : (u : ℕ) → bit_xor v w ≡ u → 0 < u → ⊥
          apart u s p =
              let t = top u p in
              let j = t.0 in
              let l = top_below u j q t.1 (rw s at (xor_lt q v w vq wq)) in
              let c : Spans j = record {
                u = u % 2 ^ j;
                before = mod-lt u (pow_pos j);
                same = λ i g.
                    omega (arith, solves_at b v sv i g, solves_at b w sw i g, dot_xor_r (e i) v w, ap (dot (e i)) (s ∙ top_split u j t.1), dot_xor_r (e i) (2 ^ j) (u % 2 ^ j), dot_pow (e i) j, dot_lt (e i) (u % 2 ^ j), bit_lt (e i) j);
              } in
              omega (arith, plain_at q v pv j l c, plain_at q w pw j l c, bit_of_xor v w j, ap (λ (x : ℕ). bit x j) s, top_digit u j t.1)

  -- a solution with a dependent column set is not the least: the column and the columns before it, of which it is the xor, are exchanged
  exchange : (b : ℕ → ℕ) (v j : ℕ) → solves n e b v ≡ true → (s : Spans j) → bit v j ≡ 1
      → (solves n e b (bit_xor v (bit_xor s.u (2 ^ j))) ≡ true) × (bit_xor v (bit_xor s.u (2 ^ j)) < v)
  exchange b v j sv s o = (
    solves_of b (bit_xor v (bit_xor s.u (2 ^ j))) (λ i l.
        omega (arith, solves_at b v sv i l, dot_xor_r (e i) v (bit_xor s.u (2 ^ j)), dot_xor_r (e i) s.u (2 ^ j), s.same i l, dot_pow (e i) j, dot_lt (e i) v, bit_lt (e i) j)),
    smaller v (bit_xor s.u (2 ^ j)) j o (rw (xor_shr, div-eq_of_lt s.before, div_self (pow_pos j)) refl),
  )

  pub least_plain : (b : ℕ → ℕ) (q v : ℕ) → solves n e b v ≡ true → ((w : ℕ) → w < v → solves n e b w ≡ false) → plain_in n e q v ≡ true
  least_plain b q v sv least = plain_of q v (λ j l s o. let x = exchange b v j sv s o in never x.0 (least _ x.1))

  -- ---- the solution that is looked for

  module _ (b : ℕ → ℕ) (q : ℕ) where
    abbrev chosen : ℕ → Bool
    chosen v = solves n e b v && plain_in n e q v

    pub solution_found : (v : ℕ) → v < 2 ^ q → solves n e b v ≡ true → plain_in n e q v ≡ true → solution n e b q ≡ found v
    unfolding solution
    solution_found v h s p = least_of (2 ^ q) chosen v h (both s p) (λ w l. is_false (chosen w) (λ t.
        omega (arith, unique b q w v (omega arith) h (and_left (solves n e b w) (plain_in n e q w) t) s (and_right (solves n e b w) (plain_in n e q w) t) p)))

    pub solution_none : ((v : ℕ) → v < 2 ^ q → solves n e b v ≡ true → ⊥) → solution n e b q ≡ none
    unfolding solution
    solution_none h = least_none (2 ^ q) chosen (λ v l. is_false (chosen v) (λ t. h v l (and_left (solves n e b v) (plain_in n e q v) t)))

    -- what looking for it comes to
    pub data Looked : Type 0 where
      one : (v : ℕ) → v < 2 ^ q → solves n e b v ≡ true → plain_in n e q v ≡ true → solution n e b q ≡ found v → Looked
      no_one : ((v : ℕ) → v < 2 ^ q → solves n e b v ≡ true → ⊥) → solution n e b q ≡ none → Looked

    pub looked : Looked
    looked = go (searched (2 ^ q) (solves n e b))
      where
        go : Searched (2 ^ q) (solves n e b) → Looked
        go (hit v l _) =
            let p = least_plain b q v l.passes l.first in
            one v l.low l.passes p (solution_found v l.low l.passes p)
        go (miss f _) = no_one (λ v h s. never s (f v h)) (solution_none (λ v h s. never s (f v h)))

-- the same equations, of which no row has a column from q on: the solution on more columns is the one on q
module _ (n : ℕ) (e e' b b' : ℕ → ℕ) (q p : ℕ) (h : q ≤ p) (same-e : (i : ℕ) → i < n → e' i ≡ e i) (same-b : (i : ℕ) → i < n → b' i ≡ b i) (low : (i : ℕ) → i < n → e i < 2 ^ q) where
  -- a column from q on is zero
  past : (j : ℕ) → q ≤ j → Spans n e' j
  past j g = record {
    u = 0;
    before = pow_pos j;
    same = λ i l. dot_zero_r (e' i) ∙ sym (ap (λ (x : ℕ). bit x j) (same-e i l) ∙ bit_none q (e i) j (low i l) g);
  }

  below : (v : ℕ) → v < 2 ^ p → plain_in n e' p v ≡ true → v < 2 ^ q
  below v l s = rw (bits_below p v (v % 2 ^ q) l (lt_of_lt_of_le (mod-lt v (pow_pos q)) (pow_mono h)) (λ j g. go j g (dec_lt j q))) (mod-lt v (pow_pos q))
    where
      go : (j : ℕ) → j < p → Dec (j < q) → bit v j ≡ bit (v % 2 ^ q) j
      go j g (yes a) = sym (bit_mod q v j a)
      go j g (no a) =
          let c : q ≤ j = omega (arith, a) in
          plain_at n e' p v s j g (past j c) ∙ sym (bit_none q (v % 2 ^ q) j (mod-lt v (pow_pos q)) c)

  pub solution_same : solution n e' b' p ≡ solution n e b q
  solution_same = go (looked n e' b' p)
    where
      go : Looked n e' b' p → solution n e' b' p ≡ solution n e b q
      go (one v l s t f) = f ∙ sym (solution_found n e b q v (below v l t)
          (solves_of n e b v (λ i g. ap (λ (x : ℕ). dot x v) (sym (same-e i g)) ∙ solves_at n e' b' v s i g ∙ same-b i g))
          (plain_of n e q v (λ j g c o. omega (
            arith,
            plain_at n e' p v t j (omega arith) (record {
              u = c.u;
              before = c.before;
              same = λ i a. rw (same-e i a) (c.same i a);
            }),
          ))))
      go (no_one f t) = t ∙ sym (solution_none n e b q (λ v l s. f v (lt_of_lt_of_le l (pow_mono h))
          (solves_of n e' b' v (λ i g. ap (λ (x : ℕ). dot x v) (same-e i g) ∙ solves_at n e b v s i g ∙ sym (same-b i g)))))
