-- Substituting back after elimination finds the solution, or that there is none. A row x with column n as its right side is met by v exactly if it has an even number of
-- ones in common with u, which is v with column n set; so what holds of the first rows holds of every choice of them.
use Prim.Native.Nat.{ℕ, zero, suc, ◌+◌, ◌-◌, ◌/◌, ◌%◌, ◌^◌, ◌≤◌, ◌<◌}
use native.Mathlib.Nat.{mod-lt, div_self, div-eq_of_lt, mod_self, mod-eq_of_lt, le_of_lt, lt_of_lt_of_le, eq-or-lt_of_le, le_of_suc-le-suc}
use native.Mathlib.Decide.{dec_lt, ℕ_discrete}
use native.Mathlib.Omega.{arith}
use mathlib.Core.Path.{◌≡◌, refl, sym, ap, ◌∙◌}
use mathlib.Core.Logic.{◌⊎◌, inl, inr}
use mathlib.Core.Bool.{Bool, true, false}
use lib.Pow.{pow_pos, pow_mono, pow-lt}
use lib.Bits.{bit_xor, xor_shr, xor_mod, xor_zero_l}
use Rattle.refusal.specs.Search.{Least, found, none}
use Rattle.algebra.specs.Rows.{bit, dot}
use Rattle.algebra.specs.Choices.{combo}
use Rattle.algebra.proofs.Digits.{bit_lt, bit_of_xor, bit_mod, bit_none, bit_pow, bit_pow_other, bits_ext, zero_or_one, top_split}
use Rattle.algebra.proofs.Dots.{dot_lt, dot_zero_l, dot_xor_l, dot_xor_r, dot_pow}
use Rattle.algebra.proofs.Combos.{combo_xor, combo_pow, combo_holds}
use Rattle.dense_block.specs.Words.{put_bit}
use Rattle.dense_block.proofs.Columns.{put_same, put_other}
use Rattle.elimination.specs.Eliminated.{Lowest, Near, Settled, dead, live, Eliminated, Pivot, Met, Substituted, met, unmet}
use Rattle.elimination.specs.Equations.{solves, solution}
use Rattle.elimination.proofs.Lows.{low_bit, dot_low, dot_none}
use Rattle.elimination.proofs.Solutions.{solves_at, solves_of, Spans, plain_of, solution_found, solution_none}

-- ---- rows with a right side

-- u with column n, and v below it
pub dot_marked : (n x u : ℕ) → u / 2 ^ n ≡ 1 → dot x u ≡ (dot (x % 2 ^ n) (u % 2 ^ n) + bit x n) % 2
dot_marked n x u h =
    ap (dot x) (top_split u n h) ∙ dot_xor_r x (2 ^ n) (u % 2 ^ n)
    ∙ omega (arith, dot_pow x n, dot_low n x (u % 2 ^ n) (mod-lt u (pow_pos n)))

-- what every first row has in common with u evenly, every choice of them has
choice_even : (f : ℕ → ℕ) (k m u : ℕ) → ((i : ℕ) → i < k → bit m i ≡ 1 → dot (f i) u ≡ 0) → dot (combo f k m) u ≡ 0
choice_even f k m u h = combo_holds (λ (x : ℕ). dot x u ≡ 0) (dot_zero_l u) (λ a b p q. omega (arith, dot_xor_l a b u)) f k m h

-- ---- the steps

module _ (n k : ℕ) (g : ℕ → ℕ) where
  -- at first u has column n alone
  pub met_start : Met n k g k (2 ^ n)
  met_start = record {
    marked = div_self (pow_pos n);
    even = λ t h l. absurd (omega arith);
    pivots = λ j l o. absurd (omega (arith, bit_pow_other n j (omega arith)));
  }

  module _ (r u : ℕ) (pos : 0 < r) (m : Met n k g r u) where
    more : (t : ℕ) → r - 1 ≤ t → t < k → dot (g (r - 1)) u ≡ 0 → Dec (t ≡ r - 1) → dot (g t) u ≡ 0
    more t h l z (yes e) = rw e z
    more t h l z (no e) = m.even t (omega (arith, e)) l

    earlier : (j : ℕ) → Pivot k g r j → Pivot k g (r - 1) j
    earlier j p = record { row = p.row; from = omega (arith, p.from); within = p.within; has = p.has; below = p.below }

    -- row r - 1 is met
    pub met_even : dot (g (r - 1)) u ≡ 0 → Met n k g (r - 1) u
    met_even z = record {
      marked = m.marked;
      even = λ t h l. more t h l z (ℕ_discrete t (r - 1));
      pivots = λ j l o. earlier j (m.pivots j l o);
    }

    -- row r - 1 is not met and has no column of its own
    pub met_unmet : g (r - 1) % 2 ^ n ≡ 0 → dot (g (r - 1)) u ≡ 1 → bit (g (r - 1)) n ≡ 1
    met_unmet z o =
        let x = g (r - 1) in
        omega (arith, dot_marked n x u m.marked, ap (λ (y : ℕ). dot y (u % 2 ^ n)) z, dot_zero_l (u % 2 ^ n), bit_lt x n)

    -- it is not met, and its lowest column is p
    module _ (p : ℕ) (rk : r ≤ k) (pn : p < n) (low : Lowest n (g (r - 1)) p) (s : Settled n k g (r - 1)) (o : dot (g (r - 1)) u ≡ 1) where
      -- no later row has it
      alone : (t : ℕ) → r ≤ t → t < k → bit (g t) p ≡ 0
      alone t h l = go s
        where
          go : Settled n k g (r - 1) → bit (g t) p ≡ 0
          go (dead z) = absurd (omega (arith, low_bit n (g (r - 1)) p z pn, low.has pn))
          go (live q a b c d) = same (dec_lt p q) (dec_lt q p)
            where
              same : Dec (p < q) → Dec (q < p) → bit (g t) p ≡ 0
              same (yes x) _ = absurd (omega (arith, low_bit q (g (r - 1)) p c x, low.has pn))
              same (no x) (yes y) = absurd (omega (arith, low_bit p (g (r - 1)) q low.below y))
              same (no x) (no y) = let e : p ≡ q = omega (arith, x, y) in rw e (d t (omega arith) l)

      unset : bit u p ≡ 0
      unset = go (zero_or_one (bit u p) (bit_lt u p))
        where
          go : (bit u p ≡ 0) ⊎ (bit u p ≡ 1) → bit u p ≡ 0
          go (inl z) = z
          go (inr y) = let t = m.pivots p pn y in absurd (omega (arith, alone t.row t.from t.within, t.has))

      put_xor : put_bit u p true ≡ bit_xor u (2 ^ p)
      put_xor = bits_ext (put_bit u p true) (bit_xor u (2 ^ p)) (λ j. go j (ℕ_discrete j p))
        where
          go : (j : ℕ) → Dec (j ≡ p) → bit (put_bit u p true) j ≡ bit (bit_xor u (2 ^ p)) j
          go j (yes e) = rw (e, put_same u p true, bit_of_xor, unset, bit_pow)
          go j (no e) = rw (put_other u p j true e, bit_of_xor, bit_pow_other p j e) (omega (arith, bit_lt u j))

      -- column p is set
      pub met_set : Met n k g (r - 1) (put_bit u p true)
      met_set = rw put_xor (record {
        marked = rw (xor_shr, m.marked, div-eq_of_lt (pow-lt pn)) refl;
        even = λ t h l. even t h l (ℕ_discrete t (r - 1));
        pivots = λ j l y. only j l y (ℕ_discrete j p);
      })
        where
          even : (t : ℕ) → r - 1 ≤ t → t < k → Dec (t ≡ r - 1) → dot (g t) (bit_xor u (2 ^ p)) ≡ 0
          even t h l (yes e) = rw (e, dot_xor_r, o, dot_pow, low.has pn)
          even t h l (no e) = rw (dot_xor_r, dot_pow, m.even t (omega (arith, e)) l, alone t (omega (arith, e)) l)

          only : (j : ℕ) → j < n → bit (bit_xor u (2 ^ p)) j ≡ 1 → Dec (j ≡ p) → Pivot k g (r - 1) j
          only j l y (yes e) = record { row = r - 1; from = omega arith; within = omega arith; has = rw e (low.has pn); below = rw e low.below }
          only j l y (no e) = earlier j (m.pivots j l (omega (arith, bit_of_xor u (2 ^ p) j, bit_pow_other p j e, bit_lt u j)))

-- ---- what it finds

-- the equations of rows f
abbrev pub lefts : ℕ → (ℕ → ℕ) → ℕ → ℕ
lefts n f i = f i % 2 ^ n

abbrev pub rights : ℕ → (ℕ → ℕ) → ℕ → ℕ
rights n f i = bit (f i) n

-- what a test and a number come to
abbrev pub answered : Bool → ℕ → Least
answered true v = found v
answered false v = none

module _ (n k : ℕ) (f g : ℕ → ℕ) (d : Eliminated n k f g k) where
  -- a row of the eliminated ones is a choice of the first
  from_first : (u : ℕ) → ((i : ℕ) → i < k → dot (f i) u ≡ 0) → (t : ℕ) → t < k → dot (g t) u ≡ 0
  from_first u h t l = rw (d.near t l).is (choice_even f k (d.near t l).mask u (λ i a _. h i a))

  -- a first row is its eliminated one and a choice of first rows before it
  to_first : (u : ℕ) → ((t : ℕ) → t < k → dot (g t) u ≡ 0) → (j : ℕ) → j ≤ k → (i : ℕ) → i < j → dot (f i) u ≡ 0
  to_first u h zero a i l = absurd (omega arith)
  to_first u h (suc j) a i l = go (eq-or-lt_of_le (le_of_suc-le-suc l)) (to_first u h j (omega arith))
    where
      near : Near k f (g j) j
      near = d.near j (omega arith)

      rest : ℕ
      rest = near.mask % 2 ^ j

      parts : g j ≡ bit_xor (f j) (combo f k rest)
      parts =
          near.is ∙ ap (combo f k) (top_split near.mask j near.own) ∙ combo_xor f k (2 ^ j) rest
          ∙ ap (λ (x : ℕ). bit_xor x (combo f k rest)) (combo_pow f k j (omega arith))

      go : (i ≡ j) ⊎ (i < j) → ((i : ℕ) → i < j → dot (f i) u ≡ 0) → dot (f i) u ≡ 0
      go (inr b) before = before i b
      go (inl e) before =
          let z = choice_even f k rest u (λ x b o. before x (chosen x o (dec_lt x j))) in
          rw e (omega (arith, h j (omega arith), ap (λ (x : ℕ). dot x u) parts, dot_xor_l (f j) (combo f k rest) u, dot_lt (f j) u))
        where
          chosen : (x : ℕ) → bit rest x ≡ 1 → Dec (x < j) → x < j
          chosen x o (yes b) = b
          chosen x o (no b) = absurd (omega (arith, bit_none j rest x (mod-lt near.mask (pow_pos j)) (omega (arith, b))))

  -- a string that meets all has no dependent column, since a row has no column below its lowest
  pivot_free : (j : ℕ) → j < n → Pivot k g 0 j → Spans k (lefts n f) j → ⊥
  pivot_free j l p s =
      let x = g p.row in
      omega (arith, even, dot_xor_r x s.u (2 ^ j), dot_pow x j, p.has, dot_none j x s.u s.before p.below)
    where
      small : s.u < 2 ^ n
      small = lt_of_lt_of_le s.before (pow_mono (le_of_lt l))

      even : dot (g p.row) (bit_xor s.u (2 ^ j)) ≡ 0
      even = from_first (bit_xor s.u (2 ^ j)) (λ i a.
          omega (arith, dot_xor_r (f i) s.u (2 ^ j), dot_pow (f i) j, s.same i a, dot_low n (f i) s.u small, bit_mod n (f i) j l, bit_lt (f i) j)) p.row p.within

  -- no string meets a row that has its right side alone
  unmet_none : (t : ℕ) → t < k → g t % 2 ^ n ≡ 0 → bit (g t) n ≡ 1 → (v : ℕ) → v < 2 ^ n → solves k (lefts n f) (rights n f) v ≡ true → ⊥
  unmet_none t l z o v h s =
      let e = from_first u (λ i a. omega (arith, dot_marked n (f i) u mark, ap (dot (f i % 2 ^ n)) low, solves_at k (lefts n f) (rights n f) v s i a, bit_lt (f i) n)) t l in
      omega (arith, dot_marked n (g t) u mark, ap (λ (x : ℕ). dot x (u % 2 ^ n)) z, dot_zero_l (u % 2 ^ n))
    where
      u : ℕ
      u = bit_xor (2 ^ n) v

      mark : u / 2 ^ n ≡ 1
      mark = rw (xor_shr, div_self (pow_pos n), div-eq_of_lt h) refl

      low : u % 2 ^ n ≡ v
      low = rw (xor_mod, mod_self, mod-eq_of_lt h) (xor_zero_l v)

  pub substituted : (ok : Bool) (u : ℕ) → Substituted n k g ok u → solution k (lefts n f) (rights n f) n ≡ answered ok (u % 2 ^ n)
  substituted true u (met m) =
      solution_found k (lefts n f) (rights n f) n (u % 2 ^ n) (mod-lt u (pow_pos n))
      (solves_of k (lefts n f) (rights n f) (u % 2 ^ n) (λ i l.
      omega (arith, to_first u (λ t a. m.even t (omega arith) a) k (omega arith) i l, dot_marked n (f i) u m.marked, dot_lt (f i % 2 ^ n) (u % 2 ^ n), bit_lt (f i) n)))
      (plain_of k (lefts n f) n (u % 2 ^ n) (λ j l s o. pivot_free j l (m.pivots j l (sym (bit_mod n u j l) ∙ o)) s))
  substituted false u (unmet t l z o) = solution_none k (lefts n f) (rights n f) n (unmet_none t l z o)
