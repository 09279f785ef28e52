-- The two answers, as the algebra's definitions: rows of X words and then Z words are dependent as the row set is, and equations e_i·v = d_i/2 have the vacuum as
-- their solution. The vacuum is unique, there is one exactly if a string meets the rule, and it is the least string that does.
use Prim.Native.Nat.{ℕ, zero, suc, ◌+◌, ◌*◌, ◌/◌, ◌^◌, ◌≤◌, ◌<◌}
use native.Mathlib.Omega.{arith}
use mathlib.Core.Path.{◌≡◌, refl, sym, ap, ◌∙◌}
use mathlib.Core.Bool.{Bool, true, false, ◌&&◌}
use mathlib.Core.List.{List, [], ◌∷◌, ◌++◌}
use lib.Dec.{eqb, ltb}
use lib.ListN.{length}
use lib.Pow.{pow_pos, pow-add}
use borrow.Author.Tests.{eqb-true, eqb-false, eq-eqb, ne_eqb}
use Rattle.refusal.specs.Search.{Least, found, none, some_below}
use Rattle.refusal.proofs.Bools.{and_left, and_right}
use Rattle.refusal.proofs.Searches.{some_of, some_same, none_of, all_at, all_same, not_all, least_none, least_same, Is-least, Searched, hit, miss, searched}
use Rattle.algebra.specs.Rows.{dot}
use Rattle.algebra.specs.Modes.{Modes, e, d, paired, empty, vacuum_rule}
use Rattle.algebra.specs.Choices.{combo, dependent}
use Rattle.algebra.specs.Solving.{spans, dependent_column, plain, solvable, solved_vacuum}
use Rattle.algebra.proofs.Combos.{combo_parts}
use Rattle.dense_block.specs.Words.{value, term_of, zeroed}
use Rattle.elimination.specs.Rooms.{row_at, dependent_among, independence_room, dependent_rows, RowsAnswered}
use Rattle.elimination.specs.Equations.{solves, spans_in, dependent_in, plain_in, solution}
use Rattle.elimination.specs.Solving.{left_at, right_at, solving_room, solved_rows, is_found, written, RowsSolved}
use Rattle.elimination.proofs.Solutions.{solves_of, unique, least_plain, solution_found, solution_same}

-- ---- dependence

-- words in two parts
pub value_parts : (xs zs : List ℕ) → value (xs ++ zs) ≡ value xs + 2 ^ (64 * length xs) * value zs
value_parts [] zs = omega arith
value_parts (x ∷ xs) zs =
    let k : 64 * suc (length xs) ≡ 64 + 64 * length xs = omega arith in
    rw (value_parts xs zs, k, pow-add 2 64 (64 * length xs)) (omega arith)

pub row_parts : (width : ℕ) (ws : List ℕ) (r w : ℕ) (xs zs : List ℕ) → term_of width ws r ≡ xs ++ zs → length xs ≡ w → row_at width ws r ≡ value xs + 2 ^ (64 * w) * value zs
unfolding row_at
row_parts width ws r w xs zs h l = ap value h ∙ value_parts xs zs ∙ ap (λ (k : ℕ). value xs + 2 ^ (64 * k) * value zs) l

empty_product : (a n : ℕ) → a * 2 ^ n ≡ 0 → a ≡ 0
empty_product zero n h = refl
empty_product (suc a) n h = absurd (omega (arith, pow_pos n))

zero_parts : (a b n : ℕ) → eqb (a * 2 ^ n + b) 0 ≡ (eqb b 0 && eqb a 0)
zero_parts a b n = go (eqb b 0) (eqb a 0) refl refl
  where
    go : (x y : Bool) → eqb b 0 ≡ x → eqb a 0 ≡ y → eqb (a * 2 ^ n + b) 0 ≡ (x && y)
    go true true h k = let z = eqb-true a 0 k in eq-eqb (a * 2 ^ n + b) 0 (rw z (omega (arith, eqb-true b 0 h)))
    go true false h k = ne_eqb (a * 2 ^ n + b) 0 (λ z. eqb-false a 0 k (empty_product a n (omega arith)))
    go false y h k = ne_eqb (a * 2 ^ n + b) 0 (λ z. eqb-false b 0 h (omega arith))

-- row r of the room is the X part and from column 64 w on the Z part of row r
pub dependent_modes : (m : Modes) (width w : ℕ) (ws : List ℕ) → independence_room (2 * m.n) width ws ≡ true
    → ((r : ℕ) → r < 2 * m.n → ((m.row r).x < 2 ^ (64 * w)) × (row_at width ws r ≡ (m.row r).x + 2 ^ (64 * w) * (m.row r).z))
    → dependent_rows (2 * m.n) width ws ≡ dependent m
unfolding dependent_rows dependent_among dependent
dependent_modes m width w ws h rows = rw h (some_same (2 ^ (2 * m.n)) _ _ (λ choice _. ap (λ (b : Bool). ltb 0 choice && b) (same choice)))
  where
    same : (choice : ℕ) → eqb (combo (row_at width ws) (2 * m.n) choice) 0 ≡ (eqb (combo (λ k. (m.row k).x) (2 * m.n) choice) 0 && eqb (combo (λ k. (m.row k).z) (2 * m.n) choice) 0)
    same choice =
        ap (λ (x : ℕ). eqb x 0) (combo_parts (64 * w) (row_at width ws) (λ k. (m.row k).x) (λ k. (m.row k).z) (2 * m.n) choice (λ i l. ((rows i l).0, (rows i l).1 ∙ omega arith)))
        ∙ zero_parts (combo (λ k. (m.row k).z) (2 * m.n) choice) (combo (λ k. (m.row k).x) (2 * m.n) choice) (64 * w)

-- ---- the vacuum

-- the equations of a row set
abbrev pub half : Modes → ℕ → ℕ
half m i = d m i / 2

module _ (m : Modes) where
  plain_modes : (q v : ℕ) → plain m q v ≡ plain_in m.n (e m) q v
  unfolding plain dependent_column spans plain_in dependent_in spans_in
  plain_modes q v = refl

  -- a string that meets the rule: every mode is paired, and the equations hold
  rule_paired : (v : ℕ) → vacuum_rule m v ≡ true → (i : ℕ) → i < m.n → paired m i ≡ true
  unfolding vacuum_rule empty
  rule_paired v h i l = and_left (paired m i) (eqb (dot (e m i) v) (d m i / 2)) (all_at m.n (λ i. empty m i v) h i l)

  rule_solves : (v : ℕ) → vacuum_rule m v ≡ true → solves m.n (e m) (half m) v ≡ true
  unfolding vacuum_rule empty
  rule_solves v h = solves_of m.n (e m) (half m) v (λ i l.
      eqb-true (dot (e m i) v) (d m i / 2) (and_right (paired m i) (eqb (dot (e m i) v) (d m i / 2)) (all_at m.n (λ i. empty m i v) h i l)))

  -- the vacuum is unique
  pub solved_unique : (q v w : ℕ) → v < 2 ^ q → w < 2 ^ q → vacuum_rule m v ≡ true → vacuum_rule m w ≡ true → plain m q v ≡ true → plain m q w ≡ true → v ≡ w
  solved_unique q v w vq wq rv rw' pv pw =
      unique m.n (e m) (half m) q v w vq wq (rule_solves v rv) (rule_solves w rw') (sym (plain_modes q v) ∙ pv) (sym (plain_modes q w) ∙ pw)

  no_vacuum : (q : ℕ) → ((v : ℕ) → v < 2 ^ q → vacuum_rule m v ≡ false) → solved_vacuum m q ≡ none
  unfolding solved_vacuum
  no_vacuum q f = least_none (2 ^ q) (λ v. vacuum_rule m v && plain m q v) (λ v l. rw (f v l))

  -- a mode that is not paired leaves none
  pub unpaired_rule : (i : ℕ) → i < m.n → paired m i ≡ false → (v : ℕ) → vacuum_rule m v ≡ false
  unfolding vacuum_rule empty
  unpaired_rule i l h v = not_all m.n (λ i. empty m i v) i l (rw h)

  pub unpaired_vacuum : (i : ℕ) → i < m.n → paired m i ≡ false → (q : ℕ) → solved_vacuum m q ≡ none
  unpaired_vacuum i l h q = no_vacuum q (λ v _. unpaired_rule i l h v)

  pub unpaired_solvable : (i : ℕ) → i < m.n → paired m i ≡ false → (q : ℕ) → solvable m q ≡ false
  unfolding solvable
  unpaired_solvable i l h q = none_of (2 ^ q) (vacuum_rule m) (λ v _. unpaired_rule i l h v)

  module _ (all : (i : ℕ) → i < m.n → paired m i ≡ true) where
    paired_rule : (v : ℕ) → vacuum_rule m v ≡ solves m.n (e m) (half m) v
    unfolding vacuum_rule empty solves
    paired_rule v = all_same m.n (λ i. empty m i v) (λ i. eqb (dot (e m i) v) (half m i)) (λ i l. rw (all i l))

    paired_vacuum : (q : ℕ) → solved_vacuum m q ≡ solution m.n (e m) (half m) q
    unfolding solved_vacuum solution
    paired_vacuum q = least_same (2 ^ q) (λ v. vacuum_rule m v && plain m q v) (λ v. solves m.n (e m) (half m) v && plain_in m.n (e m) q v) (λ v _. rw (paired_rule v, plain_modes q v))

    -- equation i of the room is mode i's, and no e row has a column from q on
    pub solved_modes : (q width : ℕ) (ws vs : List ℕ) → solving_room m.n width ws vs ≡ true → q ≤ 64 * width
        → ((i : ℕ) → i < m.n → (left_at width ws i ≡ e m i) × (right_at width ws i ≡ d m i / 2) × (e m i < 2 ^ q))
        → solved_rows m.n width ws vs ≡ solved_vacuum m q
    unfolding solved_rows
    solved_modes q width ws vs h l rows =
        rw h (solution_same m.n (e m) (left_at width ws) (half m) (right_at width ws) q (64 * width) l (λ i g. (rows i g).0) (λ i g. (rows i g).1) (λ i g. (rows i g).2)
        ∙ sym (paired_vacuum q))

  -- what solving comes to: the least string that meets the rule, which is zero in every dependent column; or none, where no string meets it
  pub data Solved (q : ℕ) : Type 0 where
    least : (v : ℕ) → Is-least (2 ^ q) (vacuum_rule m) v → plain m q v ≡ true → solved_vacuum m q ≡ found v → Solved q
    unmet : ((v : ℕ) → v < 2 ^ q → vacuum_rule m v ≡ false) → solved_vacuum m q ≡ none → Solved q

  pub solving : (q : ℕ) → Solved q
  solving q = go (searched (2 ^ q) (vacuum_rule m))
    where
      go : Searched (2 ^ q) (vacuum_rule m) → Solved q
      go (hit v l _) =
          let all = rule_paired v l.passes in
          let first = least_plain m.n (e m) (half m) q v (rule_solves v l.passes) (λ w g. sym (paired_rule all w) ∙ l.first w g) in
          least v l (plain_modes q v ∙ first) (paired_vacuum all q ∙ solution_found m.n (e m) (half m) q v l.low (rule_solves v l.passes) first)
      go (miss f _) = unmet f (no_vacuum q f)

  -- there is a vacuum exactly if a string meets the rule
  pub solvable_found : (q : ℕ) → solvable m q ≡ is_found (solved_vacuum m q)
  unfolding solvable
  solvable_found q = go (solving q)
    where
      go : Solved q → some_below (2 ^ q) (vacuum_rule m) ≡ is_found (solved_vacuum m q)
      go (least v l _ one) = some_of (2 ^ q) (vacuum_rule m) v l.low l.passes ∙ sym (ap is_found one)
      go (unmet f no_one) = none_of (2 ^ q) (vacuum_rule m) f ∙ sym (ap is_found no_one)

-- ---- what the two calls tell of a row set

-- `dependent_rows` on its rows, X words and then Z words
pub dependent_call : (m : Modes) (width w : ℕ) (ws vs : List ℕ) (r : Bool) → RowsAnswered (2 * m.n) width ws r vs → independence_room (2 * m.n) width ws ≡ true
    → ((i : ℕ) → i < 2 * m.n → ((m.row i).x < 2 ^ (64 * w)) × (row_at width ws i ≡ (m.row i).x + 2 ^ (64 * w) * (m.row i).z))
    → (r ≡ dependent m) × (vs ≡ zeroed (2 * m.n * width) ws)
dependent_call m width w ws vs r a h rows = (a.answer ∙ dependent_modes m width w ws h rows, rw h at a.room)

-- `solve_rows` on its equations
pub solve_call : (m : Modes) (q width : ℕ) (ws vs us ts : List ℕ) (r : Bool) → RowsSolved m.n width ws vs r us ts
    → ((i : ℕ) → i < m.n → paired m i ≡ true) → solving_room m.n width ws vs ≡ true → q ≤ 64 * width
    → ((i : ℕ) → i < m.n → (left_at width ws i ≡ e m i) × (right_at width ws i ≡ d m i / 2) × (e m i < 2 ^ q))
    → (r ≡ solvable m q) × (us ≡ written width (solved_vacuum m q) vs) × (ts ≡ zeroed (m.n * (width + 1)) ws)
solve_call m q width ws vs us ts r s all h l rows =
    let same = solved_modes m all q width ws vs h l rows in
    (s.answer ∙ ap is_found same ∙ sym (solvable_found m q), s.string ∙ ap (λ (x : Least). written width x vs) same, rw h at s.room)
