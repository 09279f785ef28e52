-- What the calls find. Where the row check or `new` answers 10 with i and j, rows i and j commute, and of every pair before them in row order the rows anticommute: the table
-- hands on the pair that the search found, and a found pair is the first. Where vacuum solving or `new` is done, the string written is the least that meets the rule, and the
-- only one that is zero in every dependent column.
use Prim.Native.Nat.{ℕ, ◌*◌}
use native.Mathlib.Omega.{arith}
use mathlib.Core.Path.{◌≡◌, refl, sym, ap, ap₂, ◌∙◌}
use mathlib.Core.List.{List, [], ◌∷◌}
use mathlib.Core.Bool.{Bool, true, false, not}
use borrow.Author.Tests.{eqb-true, eqb-false}
use lib.Dec.{eqb}
use Rattle.std.specs.Prelude.{Ok, Err}
use Rattle.refusal.specs.declared.Refusal.TheVariants.{Commuting}
use Rattle.refusal.specs.Numbers.{Paper, paper}
use Rattle.refusal.specs.Search.{Pair, pair, no_pair}
use Rattle.refusal.specs.Table.{Rule, ◌gives◌, ◌names◌, first_of, on_done}
use Rattle.refusal.proofs.Searches.{pair_found}
use Rattle.algebra.specs.Rows.{clash}
use Rattle.algebra.specs.Modes.{Modes, vacuum_rule, commuting_pair}
use Rattle.algebra.specs.Choices.{dependent}
use Rattle.algebra.specs.Solving.{solvable}
use Rattle.algebra.proofs.RowLaws.{clash_lt}
use Rattle.dense_block.specs.Words.{filled}
use Rattle.elimination.specs.Solving.{is_found}
use Rattle.elimination.proofs.Vacuums.{Solved, least, unmet, solving, solvable_found, solved_unique}
use Rattle.majorana.specs.Sets.{Set, width, modes, bits, bad_size, bad_set}
use Rattle.majorana.specs.Checks.{vacuum_bad, rows_short, rows_checked, RowsChecked}
use Rattle.majorana.specs.Vacuums.{vacuum, solve_short, solved, Solves, new_checked, Makes}
use Rattle.majorana.specs.Findings.{FirstCommuting, LeastVacuum}
use Rattle.dense_block.proofs.Values.{written_back}

-- ---- 10

-- the pair that the search finds
pub commuting_first : (m : Modes) (i j : ℕ) → commuting_pair m ≡ pair i j → FirstCommuting m i j
unfolding commuting_pair
commuting_first m i j h =
    let p = pair_found (2 * m.n) (λ j k. eqb (clash (m.row j) (m.row k)) 0) i j h in
    record {
      above = p.above;
      low = p.low;
      commute = eqb-true (clash (m.row i) (m.row j)) 0 p.passes;
      first = λ c d l b o. omega (arith, clash_lt (m.row c) (m.row d), eqb-false (clash (m.row c) (m.row d)) 0 (p.first c d l b o));
    }

-- a rule that doesn't hold can be left out
pub without_none : (size short bad : Bool) (rest : List Rule)
    → first_of ((size gives 1) ∷ (short gives 2) ∷ (bad gives 17) ∷ rest) ≡ first_of ((size gives 1) ∷ (short gives 2) ∷ (bad gives 17) ∷ (false gives 12) ∷ rest)
without_none true short bad rest = refl
without_none false true bad rest = refl
without_none false false true rest = refl
without_none false false false rest = refl

module _ (i j : ℕ) where
  -- the pair of 10 is the one that was found, in a table of 1, 2, 17, perhaps 12, and the row check's numbers
  pub pair_named : (size short bad none : Bool) (p : Pair) (dep rule : Bool)
      → paper (Commuting i j) ≡ first_of ((size gives 1) ∷ (short gives 2) ∷ (bad gives 17) ∷ (none gives 12) ∷ (p names 10) ∷ (dep gives 11) ∷ (not rule gives 13) ∷ []) → p ≡ pair i j
  pair_named size short bad none p dep rule h = go size short bad none p dep rule (ap (λ (p : Paper). p.number) h) h
    where
      go : (size short bad none : Bool) (p : Pair) (dep rule : Bool)
          → 10 ≡ (first_of ((size gives 1) ∷ (short gives 2) ∷ (bad gives 17) ∷ (none gives 12) ∷ (p names 10) ∷ (dep gives 11) ∷ (not rule gives 13) ∷ [])).number
          → paper (Commuting i j) ≡ first_of ((size gives 1) ∷ (short gives 2) ∷ (bad gives 17) ∷ (none gives 12) ∷ (p names 10) ∷ (dep gives 11) ∷ (not rule gives 13) ∷ [])
          → p ≡ pair i j
      go true short bad none p dep rule k h = absurd (omega arith)
      go false true bad none p dep rule k h = absurd (omega arith)
      go false false true none p dep rule k h = absurd (omega arith)
      go false false false true p dep rule k h = absurd (omega arith)
      go false false false false (pair a b) dep rule k h = ap₂ pair (sym (ap (λ (p : Paper). p.first) h)) (sym (ap (λ (p : Paper). p.second) h))
      go false false false false no_pair true rule k h = absurd (omega arith)
      go false false false false no_pair false true k h = absurd (omega arith)
      go false false false false no_pair false false k h = absurd (omega arith)

  pub check_pair : (s : Set) (vs room after : List ℕ) → RowsChecked s vs room (Err (Commuting i j)) after → FirstCommuting (modes s) i j
  unfolding rows_checked
  check_pair s vs room after h =
      let m = modes s in
      commuting_first m i j (pair_named (bad_size s.n s.q) (rows_short s vs room) (vacuum_bad s vs) false (commuting_pair m) (dependent m) (vacuum_rule m (bits s.q vs))
      (h.answer ∙ without_none (bad_size s.n s.q) (rows_short s vs room) (vacuum_bad s vs) _))

  pub new_pair : (s : Set) (vs room after left : List ℕ) → Makes s vs room (Err (Commuting i j)) after left → FirstCommuting (modes s) i j
  unfolding new_checked
  new_pair s vs room after left h =
      let m = modes s in
      commuting_first m i j
      (pair_named (bad_size s.n s.q) (rows_short s vs room) (bad_set s) (not (solvable m s.q)) (commuting_pair m) (dependent m) (vacuum_rule m (vacuum m s.q)) h.answer)

-- ---- the vacuum

pub found_least : (m : Modes) (q : ℕ) → solvable m q ≡ true → LeastVacuum m q (vacuum m q)
unfolding vacuum
found_least m q h = go (solving m q)
  where
    go : Solved m q → LeastVacuum m q (vacuum m q)
    go (least v l p e) = rw e (record {
      low = l.low;
      rule = l.passes;
      least = l.first;
      plain = p;
      only = λ u a b c. solved_unique m q u v a l.low b l.passes c p;
    })
    go (unmet f e) = let z : true ≡ false = sym h ∙ solvable_found m q ∙ ap is_found e in let o : ◌≡◌ {A = ℕ} 0 1 = cc in absurd (omega arith)

-- the string of a vacuum that was found and written
written_least : (s : Set) (vs after : List ℕ) → solvable (modes s) s.q ≡ true → after ≡ filled (width s) (vacuum (modes s) s.q) vs → LeastVacuum (modes s) s.q (bits s.q after)
written_least s vs after h e =
    let f = found_least (modes s) s.q h in
    rw (ap (bits s.q) e ∙ written_back s.q (vacuum (modes s) s.q) vs f.low) f

-- 12 was not given: a string meets the rule
solvable_passed : (size short bad some : Bool) (rules : List Rule) → 0 ≡ (first_of ((size gives 1) ∷ (short gives 2) ∷ (bad gives 17) ∷ (not some gives 12) ∷ rules)).number → some ≡ true
solvable_passed true short bad some rules h = absurd (omega arith)
solvable_passed false true bad some rules h = absurd (omega arith)
solvable_passed false false true some rules h = absurd (omega arith)
solvable_passed false false false true rules h = refl
solvable_passed false false false false rules h = absurd (omega arith)

pub solve_least : (s : Set) (vs room after left : List ℕ) → Solves s vs room (Ok tt) after left → LeastVacuum (modes s) s.q (bits s.q after)
unfolding solved
solve_least s vs room after left h =
    let m = modes s in
    written_least s vs after (solvable_passed (bad_size s.n s.q) (solve_short s vs room) (bad_set s) (solvable m s.q) [] (ap (λ (p : Paper). p.number) h.answer))
    (h.string ∙ ap (λ (p : Paper). on_done p (filled (width s) (vacuum m s.q) vs) vs) (sym h.answer))

pub new_least : (s : Set) (vs room after left : List ℕ) → Makes s vs room (Ok tt) after left → LeastVacuum (modes s) s.q (bits s.q after)
unfolding new_checked
new_least s vs room after left h =
    let m = modes s in
    let rules = (commuting_pair m names 10) ∷ (dependent m gives 11) ∷ (not (vacuum_rule m (vacuum m s.q)) gives 13) ∷ [] in
    written_least s vs after (solvable_passed (bad_size s.n s.q) (rows_short s vs room) (bad_set s) (solvable m s.q) rules (ap (λ (p : Paper). p.number) h.answer))
    (h.string ∙ ap (λ (p : Paper). on_done p (filled (width s) (vacuum m s.q) vs) vs) (sym h.answer))
