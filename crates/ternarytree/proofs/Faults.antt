-- What find_fault answers, and that building is refused by just that. Below, a call is its contract: `placed p ≡ fault_place ..` of find_fault with the place p,
-- `FlatBuilt` of from_flatpack and from_flatpack_naive.
--
-- In plain words: no input leaves find_fault two answers. Where it answers a slot, that slot has a fault and no slot before it has one; and building the same
-- flatpack, if it is not refused by 1, 2 or 3, is refused by the number of that fault. Where building is refused by a number from 4 to 9, either find_fault answers
-- the slot whose fault has that number, or it answers None and the cause stands in no slot: a qubit has two entries, not all nodes hang from one root, or a leaf
-- is missing.
--
-- The idea: both go by the least slot that has a fault, and what is least is first.
use Prim.Native.Nat.{ℕ, ◌*◌, ◌<◌}
use native.Mathlib.Omega.{arith}
use mathlib.Core.Path.{◌≡◌, refl, sym, ap, ◌∙◌}
use mathlib.Core.Logic.{◌≢◌}
use mathlib.Core.Bool.{Bool, true, false, cond, not, ◌&&◌}
use mathlib.Core.List.{List, [], ◌∷◌}
use borrow.Author.Tests.{lt-ltb}
use lib.Dec.{ltb}
use lib.ListN.{length}
use Rattle.refusal.specs.Numbers.{Paper, bare, Answer, answered}
use Rattle.refusal.specs.Search.{Least, found, none, least_below, Pair, pair, no_pair}
use Rattle.refusal.specs.Table.{◌gives◌, ◌names◌, first_of}
use Rattle.refusal.proofs.Bools.{or_left, or_right, and_left, and_right}
use Rattle.refusal.proofs.Outcome.{one_outcome}
use Rattle.algebra.specs.Modes.{vacuum_rule, commuting_pair}
use Rattle.algebra.specs.Choices.{dependent}
use Rattle.trees.specs.Trees.{onward, Tree, twice, fault, first_fault, FirstAtFault, scattered, missing}
use Rattle.trees.specs.Leaves.{rows}
use Rattle.trees.proofs.Findings.{found_none}
use Rattle.trees.proofs.Faults.{first_at_fault}
use Rattle.tree_sizes.specs.Sizes.{outside, reaches, unreadable}
use Rattle.std.specs.Prelude.{Option, Some, None}
use Rattle.ternarytree.specs.Building.{tree_checks, Input, flat, tree_of, bad_size, too_short, FlatBuilt, placed, fault_slot, fault_place, Cause, in_slot, second_entry, roots, missing_leaf}
use Rattle.ternarytree.proofs.Answers.{tested}

-- ---- one outcome is left

-- the place that a search stands for
abbrev place_of : Least → Option ℕ
place_of (found k) = Some k
place_of none = None

of_placed : (p : Option ℕ) → place_of (placed p) ≡ p
of_placed None = refl
of_placed (Some k) = refl

pub fault_outcome : (leaves : Bool) (n : ℕ) (es : List ℕ) (fs : List Bool) (p q : Option ℕ) → placed p ≡ fault_place leaves n es fs → placed q ≡ fault_place leaves n es fs → p ≡ q
fault_outcome leaves n es fs p q h k = sym (of_placed p) ∙ ap place_of (one_outcome h k) ∙ of_placed q

-- ---- the slot at fault

module _ (t : Tree) where
  -- a slot is answered only if no qubit has two entries
  fault_searched : (k : ℕ) → fault_slot t ≡ found k → (twice t ≡ false) × (least_below (3 * t.n) (λ k. ltb 0 (fault t k)) ≡ found k)
  unfolding fault_slot
  fault_searched k = go (twice t)
    where
      go : (b : Bool) → cond b none (least_below (3 * t.n) (λ k. ltb 0 (fault t k))) ≡ found k → (b ≡ false) × (least_below (3 * t.n) (λ k. ltb 0 (fault t k)) ≡ found k)
      go true h = absurd (found_none h refl)
      go false h = (refl, h)

  pub first_fault_slot : (k : ℕ) → fault_slot t ≡ found k → FirstAtFault t k
  first_fault_slot k h = first_at_fault t k (fault_searched k h).1

  -- its fault is the tree's answer
  pub slot_refuses : (leaves : Bool) (k : ℕ) → fault_slot t ≡ found k → first_of (tree_checks leaves t) ≡ bare (fault t k)
  slot_refuses leaves k h =
      let f = first_fault_slot k h in
      rw ((fault_searched k h).0, f.number, lt-ltb 0 (fault t k) (omega (arith, f.at_fault)))

  -- a number from 4 to 9 is the fault of the slot at fault, or has a cause that stands in no slot
  pub refusal_cause : (leaves : Bool) → 3 < (first_of (tree_checks leaves t)).number → (first_of (tree_checks leaves t)).number < 10 → Cause leaves t (fault_slot t) (first_of (tree_checks leaves t)).number
  unfolding first_fault fault_slot
  refusal_cause leaves =
      go (twice t) (least_below (3 * t.n) (λ k. ltb 0 (fault t k))) (scattered t) (leaves && missing t) (commuting_pair (rows leaves t)) (dependent (rows leaves t)) (vacuum_rule (rows leaves t) 0) refl refl refl refl
    where
      go : (tw : Bool) (o : Least) (sc lm : Bool) (commute : Pair) (dep rule : Bool)
          → twice t ≡ tw → least_below (3 * t.n) (λ k. ltb 0 (fault t k)) ≡ o → scattered t ≡ sc → (leaves && missing t) ≡ lm
          → let number = (first_of ((tw gives 7) ∷ (ltb 0 (onward o 0 (fault t)) gives onward o 0 (fault t)) ∷ (sc gives 8) ∷ (lm gives 9) ∷ (commute names 10) ∷ (dep gives 11) ∷ (not rule gives 13) ∷ [])).number in
          3 < number → number < 10 → Cause leaves t (cond tw none o) number
      go true o sc lm commute dep rule a b c d h l = second_entry refl refl a
      go false (found k) sc lm commute dep rule a b c d h l =
          let f = first_at_fault t k b in
          rw (lt-ltb 0 (fault t k) (omega (arith, f.at_fault))) (in_slot k refl refl)
      go false none true lm commute dep rule a b c d h l = roots refl refl c
      go false none false true commute dep rule a b c d h l = missing_leaf refl refl (and_left leaves (missing t) d) (and_right leaves (missing t) d)
      go false none false false (pair i j) dep rule a b c d h l = absurd (omega arith)
      go false none false false no_pair true rule a b c d h l = absurd (omega arith)
      go false none false false no_pair false true a b c d h l = absurd (omega arith)
      go false none false false no_pair false false a b c d h l = absurd (omega arith)

-- ---- at the calls

fault_read : (leaves : Bool) (n : ℕ) (es : List ℕ) (fs : List Bool) (k : ℕ) → fault_place leaves n es fs ≡ found k → fault_slot (flat leaves n es fs) ≡ found k
unfolding fault_place
fault_read leaves n es fs k = go (unreadable n es fs)
  where
    go : (b : Bool) → cond b none (fault_slot (flat leaves n es fs)) ≡ found k → fault_slot (flat leaves n es fs) ≡ found k
    go true h = absurd (found_none h refl)
    go false h = h

-- where find_fault answers a slot, it is the first that has a fault
pub fault_first : (leaves : Bool) (n : ℕ) (es : List ℕ) (fs : List Bool) (p : Option ℕ) (k : ℕ) → placed p ≡ fault_place leaves n es fs → p ≡ Some k → FirstAtFault (flat leaves n es fs) k
fault_first leaves n es fs p k h e = first_fault_slot (flat leaves n es fs) k (fault_read leaves n es fs k (sym h ∙ ap placed e))

-- what building takes past 1 and 2 can be read
reads : (i : Input) → bad_size i ≡ false → too_short i ≡ false → fault_place i.leaves i.n i.es i.fs ≡ fault_slot (tree_of i)
unfolding fault_place unreadable bad_size too_short
reads i size long =
    let entries : ltb (length i.es) (4 * i.n) ≡ false = or_left _ _ long in
    let rest = or_right (ltb (length i.es) (4 * i.n)) _ long in
    let places : ltb (length i.fs) (3 * i.n) ≡ false = or_left _ _ rest in
    rw (or_left (outside i.n) _ size, entries, places, or_right (outside i.q) (reaches i.es i.n 256) (or_right (outside i.n) _ size))

module _ (i : Input) (r : Answer) (xs zs ps vs room : List ℕ) (b : FlatBuilt i r xs zs ps vs room) (p : Option ℕ) (h : placed p ≡ fault_place i.leaves i.n i.es i.fs) where
  -- building that gets past 1, 2 and 3 is refused by the fault of the slot that find_fault answers
  pub fault_told : (k : ℕ) → p ≡ Some k → (answered r).number ≢ 1 → (answered r).number ≢ 2 → (answered r).number ≢ 3 → answered r ≡ bare (fault (tree_of i) k)
  fault_told k e one two three =
      let t = tested i (rw b.told at one) (rw b.told at two) (rw b.told at three) in
      b.told ∙ t.by_tree ∙ slot_refuses (tree_of i) i.leaves k (fault_read i.leaves i.n i.es i.fs k (sym h ∙ ap placed e))

  -- and a refusal by 4 to 9 is by that fault, or find_fault answers None
  pub fault_cause : 3 < (answered r).number → (answered r).number < 10 → Cause i.leaves (tree_of i) (placed p) (answered r).number
  fault_cause low high =
      let e = ap (λ (p : Paper). p.number) b.told in
      let t = tested i (λ z. omega arith) (λ z. omega arith) (λ z. omega arith) in
      let same : (answered r).number ≡ (first_of (tree_checks i.leaves (tree_of i))).number = e ∙ ap (λ (p : Paper). p.number) t.by_tree in
      rw (h ∙ reads i t.size t.long, same) (refusal_cause (tree_of i) i.leaves (omega arith) (omega arith))
