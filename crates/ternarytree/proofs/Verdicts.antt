-- The number of the first test that a tree fails, in the table of the refusals: it stands there before the row check; and where no test fails only 13 can be answered.
use Prim.Native.Nat.{ℕ, zero, suc, ◌+◌, ◌*◌, ◌/◌, ◌<◌}
use native.Mathlib.Omega.{arith}
use mathlib.Core.Path.{◌≡◌, refl, sym, ap, subst, ◌∙◌}
use mathlib.Core.Logic.{◌≢◌}
use mathlib.Core.Bool.{Bool, true, false, cond, not, ◌&&◌}
use mathlib.Core.List.{List, ◌∷◌}
use borrow.Author.Tests.{lt-ltb, ne_eqb}
use lib.Dec.{eqb, leb, ltb}
use Rattle.refusal.specs.Numbers.{Paper, bare, paper, Answer}
use Rattle.std.specs.Prelude.{Option, Err}
use Rattle.refusal.specs.declared.Refusal.{Refusal}
use Rattle.refusal.proofs.Outcome.{refused_number}
use Rattle.refusal.specs.Search.{Least, found, none, least_below}
use Rattle.refusal.specs.Table.{Rule, ◌gives◌, first_of}
use Rattle.refusal.proofs.Bools.{never}
use Rattle.trees.specs.declared.Child.{Child}
use Rattle.trees.specs.declared.Child.TheVariants.{Empty as empty, Node as node, XLeaf as xLeaf, YLeaf as yLeaf, Low as low}
use Rattle.trees.specs.Trees.{some, onward, Tree, parent_in, leaf_in, twice, leaf_fault, fault_of, fault, first_fault, scattered, missing, Closed, Passes}
use Rattle.trees.specs.Leaves.{slot_of, rows}
use Rattle.ternarytree.specs.Building.{settled, row_checks, tree_checks}
use Rattle.ternarytree.specs.Tables.{Wired, Slots, slot_verdict, verdict, rows_answer, TreeBuilt}
use Rattle.trees.proofs.Fit.{Checked, leaves_checked, naive_checked}
use Rattle.ternarytree.proofs.ChainSteps.{named_slots}

-- ---- the numbers that a slot can give

abbrev nine : Bool → Bool → ℕ
nine a b = cond a 9 (cond b 9 0)

abbrev five : Bool → Bool → ℕ
five a b = cond a 5 (cond b 6 0)

leaf_number : (t : Tree) (k m : ℕ) → leaf_fault t k m ≢ 0 → leaf_fault t k m ≡ 9
unfolding leaf_fault
leaf_number t k m = go (leb (2 * t.n) m) (some (leaf_in t k m))
  where
    go : (a b : Bool) → nine a b ≢ 0 → nine a b ≡ 9
    go true b h = refl
    go false true h = refl
    go false false h = absurd (h refl)

-- past 3 and before 10
abbrev Between : ℕ → Type 0
Between k = (3 < k) × (k < 10)

slot_number_lem : (t : Tree) (k : ℕ) (o : Child) → fault_of t k o ≢ 0 → Between (fault_of t k o)
unfolding fault_of
slot_number_lem t k empty h = absurd (h refl)
slot_number_lem t k (node j) h = go (eqb j (k / 3)) (some (parent_in t k j)) h
  where
    go : (a b : Bool) → five a b ≢ 0 → Between (five a b)
    go true b h = (omega arith, omega arith)
    go false true h = (omega arith, omega arith)
    go false false h = absurd (h refl)
slot_number_lem t k (xLeaf i) h = rw (leaf_number t k (2 * i) h) (omega arith, omega arith)
slot_number_lem t k (yLeaf i) h = rw (leaf_number t k (2 * i + 1) h) (omega arith, omega arith)
slot_number_lem t k low h = (omega arith, omega arith)

pub fault_number : (t : Tree) → first_fault t ≢ 0 → Between (first_fault t)
unfolding first_fault
fault_number t = go (least_below (3 * t.n) (λ k. ltb 0 (fault t k)))
  where
    go : (o : Least) → onward o 0 (fault t) ≢ 0 → Between (onward o 0 (fault t))
    go (found k) h = slot_number_lem t k (t.child k) h
    go none h = absurd (h refl)

-- ---- the tests before the row check

abbrev number : Bool → ℕ → Bool → Bool → ℕ
number tw ff sc lm = cond (ltb 0 (cond tw 7 ff)) (cond tw 7 ff) (cond sc 8 (cond lm 9 0))

module _ (leaves : Bool) (t : Tree) where
  pub verdict_number : verdict leaves t ≢ 0 → Between (verdict leaves t)
  unfolding verdict slot_verdict
  verdict_number = go (twice t) (first_fault t) (scattered t) (leaves && missing t) (fault_number t)
    where
      go : (tw : Bool) (ff : ℕ) (sc lm : Bool) → (ff ≢ 0 → Between ff) → number tw ff sc lm ≢ 0 → Between (number tw ff sc lm)
      go true ff sc lm f h = (omega arith, omega arith)
      go false zero true lm f h = (omega arith, omega arith)
      go false zero false true f h = (omega arith, omega arith)
      go false zero false false f h = absurd (h refl)
      go false (suc k) sc lm f h = rw (lt-ltb 0 (suc k) (omega arith)) (f (λ e. omega arith))

  pub verdict_refuses : verdict leaves t ≢ 0 → first_of (tree_checks leaves t) ≡ bare (verdict leaves t)
  unfolding verdict slot_verdict
  verdict_refuses = go (twice t) (first_fault t) (scattered t) (leaves && missing t) (row_checks (rows leaves t) 0)
    where
      go : (tw : Bool) (ff : ℕ) (sc lm : Bool) (rest : List Rule) → number tw ff sc lm ≢ 0
          → first_of ((tw gives 7) ∷ (ltb 0 ff gives ff) ∷ (sc gives 8) ∷ (lm gives 9) ∷ rest) ≡ bare (number tw ff sc lm)
      go true ff sc lm rest h = refl
      go false zero true lm rest h = refl
      go false zero false true rest h = refl
      go false zero false false rest h = absurd (h refl)
      go false (suc k) sc lm rest h = rw (lt-ltb 0 (suc k) (omega arith))

  -- what it is to pass them
  pub record Passed : Type 0 where
    pub passes : Passes t
    pub whole : (leaves && missing t) ≡ false

  pub verdict_passes : verdict leaves t ≡ 0 → Passed
  unfolding verdict slot_verdict
  verdict_passes h =
      let (a, b, c, d) = go (twice t) (first_fault t) (scattered t) (leaves && missing t) h in
      record { passes = record { once = a; faultless = b; together = c }; whole = d }
    where
      go : (tw : Bool) (ff : ℕ) (sc lm : Bool) → number tw ff sc lm ≡ 0 → (tw ≡ false) × (ff ≡ 0) × (sc ≡ false) × (lm ≡ false)
      go true ff sc lm h = absurd (omega arith)
      go false zero true lm h = absurd (omega arith)
      go false zero false true h = absurd (omega arith)
      go false zero false false h = (refl, refl, refl, refl)
      go false (suc k) sc lm h = let e = rw (lt-ltb 0 (suc k) (omega arith)) at h in absurd (omega arith)

  -- past them, and with neither 10 nor 11, only 13 can come
  pub passed_rows : Passed → Checked leaves t → first_of (tree_checks leaves t) ≡ rows_answer (rows leaves t)
  passed_rows p c = rw (p.passes.once, p.passes.faultless, p.passes.together, p.whole, c.no_pair_lem, c.independent)

pub passed_checked : (leaves : Bool) (t : Tree) → Closed t → Passed leaves t → Checked leaves t
passed_checked true t shut p = leaves_checked t p.passes p.whole
passed_checked false t shut p = naive_checked t p.passes shut

-- ---- a refusal of these numbers changes no output

pub unsettled : {A : Type 0} (k : ℕ) (new zeros old : A) → 3 < k → k < 10 → settled (bare k) new zeros old ≡ old
unsettled zero new zeros old h g = absurd (omega arith)
unsettled (suc k) new zeros old h g = rw (ne_eqb (suc k) 13 (λ e. omega arith))

-- what building leaves of a tree that fails a test
pub tree_refused : (leaves : Bool) (t : Tree) (w : ℕ) (xs zs qs vs : List ℕ) (why : Refusal) → paper why ≡ bare (verdict leaves t)
    → TreeBuilt (first_of (tree_checks leaves t)) w (rows leaves t) xs zs qs vs (Err why) xs zs qs vs
tree_refused leaves t w xs zs qs vs why h =
    let no : verdict leaves t ≢ 0 = λ z. refused_number why (ap (λ (p : Paper). p.number) h ∙ z) in
    let a = verdict_refuses leaves t no in
    let b = verdict_number leaves t no in
    record {
      told = h ∙ sym a;
      x_parts = stays _ _ xs a b;
      z_parts = stays _ _ zs a b;
      phases = stays _ _ qs a b;
      vacuum = stays _ _ vs a b;
    }
  where
    stays : (new zeros old : List ℕ) → first_of (tree_checks leaves t) ≡ bare (verdict leaves t) → Between (verdict leaves t) → old ≡ settled (first_of (tree_checks leaves t)) new zeros old
    stays new zeros old a b = sym (ap (λ (p : Paper). settled p new zeros old) a ∙ unsettled (verdict leaves t) new zeros old b.0 b.1)

-- and of one that passes them
pub tree_passed : (leaves : Bool) (t : Tree) (w : ℕ) (xs zs qs vs : List ℕ) (r : Answer) (xs' zs' qs' vs' : List ℕ) → Closed t → Passed leaves t
    → TreeBuilt (rows_answer (rows leaves t)) w (rows leaves t) xs zs qs vs r xs' zs' qs' vs' → TreeBuilt (first_of (tree_checks leaves t)) w (rows leaves t) xs zs qs vs r xs' zs' qs' vs'
tree_passed leaves t w xs zs qs vs r xs' zs' qs' vs' shut p h =
    subst (λ (a : Paper). TreeBuilt a w (rows leaves t) xs zs qs vs r xs' zs' qs' vs') (sym (passed_rows leaves t p (passed_checked leaves t shut p))) h

-- ---- the slots of the leaves

pub leaf_ends : (leaves : Bool) (t : Tree) (n : ℕ) (ps ls : List (Option ℕ)) → leaves ≡ true → Wired t n (3 * n) ps ls → verdict leaves t ≡ 0 → Slots (slot_of leaves t) n ls
leaf_ends true t n ps ls e w h = named_slots t n ps ls w (verdict_passes true t h).whole
leaf_ends false t n ps ls e w h = absurd (never e refl)

pub naive_ends : (leaves : Bool) (t : Tree) (n : ℕ) (ls : List (Option ℕ)) → not leaves ≡ true → Slots (slot_of false t) n ls → Slots (slot_of leaves t) n ls
naive_ends true t n ls e s = absurd (never e refl)
naive_ends false t n ls e s = s
