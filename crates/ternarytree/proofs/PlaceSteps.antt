-- What is wrong with a slot by the tables of the parents and of the leaves, and the tables after it.
use Prim.Native.Nat.{ℕ, ◌+◌, ◌*◌, ◌/◌, ◌<◌, ◌≤◌}
use native.Mathlib.Omega.{arith}
use mathlib.Core.Path.{◌≡◌, refl}
use mathlib.Core.Logic.{◌≢◌}
use mathlib.Core.Bool.{true, false}
use mathlib.Core.List.{List}
use Rattle.std.specs.Prelude.{Option, Some}
use Rattle.std.specs.Option.{is_some}
use lib.ListN.{set, length}
use borrow.Author.Tests.{eq-eqb, ne_eqb, le-leb, lt-leb}
use Rattle.refusal.specs.Search.{found, none}
use Rattle.trees.specs.declared.Child.{Child}
use Rattle.trees.specs.declared.Child.TheVariants.{Node as node}
use Rattle.trees.specs.Trees.{is, node_of, row_of, Tree, parent_in, leaf_in, leaf_fault, fault_of}
use Rattle.ternarytree.specs.Tables.{at, Holds, Wired}
use Rattle.ternarytree.proofs.Codes.{held_some, held_none, skip, mark}

-- ---- a node

module _ (t : Tree) (n k j : ℕ) (ps : List (Option ℕ)) (e : t.child k ≡ node j) (h : j < n) (holds : Holds n (parent_in t k) ps) where
  pub own_node : j ≡ k / 3 → fault_of t k (node j) ≡ 5
  unfolding fault_of
  own_node s = rw (eq-eqb j (k / 3) s)

  pub taken_node : j ≢ k / 3 → is_some (at ps j) ≡ true → fault_of t k (node j) ≡ 6
  unfolding fault_of
  taken_node s g = rw (ne_eqb j (k / 3) s, held_some _ (parent_in t k j) (holds j h) g)

  pub new_node : j ≢ k / 3 → is_some (at ps j) ≡ false → fault_of t k (node j) ≡ 0
  unfolding fault_of
  new_node s g = rw (ne_eqb j (k / 3) s, held_none _ (parent_in t k j) (holds j h) g)

  pub node_marked : length ps ≡ 256 → n ≤ 256 → is_some (at ps j) ≡ false → Holds n (parent_in t (k + 1)) (set ps j (Some k))
  unfolding parent_in
  node_marked len l g =
      mark n (λ j k. is j (node_of (t.child k))) ps k holds j h (omega arith) g (rw e (eq-eqb j j refl)) (λ q ne. rw e (ne_eqb q j ne))

-- ---- a leaf

module _ (t : Tree) (n k m : ℕ) (ls : List (Option ℕ)) (size : t.n ≡ n) (e : row_of (t.child k) ≡ found m) (holds : Holds (2 * n) (leaf_in t k) ls) (l : m < 2 * n) where
  pub taken_leaf : is_some (at ls m) ≡ true → leaf_fault t k m ≡ 9
  unfolding leaf_fault
  taken_leaf g = rw (lt-leb (2 * t.n) m (omega arith), held_some _ (leaf_in t k m) (holds m l) g)

  pub new_leaf : is_some (at ls m) ≡ false → leaf_fault t k m ≡ 0
  unfolding leaf_fault
  new_leaf g = rw (lt-leb (2 * t.n) m (omega arith), held_none _ (leaf_in t k m) (holds m l) g)

  pub leaf_marked : length ls ≡ 512 → n ≤ 256 → is_some (at ls m) ≡ false → Holds (2 * n) (leaf_in t (k + 1)) (set ls m (Some k))
  unfolding leaf_in
  leaf_marked len b g =
      mark (2 * n) (λ m k. is m (row_of (t.child k))) ls k holds m l (omega arith) g (rw e (eq-eqb m m refl)) (λ q ne. rw e (ne_eqb q m ne))

pub far_leaf : (t : Tree) (k m : ℕ) → 2 * t.n ≤ m → leaf_fault t k m ≡ 9
unfolding leaf_fault
far_leaf t k m h = rw (le-leb (2 * t.n) m h)

-- ---- any slot

module _ (t : Tree) (n k : ℕ) (ps ls : List (Option ℕ)) (o : Child) (e : t.child k ≡ o) (w : Wired t n k ps ls) where
  no_parent : node_of o ≡ none → Holds n (parent_in t (k + 1)) ps
  unfolding parent_in
  no_parent h = skip n (λ j k. is j (node_of (t.child k))) ps k w.parents (λ q. rw (e, h))

  no_leaf : row_of o ≡ none → Holds (2 * n) (leaf_in t (k + 1)) ls
  unfolding leaf_in
  no_leaf h = skip (2 * n) (λ m k. is m (row_of (t.child k))) ls k w.leaves (λ q. rw (e, h))

  pub placed_nothing : node_of o ≡ none → row_of o ≡ none → Wired t n (k + 1) ps ls
  placed_nothing h g = record { size = w.size; parents = no_parent h; leaves = no_leaf g }

  pub placed_node : (ps' : List (Option ℕ)) → row_of o ≡ none → Holds n (parent_in t (k + 1)) ps' → Wired t n (k + 1) ps' ls
  placed_node ps' h p = record { size = w.size; parents = p; leaves = no_leaf h }

  pub placed_leaf : (ls' : List (Option ℕ)) → node_of o ≡ none → Holds (2 * n) (leaf_in t (k + 1)) ls' → Wired t n (k + 1) ps ls'
  placed_leaf ls' h l = record { size = w.size; parents = no_parent h; leaves = l }
