-- A tree with leaves that passes its tests has a slot for each row's leaf, and rows that anticommute.
use Prim.Native.Nat.{ℕ, ◌*◌, ◌<◌}
use mathlib.Core.Path.{◌≡◌, refl, ap, ◌∙◌, sym}
use mathlib.Core.Bool.{true, false, not}
use Rattle.refusal.specs.Search.{Least, found, none}
use Rattle.refusal.proofs.Bools.{never}
use Rattle.refusal.proofs.Searches.{none_at, least_found}
use Rattle.algebra.specs.Modes.{Majorana}
use Rattle.trees.specs.Trees.{Child, empty, node, xLeaf, yLeaf, low, some, is, onward, Tree, node_of, row_of, leaf_in, missing, Passes}
use Rattle.trees.specs.Leaves.{named_slot, slot_of, rows}
use Rattle.trees.proofs.Findings.{is_found}
use Rattle.trees.proofs.Sound.{sound}
use Rattle.trees.proofs.Above.{slots_anticommute}

leaf_no_node : (o : Child) (m : ℕ) → row_of o ≡ found m → node_of o ≡ none
leaf_no_node empty m h = refl
leaf_no_node (node j) m h = cc
leaf_no_node (xLeaf i) m h = refl
leaf_no_node (yLeaf i) m h = refl
leaf_no_node low m h = refl

module _ (t : Tree) (whole : missing t ≡ false) where
  -- the leaf of row m has a slot, which holds it
  pub leaf_slot : (m : ℕ) → m < 2 * t.n → (leaf_in t (3 * t.n) m ≡ found (named_slot t m)) × (named_slot t m < 3 * t.n) × (row_of (t.child (named_slot t m)) ≡ found m)
  unfolding missing named_slot leaf_in
  leaf_slot m h = go (leaf_in t (3 * t.n) m) refl (none_at (2 * t.n) (λ m. not (some (leaf_in t (3 * t.n) m))) whole m h)
    where
      go : (o : Least) → leaf_in t (3 * t.n) m ≡ o → not (some o) ≡ false → (o ≡ found (onward o 0 (λ k. k))) × (onward o 0 (λ k. k) < 3 * t.n) × (row_of (t.child (onward o 0 (λ k. k))) ≡ found m)
      go (found k) e f = let r = least_found (3 * t.n) (λ k. is m (row_of (t.child k))) k e in (refl, r.low, is_found m _ r.passes)
      go none e f = absurd (never refl f)

  pub leaves_anticommute : Passes t → Majorana (rows true t)
  unfolding Majorana slot_of
  leaves_anticommute ok j k hj hk ne =
      let a = leaf_slot j hj in
      let b = leaf_slot k hk in
      slots_anticommute t (sound t ok) (named_slot t j) (named_slot t k) a.1 b.1 (leaf_no_node (t.child (named_slot t j)) j a.2) (leaf_no_node (t.child (named_slot t k)) k b.2)
      (λ e. ne (same a.2 b.2 e))
    where
      same : row_of (t.child (named_slot t j)) ≡ found j → row_of (t.child (named_slot t k)) ≡ found k → named_slot t j ≡ named_slot t k → j ≡ k
      same p q e = let r : found j ≡ found k = sym p ∙ ap (λ (k : ℕ). row_of (t.child k)) e ∙ q in cc
