-- Where the leaves are, and the rows of a tree. Row m is that of X leaf m / 2 if m is even, of Y leaf m / 2 if it is odd.
use Rattle.std.specs.Prelude.{ℕ, zero, suc, ◌+◌, ◌*◌, ◌/◌, ◌%◌, ◌<◌, ◌≡◌, ◌≢◌, Bool, false, cond}
use Rattle.refusal.specs.Search.{none}
use Rattle.algebra.specs.Modes.{Modes}
use Rattle.trees.specs.Trees.{Tree, node_of, leaf_in, onward}
use Rattle.trees.specs.Paths.{row_at}

-- with leaves: the slot that holds the leaf of row m
unfoldable pub named_slot : Tree → ℕ → ℕ
named_slot t m = onward (leaf_in t (3 * t.n) m) 0 (λ k. k)

-- the last slot of the Z chain that starts at node j
unfoldable pub z_end : Tree → ℕ → ℕ → ℕ
z_end t zero j = 3 * j + 2
z_end t (suc f) j = onward (node_of (t.child (3 * j + 2))) (3 * j + 2) (λ i. z_end t f i)

-- naive: the end of the Z chain that starts at the node in slot k, or slot k itself if no node is there
unfoldable pub chain_end : Tree → ℕ → ℕ
chain_end t k = onward (node_of (t.child k)) k (λ j. z_end t t.n j)

-- X leaf i belongs to node i's X slot, Y leaf i to its Y slot
abbrev pub naive_slot : Tree → ℕ → ℕ
naive_slot t m = chain_end t (3 * (m / 2) + m % 2)

-- the slot of row m's leaf, with leaves or naive
unfoldable pub slot_of : Bool → Tree → ℕ → ℕ
slot_of leaves t m = cond leaves (named_slot t m) (naive_slot t m)

-- naive: the Z chain that starts at node r, which stands in no slot, ends empty. Its end is one of the tree's slots, and holds neither a node nor the leaf of a row
pub record EndsEmpty (t : Tree) (r : ℕ) : Type 0 where
  pub slot : z_end t t.n r < 3 * t.n
  pub no_node : node_of (t.child (z_end t t.n r)) ≡ none
  pub no_leaf : (m : ℕ) → m < 2 * t.n → slot_of false t m ≢ z_end t t.n r

-- the rows of a tree, with leaves or naive
abbrev pub rows : Bool → Tree → Modes
rows leaves t = record { n = t.n; row = λ m. row_at t (slot_of leaves t m) }
