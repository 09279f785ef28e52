-- Trees of n nodes, from 0, with an X, a Y and a Z slot each, and what refuses them. Slot k is the slot k mod 3 (0 is X, 1 is Y, 2 is Z) of node k / 3.
use Rattle.std.specs.Prelude.{ℕ, zero, suc, ◌+◌, ◌*◌, ◌/◌, ◌<◌, ◌≡◌, ◌≢◌, Bool, true, false, cond, not, ◌||◌, eqb, leb, ltb}
use Rattle.refusal.specs.Search.{some_below, Least, found, none, least_below}
pub use Rattle.trees.specs.declared.Child.{Child}
pub use Rattle.trees.specs.declared.Child.TheVariants.{Empty as empty, Node as node, XLeaf as xLeaf, YLeaf as yLeaf, Low as low}

-- ---- what a search found

abbrev pub some : Least → Bool
some (found k) = true
some none = false

abbrev pub is : ℕ → Least → Bool
is i (found k) = eqb i k
is i none = false

-- g of what was found, or a
abbrev pub onward : {A : Type 0} → Least → A → (ℕ → A) → A
onward (found k) a g = g k
onward none a g = a

-- ---- trees

-- the column of node i; what slot k holds
pub record Tree : Type 0 where
  pub n : ℕ
  pub qubit : ℕ → ℕ
  pub child : ℕ → Child

-- the node in a slot
abbrev pub node_of : Child → Least
node_of empty = none
node_of (node j) = found j
node_of (xLeaf i) = none
node_of (yLeaf i) = none
node_of low = none

-- slot k holds node j
abbrev pub Names : Tree → ℕ → ℕ → Type 0
Names t k j = node_of (t.child k) ≡ found j

-- every node that a slot holds is one of the n
unfoldable pub Closed : Tree → Type 0
Closed t = (k j : ℕ) → Names t k j → j < t.n

-- the row of the leaf in a slot: X leaf i gives row 2i, Y leaf i row 2i + 1
abbrev pub row_of : Child → Least
row_of empty = none
row_of (node j) = none
row_of (xLeaf i) = found (2 * i)
row_of (yLeaf i) = found (2 * i + 1)
row_of low = none

-- the first of the first b slots that holds node j, and the leaf of row m
unfoldable pub parent_in : Tree → ℕ → ℕ → Least
parent_in t b j = least_below b (λ k. is j (node_of (t.child k)))

unfoldable pub leaf_in : Tree → ℕ → ℕ → Least
leaf_in t b m = least_below b (λ k. is m (row_of (t.child k)))

-- the slot that holds node i
abbrev pub up : Tree → ℕ → Least
up t i = parent_in t (3 * t.n) i

-- the node that f steps up from node i lead to
unfoldable pub climb : Tree → ℕ → ℕ → ℕ
climb t zero i = i
climb t (suc f) i = onward (up t i) i (λ k. climb t f (k / 3))

-- ---- refusals

-- 7: a qubit has two entries
unfoldable pub twice_in : ℕ → (ℕ → ℕ) → Bool
twice_in n qubit = some_below n (λ j. some_below j (λ i. eqb (qubit i) (qubit j)))

abbrev pub twice : Tree → Bool
twice t = twice_in t.n t.qubit

-- a leaf of row m in slot k: 9 if m is at or above 2n, or used by an earlier slot
unfoldable pub leaf_fault : Tree → ℕ → ℕ → ℕ
leaf_fault t k m = cond (leb (2 * t.n) m) 9 (cond (some (leaf_in t k m)) 9 0)

-- what is wrong with slot k, by what it holds: 5 its own node, 6 a node that an earlier slot holds, 4, 9; 0 is nothing
unfoldable pub fault_of : Tree → ℕ → Child → ℕ
fault_of t k empty = 0
fault_of t k (node j) = cond (eqb j (k / 3)) 5 (cond (some (parent_in t k j)) 6 0)
fault_of t k (xLeaf i) = leaf_fault t k (2 * i)
fault_of t k (yLeaf i) = leaf_fault t k (2 * i + 1)
fault_of t k low = 4

abbrev pub fault : Tree → ℕ → ℕ
fault t k = fault_of t k (t.child k)

-- entry by entry, X, Y, Z: the fault of the first slot that has one
unfoldable pub first_fault : Tree → ℕ
first_fault t = onward (least_below (3 * t.n) (λ k. ltb 0 (fault t k))) 0 (fault t)

-- slot k is the first that has a fault, and that is the fault of the slots
pub record FirstAtFault (t : Tree) (k : ℕ) : Type 0 where
  pub slot : k < 3 * t.n
  pub at_fault : fault t k ≢ 0
  pub before : (j : ℕ) → j < k → fault t j ≡ 0
  pub number : first_fault t ≡ fault t k

-- 8: not all nodes hang from one root. n steps up lead from every node to the node to which they lead from node 0, and that has no parent
unfoldable pub scattered : Tree → Bool
scattered t = some_below t.n (λ i. not (eqb (climb t t.n i) (climb t t.n 0))) || some (up t (climb t t.n 0))

-- 9: a leaf is missing
unfoldable pub missing : Tree → Bool
missing t = some_below (2 * t.n) (λ m. not (some (leaf_in t (3 * t.n) m)))

-- the tests that every tree takes: 7; then 5, 6, 4 and 9 in the slots; then 8
pub record Passes (t : Tree) : Type 0 where
  pub once : twice t ≡ false
  pub faultless : first_fault t ≡ 0
  pub together : scattered t ≡ false
