-- Flatpacks, read with leaves or naive.
use Rattle.std.specs.Prelude.{ℕ, zero, suc, ◌+◌, ◌-◌, ◌/◌, ◌%◌, max, Bool, cond, Option, Some, None, eqb, leb}
use Rattle.refusal.specs.Search.{Least, found, none, least_below}
use Rattle.trees.specs.Trees.{Child, empty, node, xLeaf, yLeaf, low, Tree}

-- n entries; entry i has a qubit number and the slots 3i (X), 3i + 1 (Y) and 3i + 2 (Z), each empty (None) or a number
pub record Flatpack : Type 0 where
  pub n : ℕ
  pub qubit : ℕ → ℕ
  pub slot : ℕ → Option ℕ

-- the entry of qubit q
unfoldable pub entry_in : ℕ → (ℕ → ℕ) → ℕ → Least
entry_in n qubit q = least_below n (λ i. eqb (qubit i) q)

-- one more than the largest of the first k qubits
unfoldable pub past : (ℕ → ℕ) → ℕ → ℕ
past qubit zero = 0
past qubit (suc k) = max (past qubit k) (qubit k + 1)

-- m even is X leaf m / 2, odd is Y leaf (m - 1) / 2
unfoldable pub leaf_numbered : ℕ → Child
leaf_numbered m = cond (eqb (m % 2) 0) (xLeaf (m / 2)) (yLeaf ((m - 1) / 2))

-- a number that is no entry's qubit: with leaves subtract (largest qubit + 1) to get m, and it is low if that cannot be; naive it is ignored
abbrev pub unnamed : Bool → ℕ → ℕ → Child
unnamed leaves top q = cond leaves (cond (leb top q) (leaf_numbered (q - top)) low) empty

-- a number that is some entry's qubit is a node
abbrev pub named : Least → Child → Child
named (found j) other = node j
named none other = other

unfoldable pub child_of : Bool → Flatpack → Option ℕ → Child
child_of leaves c None = empty
child_of leaves c (Some q) = named (entry_in c.n c.qubit q) (unnamed leaves (past c.qubit c.n) q)

abbrev pub flat_tree : Bool → Flatpack → Tree
flat_tree leaves c = record { n = c.n; qubit = c.qubit; child = λ k. child_of leaves c (c.slot k) }
