-- `naive_slots` meets its contract: the rows before m have their slots.
use Rattle.std.proofs.Common.{◌≡◌, ℕ, ◌*◌, ◌<◌, false}
use Rattle.std.specs.Prelude.{Some}
use Rattle.trees.specs.Trees.{Tree}
use Rattle.trees.specs.Leaves.{slot_of}
use Rattle.ternarytree.specs.Tables.{at, Children}
use Rattle.ternarytree.proofs.chains.naive_slots.Given as goal

abbrev pub invariant-loop-m : goal.invariant-loop-m
invariant-loop-m l = record {
  nodes : l.tables.n ≡ l.initial.tables.n;
  parents : l.tables.parents ≡ l.initial.tables.parents;
  slots : (t : Tree) → Children t l.tables.n (3 * l.tables.n) l.children
      → ((j : ℕ) → j < l.m → at l.tables.slots j ≡ Some (slot_of false t j)) × ((j : ℕ) → j < l.m → slot_of false t j < 3 * l.tables.n);
}
