-- For the private functions, and needs no belief: the tree of the entries that are read, what reading them answers, and what the tables hold.
use Rattle.std.specs.Prelude.{ℕ, List, Option, ◌*◌, ◌≡◌, Result, Ok, Err}
use Rattle.refusal.specs.Numbers.{Paper, bare, paper}
use Rattle.refusal.specs.Search.{Least, none}
use Rattle.trees.specs.Trees.{Tree}
use Rattle.ternarytree.specs.declared.entries.Entries.{Entries}
use Rattle.ternarytree.specs.declared.reading.Fault.{Fault}
use Rattle.ternarytree.specs.declared.tables.Tables.{Tables}
use Rattle.ternarytree.specs.Building.{flat, placed}
use Rattle.ternarytree.specs.Tables.{Blank, Wired, Children}

abbrev pub read : Entries → Tree
read e = flat e.leaves e.n e.numbers.now e.filled.now

-- what reading the slots answered, in numbers, and the slot that it named
abbrev pub told : Result (Unit {0}) Fault → Paper
told (Ok a) = bare 0
told (Err f) = paper f.why

abbrev pub slot_told : Result (Unit {0}) Fault → Least
slot_told (Ok a) = none
slot_told (Err f) = placed f.slot

-- tables for n nodes with nothing in them
pub record Fresh (n : ℕ) (tables : Tables) : Type 0 where
  pub nodes : tables.n ≡ n
  pub parents : Blank 256 tables.parents
  pub slots : Blank 512 tables.slots

-- the slots of a tree's nodes and leaves, and the nodes in its slots, are in the tables
pub record Filled (t : Tree) (n : ℕ) (parents children slots : List (Option ℕ)) : Type 0 where
  pub wired : Wired t n (3 * n) parents slots
  pub nodes : Children t n (3 * n) children
