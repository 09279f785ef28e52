-- What a tree that passes its tests gives: neither 10 nor 11 comes from a tree, 13 never from a naive one, and the named trees are done for every n; so every
-- occupation list encodes and decodes on them, and on a tree with leaves if 13 is not given. The Z chain of a naive tree's root ends empty.
use Prim.Native.Nat.{ℕ}
use mathlib.Core.Path.{◌≡◌}
use mathlib.Core.Bool.{Bool, true, false}
use Rattle.refusal.specs.Search.{no_pair}
use Rattle.algebra.specs.Modes.{vacuum_rule, Majorana, commuting_pair}
use Rattle.algebra.specs.Choices.{dependent}
use Rattle.algebra.specs.Faithful.{Faithful}
use Rattle.algebra.proofs.Pairs.{commuting_none}
use Rattle.algebra.proofs.Independence.{anticommuting_independent}
use Rattle.algebra.proofs.Demand3.{demand_3}
use Rattle.trees.specs.Trees.{Tree, missing, Closed, Passes}
use Rattle.trees.specs.Leaves.{EndsEmpty, rows}
use Rattle.trees.specs.Named.{Named, under, named_tree}
use Rattle.trees.specs.Hanging.{OneRoot}
use Rattle.trees.proofs.Sound.{sound}
use Rattle.trees.proofs.Naive.{naive_anticommute, root_ends_empty, naive_vacuum}
use Rattle.trees.proofs.WithLeaves.{leaves_anticommute}
use Rattle.trees.proofs.NamedTrees.{closed, growing, named_passes}

-- no pair of rows commutes, and they are independent
pub record Checked (leaves : Bool) (t : Tree) : Type 0 where
  pub majorana : Majorana (rows leaves t)
  pub no_pair_lem : commuting_pair (rows leaves t) ≡ no_pair
  pub independent : dependent (rows leaves t) ≡ false

checked : (leaves : Bool) (t : Tree) → Majorana (rows leaves t) → Checked leaves t
checked leaves t maj = record { majorana = maj; no_pair_lem = commuting_none (rows leaves t) maj; independent = anticommuting_independent (rows leaves t) maj }

-- with leaves: neither 10 nor 11
pub leaves_checked : (t : Tree) → Passes t → missing t ≡ false → Checked true t
leaves_checked t ok whole = checked true t (leaves_anticommute t whole ok)

-- done, with 13 not given either, every occupation list encodes and decodes
pub leaves_faithful : (t : Tree) → Passes t → missing t ≡ false → vacuum_rule (rows true t) 0 ≡ true → Faithful (rows true t) 0
leaves_faithful t ok whole rule = demand_3 (rows true t) 0 (leaves_checked t ok whole).majorana rule

-- ---- naive trees: neither 10, 11 nor 13

pub naive_checked : (t : Tree) → Passes t → Closed t → Checked false t
naive_checked t ok shut = checked false t (naive_anticommute t (sound t ok) shut)

pub naive_meets : (t : Tree) → Passes t → Closed t → vacuum_rule (rows false t) 0 ≡ true
naive_meets t ok shut = naive_vacuum t (sound t ok) shut

pub naive_faithful : (t : Tree) → Passes t → Closed t → Faithful (rows false t) 0
naive_faithful t ok shut = demand_3 (rows false t) 0 (naive_checked t ok shut).majorana (naive_meets t ok shut)

-- the Z chain of the root ends empty
pub root_chain_empty : (t : Tree) → Passes t → Closed t → (o : OneRoot t) → EndsEmpty t o.root
root_chain_empty t ok shut o = root_ends_empty t (sound t ok) shut o.root o.node o.parentless

-- ---- the named trees, for every n

pub named_closed : (tree : Named) (n : ℕ) → Closed (named_tree tree n)
named_closed tree n = closed (under tree) (growing tree) n

pub named_checked : (tree : Named) (n : ℕ) → Checked false (named_tree tree n)
named_checked tree n = naive_checked (named_tree tree n) (named_passes tree n) (named_closed tree n)

pub named_meets : (tree : Named) (n : ℕ) → vacuum_rule (rows false (named_tree tree n)) 0 ≡ true
named_meets tree n = naive_meets (named_tree tree n) (named_passes tree n) (named_closed tree n)

pub named_faithful : (tree : Named) (n : ℕ) → Faithful (rows false (named_tree tree n)) 0
named_faithful tree n = naive_faithful (named_tree tree n) (named_passes tree n) (named_closed tree n)
