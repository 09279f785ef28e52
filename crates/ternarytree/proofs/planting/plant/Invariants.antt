-- `plant` meets its contract: the nodes before k are planted.
use Rattle.std.proofs.Common.{◌≡◌, length}
use Rattle.trees.specs.Named.{under}
use Rattle.trees.proofs.NamedTrees.{growing}
use Rattle.ternarytree.proofs.PlantSteps.{Planting}
use Rattle.ternarytree.proofs.planting.plant.Given as goal

abbrev pub invariant-loop-k : goal.invariant-loop-k
invariant-loop-k l =
    (l.tables.n ≡ l.initial.tables.n) × (length l.children ≡ 768)
    × Planting (under l.tree) (growing l.tree) l.tables.n l.columns l.tables.parents l.children l.k
