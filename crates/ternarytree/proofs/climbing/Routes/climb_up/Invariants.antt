-- `climb_up` meets its contract: the steps that are left lead from `at`, from which i hangs, to where n steps lead from i.
use Rattle.std.proofs.Common.{◌≡◌, ◌≤◌, ◌<◌}
use Rattle.trees.specs.Trees.{Tree, climb}
use Rattle.trees.specs.Hanging.{Hangs}
use Rattle.ternarytree.specs.Tables.{Links}
use Rattle.ternarytree.proofs.climbing.Routes.climb_up.Given as goal

abbrev pub invariant-loop-left : goal.invariant-loop-left
invariant-loop-left l =
    (l.at < l.self.n) × (l.left ≤ l.self.n)
    × ((t : Tree) → Links t l.self.n l.self.ways → Hangs t l.at l.i × (climb t l.self.n l.i ≡ climb t l.left l.at))

abbrev pub decreases-loop-left : goal.decreases-loop-left
decreases-loop-left l = l.left
