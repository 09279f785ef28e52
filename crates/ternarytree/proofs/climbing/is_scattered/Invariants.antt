-- `is_scattered` meets its contract: the nodes before i hang from top, and so does node i if it hangs from one of them.
use Rattle.std.proofs.Common.{◌≡◌, ℕ, ◌<◌}
use Rattle.trees.specs.Trees.{Tree, climb}
use Rattle.ternarytree.specs.Tables.{Parents}
use Rattle.ternarytree.proofs.climbing.is_scattered.Given as goal

abbrev pub invariant-loop-i : goal.invariant-loop-i
invariant-loop-i l = (t : Tree) → Parents t l.tables.n l.tables.parents → (j : ℕ) → j < l.i → climb t l.tables.n j ≡ l.top
