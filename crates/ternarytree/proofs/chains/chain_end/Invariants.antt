-- `chain_end` meets its contract: the chain from slot s ends where that from slot k does.
use Rattle.std.proofs.Common.{◌≡◌, ◌-◌, ◌*◌, ◌<◌}
use Rattle.trees.specs.Trees.{Tree}
use Rattle.trees.specs.Leaves.{chain_end}
use Rattle.ternarytree.specs.Tables.{Children}
use Rattle.ternarytree.proofs.ChainSteps.{end_from}
use Rattle.ternarytree.proofs.chains.chain_end.Given as goal

abbrev pub invariant-loop : goal.invariant-loop
invariant-loop l =
    (l.s < 3 * l.n)
    × ((t : Tree) → Children t l.n (3 * l.n) l.children → chain_end t l.k ≡ end_from t (l.n - l.counter) l.s)
