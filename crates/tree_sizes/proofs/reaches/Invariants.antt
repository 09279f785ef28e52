-- `tree_sizes::reaches` meets its contract: no entry before i reaches b.
use Rattle.std.proofs.Common.{◌≡◌, ℕ, ◌<◌, false, leb}
use Rattle.tree_sizes.specs.Sizes.{qubit_at}
use Rattle.tree_sizes.proofs.reaches.Given as goal

abbrev pub invariant-loop-i : goal.invariant-loop-i
invariant-loop-i l = (j : ℕ) → j < l.i → leb l.b (qubit_at l.entries j) ≡ false
