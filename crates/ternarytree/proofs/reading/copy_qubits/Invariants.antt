-- `copy_qubits` meets its contract: the entries before i are copied.
use Rattle.std.proofs.Common.{◌≡◌, ℕ, ◌<◌}
use Rattle.tree_sizes.specs.Sizes.{qubit_at}
use Rattle.ternarytree.specs.Tables.{nth}
use Rattle.ternarytree.proofs.reading.copy_qubits.Given as goal

abbrev pub invariant-loop-i : goal.invariant-loop-i
invariant-loop-i l = (j : ℕ) → j < l.i → nth l.columns j ≡ qubit_at l.e.numbers.now j
