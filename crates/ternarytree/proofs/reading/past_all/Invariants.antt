-- `past_all` meets its contract: top is past the qubits before i.
use Rattle.std.proofs.Common.{◌≡◌}
use Rattle.trees.specs.Flatpacks.{past}
use Rattle.tree_sizes.specs.Sizes.{qubit_at}
use Rattle.ternarytree.proofs.reading.past_all.Given as goal

abbrev pub invariant-loop-i : goal.invariant-loop-i
invariant-loop-i l = l.top ≡ past (qubit_at l.e.numbers.now) l.i
