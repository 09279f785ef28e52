-- `enter` meets its contract: the table holds the entries before i, and none of them has the qubit of an earlier one.
use Rattle.std.proofs.Common.{◌≡◌, ℕ, ◌<◌, length, false, eqb}
use Rattle.refusal.specs.Search.{some_below}
use Rattle.trees.specs.Flatpacks.{entry_in}
use Rattle.tree_sizes.specs.Sizes.{qubit_at}
use Rattle.ternarytree.specs.Tables.{Holds}
use Rattle.ternarytree.proofs.reading.enter.Given as goal

abbrev pub invariant-loop-i : goal.invariant-loop-i
invariant-loop-i l =
    let qubit = qubit_at l.e.numbers.now in
    (length l.table ≡ 256) × Holds 256 (entry_in l.i qubit) l.table × ((j : ℕ) → j < l.i → some_below j (λ k. eqb (qubit k) (qubit j)) ≡ false)
