-- `put_rows` meets its contract: the rows before m are written.
use Rattle.std.proofs.Common.{ℕ}
use Rattle.trees.specs.Trees.{Tree}
use Rattle.ternarytree.specs.Tables.{Parents, Columns, Slots, RowsWritten}
use Rattle.ternarytree.proofs.writing.put_rows.Given as goal

abbrev pub invariant-loop-m : goal.invariant-loop-m
invariant-loop-m l =
    (t : Tree) (slot : ℕ → ℕ) → Parents t l.tables.n l.tables.parents → Columns t l.tables.n l.columns
    → Slots slot l.tables.n l.tables.slots
    → RowsWritten t slot l.m l.w l.initial.x l.initial.z l.initial.phases l.x l.z l.phases
