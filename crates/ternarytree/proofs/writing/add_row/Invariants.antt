-- `add_row` meets its contract: what is written, and the row from letter l of node i up, make the row of slot k.
use Rattle.std.proofs.Common.{◌+◌, ◌-◌, ◌<◌}
use Rattle.dense_block.specs.Words.{value}
use Rattle.dense_block.proofs.Values.{Words}
use Rattle.trees.specs.Trees.{Tree}
use Rattle.ternarytree.specs.Tables.{Links, Columns}
use Rattle.ternarytree.proofs.RowSteps.{Left, row_left}
use Rattle.ternarytree.proofs.writing.add_row.Given as goal

abbrev pub invariant-loop : goal.invariant-loop
invariant-loop l = record {
  node : l.i < l.routes.n;
  letter : l.l < 3;
  phase : l.p < 4;
  x_words : Words l.x;
  z_words : Words l.z;
  left : (t : Tree) → Links t l.routes.n l.routes.ways → Columns t l.routes.n l.columns
      → Left t l.k (value l.initial.x) (value l.initial.z) l.p l.x l.z (row_left t (l.routes.n + 1 - l.counter) l.i l.l);
}
