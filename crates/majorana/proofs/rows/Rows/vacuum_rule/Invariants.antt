-- `Rows::vacuum_rule` meets its contract: the modes from the highest, and what is left decides.
use mathlib.Core.Path.{◌≡◌}
use Rattle.refusal.specs.Search.{all_below}
use Rattle.algebra.specs.Modes.{empty, vacuum_rule}
use Rattle.dense_block.specs.Words.{value}
use Rattle.majorana.specs.HeldRows.{modes_of}
use Rattle.majorana.proofs.rows.Rows.vacuum_rule.Given as goal

abbrev pub invariant-loop-i : goal.invariant-loop-i
invariant-loop-i l =
    vacuum_rule (modes_of l.self) (value l.v) ≡ all_below l.i (λ k. empty (modes_of l.self) k (value l.v))
