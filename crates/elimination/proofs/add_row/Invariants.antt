-- `elimination::add_row` meets its contract: after i turns i words are added.
use Rattle.elimination.specs.Steps.{Added}
use Rattle.elimination.proofs.add_row.Given as goal

abbrev pub invariant-loop-i : goal.invariant-loop-i
invariant-loop-i l = Added l.from l.to l.i l.initial.room l.room
