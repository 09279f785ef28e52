-- `elimination::some_zero` meets its contract: the rows below k decide.
use mathlib.Core.Path.{◌≡◌}
use Rattle.elimination.specs.Rooms.{row_at}
use Rattle.elimination.specs.Steps.{zero_among}
use Rattle.elimination.proofs.some_zero.Given as goal

abbrev pub invariant-loop-k : goal.invariant-loop-k
invariant-loop-k l = zero_among l.k (row_at l.width l.room) ≡ zero_among l.rows (row_at l.width l.room)
