-- `elimination::sweep` meets its contract: the rows passed are swept.
use Prim.Native.Nat.{◌<◌}
use Rattle.elimination.proofs.RoomLaws.{Sweeping}
use Rattle.elimination.proofs.sweep.Given as goal

abbrev pub invariant-loop-r : goal.invariant-loop-r
invariant-loop-r l = (l.s < l.r) × Sweeping l.rows l.width l.s l.p l.r l.initial.room l.room
