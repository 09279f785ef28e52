-- `elimination::eliminate` meets its contract: the rows passed are settled.
use Prim.Native.Nat.{◌*◌}
use Rattle.elimination.proofs.RoomLaws.{Eliminating}
use Rattle.elimination.proofs.eliminate.Given as goal

abbrev pub invariant-loop-s : goal.invariant-loop-s
invariant-loop-s l = Eliminating (64 * l.words) l.rows l.width l.s l.initial.room l.room
