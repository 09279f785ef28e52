-- `vacuum::load_equations` meets its contract: the equations below i are loaded, and what is behind all of them stays.
use Prim.Native.Nat.{◌+◌}
use Rattle.majorana.specs.Rooms.{equation_of}
use Rattle.majorana.proofs.CheckLaws.{Filled}
use Rattle.majorana.proofs.vacuum.load_equations.Given as goal

abbrev pub invariant-loop-i : goal.invariant-loop-i
invariant-loop-i l =
    Filled l.i l.rows.set.modes (l.rows.w + 1)
    (equation_of l.rows.set.modes l.rows.w l.rows.set.x.now l.rows.set.z.now l.rows.set.phases.now) l.initial.room l.room
