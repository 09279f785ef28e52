-- `vacuum::load_equations` meets its contract: the equations below i are loaded, and what is behind all of them stays.
use Prim.Native.Nat.{◌+◌}
use native.Mathlib.Omega.{arith}
use Rattle.majorana.specs.Rooms.{equation_of}
use Rattle.majorana.proofs.CheckLaws.{fill_next}
use Rattle.majorana.proofs.VacuumLaws.{length_equation}
use Rattle.majorana.proofs.vacuum.load_equations.Goals as goal

pub loop-i-preserved : goal.loop-i-preserved
loop-i-preserved c =
    let l = c.loop-i in
    let r = c.args.rows.now in
    let s = r.set in
    let f = equation_of s.modes r.w s.x.now s.z.now s.phases.now in
    rw c.load_equation.ensures (fill_next l.i s.modes (r.w + 1) f c.args.room.now l.room (omega arith) c.requires
    (length_equation s.modes r.w s.x.now s.z.now s.phases.now l.i r.held.fits (omega arith)) l.invariant)
