-- `elimination::add_row` meets its contract: after i turns i words are added.
use native.Mathlib.Omega.{arith}
use mathlib.Core.Path.{◌≡◌}
use Rattle.elimination.proofs.RoomLaws.{added_step}
use Rattle.elimination.proofs.add_row.Goals as goal

pub loop-i-preserved : goal.loop-i-preserved
loop-i-preserved c =
    let l = c.loop-i in
    let a = c.args in
    added_step a.from a.to l.i a.room.now l.room (omega arith) (omega arith) l.invariant

pub returns : goal.returns
returns c =
    let l = c.loop-i in
    let e : l.i ≡ c.args.width = omega arith in
    rw e at l.invariant
