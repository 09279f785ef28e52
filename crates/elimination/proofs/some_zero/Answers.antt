-- `elimination::some_zero` meets its contract: the rows below k decide.
use Prim.Native.Nat.{◌-◌}
use native.Mathlib.Omega.{arith}
use mathlib.Core.Path.{sym, ◌∙◌}
use Rattle.elimination.proofs.Dependence.{zero_here, zero_below, zero_none}
use Rattle.elimination.proofs.RoomLaws.{row_zero, row_full}
use Rattle.elimination.specs.Rooms.{row_at}
use Rattle.elimination.proofs.some_zero.Goals as goal

pub returns-then-not-stray : goal.returns-then-not-stray
returns-then-not-stray c =
    let a = c.args in
    let l = c.loop-k in
    sym (zero_here l.k (row_at a.width a.room.now) (omega arith)
    (row_zero a.width a.room.now (l.k - 1) _ c.row.ensures (sym c.stray.ensures ∙ c.if-not-stray.true)))
    ∙ l.invariant

pub loop-k-preserved : goal.loop-k-preserved
loop-k-preserved c =
    let a = c.args in
    let l = c.loop-k in
    zero_below l.k (row_at a.width a.room.now) (omega arith)
    (row_full a.width a.room.now (l.k - 1) _ c.row.ensures (sym c.stray.ensures ∙ c.if-not-stray.false))
    ∙ l.invariant

pub returns : goal.returns
returns c =
    let a = c.args in
    let l = c.loop-k in
    sym (zero_none l.k (row_at a.width a.room.now) (omega arith)) ∙ l.invariant
