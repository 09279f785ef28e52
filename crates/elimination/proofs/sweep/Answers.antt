-- `elimination::sweep` meets its contract: the rows passed are swept.
use native.Mathlib.Omega.{arith}
use mathlib.Core.Path.{sym, ◌∙◌}
use borrow.Author.Rules.{rules}
use Rattle.elimination.proofs.RoomLaws.{sweeping_on, sweeping_off, sweeping_end, row_on, row_off}
use Rattle.elimination.proofs.sweep.Goals as goal
use Rattle.elimination.proofs.sweep.Goals.{then-get_index, else-get_index}

pub loop-r-preserved : goal.loop-r-preserved
loop-r-preserved c =
    let l = c.loop-r in
    let a = c.args in
    let row = c.row in
    let read = c.get_index.ensures in (
      omega arith,
      elim c.if-get_index.branch [
        | then-get_index w ↦ rw w.room-is
            (sweeping_on a.rows a.width a.s a.p a.room.now l.r l.room l.invariant.1 w.add_row.new.room (omega arith) (omega arith) (omega arith)
            (row_on a.width l.room l.r _ row.ensures a.p (sym read ∙ w.if-get_index.true))
            (search rules) w.add_row.ensures)
        | else-get_index w ↦ rw w.room-is
            (sweeping_off a.rows a.width a.s a.p a.room.now l.r l.room l.invariant.1 (omega arith)
            (row_off a.width l.room l.r _ row.ensures a.p (sym read ∙ w.if-get_index.false)))
      ],
    )

pub returns : goal.returns
returns c =
    let l = c.loop-r in
    let a = c.args in
    (sweeping_end a.rows a.width a.s a.p a.room.now l.r l.room l.invariant.1 (omega arith), l.invariant.1.same)
