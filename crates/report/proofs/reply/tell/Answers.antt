-- `report::reply::tell` meets its contract: a report if the answer is done, and else the line of its number.
use Rattle.dense_block.specs.Words.{value}
use Rattle.report.specs.Report.{row_in}
use Rattle.report.proofs.Replies.{tells_report, tells_refusal}
use Rattle.report.proofs.reply.tell.Goals as goal

pub returns-in-Ok : goal.returns-in-Ok
returns-in-Ok c =
    let a = c.args in
    tells_report a.rows.modes a.rows.qubits (row_in a.rows.qubits a.rows.x.now a.rows.z.now a.rows.phases.now) (value a.vacuum.now) a.out.now
    c.in-Ok.is c.whole.ensures.count c.whole.ensures.bytes

pub returns-in-Err : goal.returns-in-Err
returns-in-Err c =
    let a = c.args in
    tells_refusal a.rows.modes a.rows.qubits (row_in a.rows.qubits a.rows.x.now a.rows.z.now a.rows.phases.now) (value a.vacuum.now) a.out.now _
    c.in-Err.is c.number.ensures c.refused_line.ensures.count c.refused_line.ensures.bytes
