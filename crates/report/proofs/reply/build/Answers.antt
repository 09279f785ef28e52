-- `report::reply::build` meets its contract: the entries in tables of their own, the tree built, and what it says.
use Rattle.report.proofs.Replies.{builds}
use Rattle.report.proofs.reply.build.Goals as goal

pub returns : goal.returns
returns c =
    let a = c.args in
    builds a.n a.table.now a.out.now c.qubits_used-q.ensures c.plain_numbers.ensures c.filled_slots.ensures c.from_flatpack-answer.ensures
    c.tell-length.ensures.count c.tell-length.ensures.bytes
