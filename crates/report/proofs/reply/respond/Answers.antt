-- `report::reply::respond` meets its contract: the reply to the entries, or 16 and the line.
use mathlib.Core.Path.{refl}
use Rattle.report.proofs.Replies.{replies_entries, replies_malformed}
use Rattle.report.proofs.reply.respond.Goals as goal

pub returns-in-Ok : goal.returns-in-Ok
returns-in-Ok c =
    let a = c.args in
    replies_entries a.s a.table.now a.out.now c.in-Ok.ensures _ refl c.build.ensures

pub returns-in-Err : goal.returns-in-Err
returns-in-Err c =
    let a = c.args in
    replies_malformed a.s a.table.now a.out.now c.in-Err.ensures _ refl c.number.ensures c.refused_line-length.ensures.count c.refused_line-length.ensures.bytes
