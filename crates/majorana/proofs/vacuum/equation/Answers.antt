-- `vacuum::equation` meets its contract: one row copied, the other added, and the last word set.
use Rattle.majorana.proofs.VacuumLaws.{equation_made}
use Rattle.majorana.proofs.vacuum.equation.Goals as goal

pub returns : goal.returns
returns c =
    let a = c.args in
    equation_made a.w a.part.now a.a.now a.b.now a.right c.requires.0 c.requires.1 c.requires.2 c.put.new.part c.xor_assign.new.dst
    c.put.ensures c.xor_assign.ensures
