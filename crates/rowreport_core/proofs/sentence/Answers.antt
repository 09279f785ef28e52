-- `rowreport_core::sentence` meets its contract, by the two cases of an answer.
use Rattle.rowreport_core.proofs.Sentences.{refused_explained}
use Rattle.rowreport_core.proofs.sentence.Goals as goal

pub returns-in-Err : goal.returns-in-Err
returns-in-Err c = refused_explained _ _ _ _ _ _ _ _ c.in-Err.is c.locate.ensures c.explain.ensures.count c.explain.ensures.bytes
