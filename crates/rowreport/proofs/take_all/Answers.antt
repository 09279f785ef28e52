-- `rowreport::take_all` meets its contract: each turn of the loop adds a chunk to those that were counted.
use Rattle.rowreport.proofs.Chunks.{none_yet, one_more}
use Rattle.rowreport.proofs.take_all.Goals as goal

pub loop-chunks-init : goal.loop-chunks-init
loop-chunks-init g c = none_yet c.begin-reading.ensures

pub loop-chunks-preserved : goal.loop-chunks-preserved
loop-chunks-preserved g c = one_more c.loop-chunks.invariant c.take_some.ensures c.in_ok-more.was c.in-Some.is
