-- `rowreport::take_all` meets its contract. The loop's invariant: what is held comes from as many chunks as were counted.
use Rattle.rowreport.proofs.Chunks.{Counted}
use Rattle.rowreport.proofs.take_all.Given as goal

abbrev pub invariant-loop-chunks : goal.invariant-loop-chunks
invariant-loop-chunks g l = Counted l.chunks l.reading
