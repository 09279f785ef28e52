-- `rowreport::take_some` meets its contract: what `take` was handed is the chunk that was read, of at least a byte.
use native.Mathlib.Omega.{arith}
use Rattle.rowreport.proofs.Chunks.{some_taken}
use Rattle.rowreport.proofs.take_some.Goals as goal

pub returns : goal.returns
returns g c = some_taken c.take.ensures (omega (arith, c.in_ok-n.ensures.bound.1))
