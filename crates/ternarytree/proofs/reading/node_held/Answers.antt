-- `node_held` meets its contract: by what the slot holds.
use Rattle.std.proofs.Common.{ap, arith}
use Rattle.trees.specs.Trees.{node_of}
use Rattle.ternarytree.proofs.reading.node_held.Goals as goal

pub overflow_cast-result : goal.overflow_cast-result
overflow_cast-result c = record { fits = omega (arith, c.requires c.in-Node.j (ap node_of c.in-Node.is)) }
