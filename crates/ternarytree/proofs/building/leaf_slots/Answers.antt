-- `leaf_slots` meets its contract: with leaves the table holds the slots already.
use Rattle.std.proofs.Common.{ap, not}
use Rattle.ternarytree.proofs.Verdicts.{leaf_ends, naive_ends}
use Rattle.ternarytree.proofs.building.leaf_slots.Goals as goal

pub returns-then-not-leaves-clause-slots : goal.returns-then-not-leaves-clause-slots
returns-then-not-leaves-clause-slots c = λ t f h. naive_ends c.args.leaves t _ _ (ap not c.if-not-leaves.true) (c.naive_slots.ensures.slots t f.nodes)

pub returns-else-not-leaves-clause-slots : goal.returns-else-not-leaves-clause-slots
returns-else-not-leaves-clause-slots c = λ t f h. leaf_ends c.args.leaves t _ _ _ c.if-not-leaves.false f.wired h
