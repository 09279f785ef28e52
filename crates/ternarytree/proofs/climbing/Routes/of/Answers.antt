-- `Routes::of` meets its contract: the nodes before i have their ways.
use Rattle.std.proofs.Common.{◌≡◌, refl, arith}
use lib.ListN.{length-set}
use Rattle.std.specs.Prelude.{None}
use Rattle.ternarytree.specs.Building.{placed}
use Rattle.ternarytree.specs.Tables.{at, link_of}
use Rattle.ternarytree.proofs.Codes.{in_order}
use Rattle.ternarytree.proofs.ClimbSteps.{linked_ways, linked}
use Rattle.ternarytree.proofs.climbing.Routes.of.Goals as goal

pub loop-i-preserved : goal.loop-i-preserved
loop-i-preserved c =
    let l = c.loop-i in
    (simp length-set l.invariant.0, in_order None (λ j w. w ≡ link_of (placed (at c.args.tables.now.parents j))) l.ways l.i _ l.invariant.1 (omega (arith, l.invariant.0)) c.way_up.ensures)

pub invariant_of-result-clause-within : goal.invariant_of-result-clause-within
invariant_of-result-clause-within c = linked_ways _ _ _ (λ i h. c.loop-i.invariant.1 i (omega arith)) c.requires

pub returns : goal.returns
returns c = (refl, λ t p. linked _ _ _ (λ i h. c.loop-i.invariant.1 i (omega arith)) t p)
