-- `plant` meets its contract: the nodes before k are planted.
use Rattle.std.proofs.Common.{◌*◌, ◌<◌, refl, arith}
use lib.ListN.{length-set}
use Rattle.trees.specs.Named.{under}
use Rattle.trees.proofs.NamedTrees.{growing}
use Rattle.ternarytree.proofs.PlantSteps.{planting_start, planting_next, planting_end, slot_low}
use Rattle.ternarytree.proofs.planting.plant.Goals as goal
use Rattle.ternarytree.proofs.planting.plant.Goals.{After-slot_under-s}

slot_fits : (c : After-slot_under-s) → c.slot_under-s.result < 3 * c.args.tables.now.n
slot_fits c =
    let a = c.args in
    let n = c.loop-k.invariant.0 in
    omega (arith, n, c.slot_under-s.ensures, slot_low (under a.tree) (growing a.tree) _ _ _ _ c.loop-k.k c.loop-k.invariant.2 (omega (arith, n)))

pub loop-k-init : goal.loop-k-init
loop-k-init c =
    let a = c.args in
    let r = c.requires in
    (refl, omega arith, planting_start (under a.tree) (growing a.tree) _ _ _ _ (omega arith) (omega arith) r.1 r.0.parents r.2)

pub overflow_cast-tables : goal.overflow_cast-tables
overflow_cast-tables c = record { fits = omega (arith, slot_fits (goal.at.overflow_cast-tables c).After-slot_under-s) }

pub offset_bounds-children-s : goal.offset_bounds-children-s
offset_bounds-children-s c = record { fits = omega (arith, slot_fits (goal.at.offset_bounds-children-s c).After-slot_under-s) }

pub bounds-children-s : goal.bounds-children-s
bounds-children-s c = omega (arith, slot_fits (goal.at.bounds-children-s c).After-slot_under-s)

pub loop-k-preserved : goal.loop-k-preserved
loop-k-preserved c =
    let a = c.args in
    let n = c.loop-k.invariant.0 in
    (n, simp length-set c.loop-k.invariant.1, planting_next (under a.tree) (growing a.tree) _ _ _ _ c.loop-k.k c.loop-k.invariant.2 (omega (arith, n)) c.slot_under-s.result c.slot_under-s.ensures (omega arith) (omega arith) (omega arith) c.loop-k.invariant.1)

pub returns : goal.returns
returns c =
    let a = c.args in
    let n = c.loop-k.invariant.0 in
    (n, rw n at (planting_end (under a.tree) (growing a.tree) _ _ _ _ c.loop-k.k c.loop-k.invariant.2 (omega (arith, n))))
