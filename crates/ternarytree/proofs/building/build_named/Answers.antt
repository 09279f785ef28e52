-- `build_named` meets its contract: the tables of a named tree, which passes its tests, and the rows.
use Rattle.std.proofs.Common.{◌∙◌, refl, sym, false, arith}
use Rattle.std.specs.Prelude.{None}
use lib.ListN.{get_or-replicate}
use Rattle.trees.specs.declared.Named.{Named}
use Rattle.trees.specs.Named.{named_tree}
use Rattle.trees.proofs.NamedTrees.{named_passes}
use Rattle.trees.proofs.Fit.{named_closed}
use Rattle.ternarytree.specs.Tables.{Planted, Ready}
use Rattle.ternarytree.proofs.ChainSteps.{children_within}
use Rattle.ternarytree.proofs.BuildSteps.{named_ready}
use Rattle.ternarytree.proofs.Verdicts.{tree_passed}
use Rattle.ternarytree.proofs.building.build_named.Goals as goal
use Rattle.ternarytree.proofs.building.build_named.Goals.{After-naive_slots}

-- the tables that are built from
ready : (c : After-naive_slots) (tree : Named) → Planted (named_tree tree c.args.n) c.args.n c.plant.new.columns c.plant.new.tables.parents c.plant.new.children
    → Ready false (named_tree tree c.args.n) c.naive_slots.new.tables.n c.args.w c.naive_slots.new.tables.parents c.plant.new.columns c.naive_slots.new.tables.slots
ready c tree p =
    let y = c.naive_slots.ensures in
    let n = c.plant.ensures.0 ∙ c.of-tables.ensures.nodes in
    let slots = rw n at (y.slots (named_tree tree c.args.n) (rw n p.nodes)) in
    rw (y.nodes ∙ n, y.parents) (named_ready tree c.args.n c.args.w _ _ c.plant.new.children _ c.requires.2 p slots)

pub plant-requires : goal.plant-requires
plant-requires c = (
  rw (sym c.of-tables.ensures.nodes) at c.of-tables.ensures,
  λ j h. get_or-replicate 256 j 0 0 h,
  λ j h. get_or-replicate 768 j None None h,
)

pub naive_slots-requires : goal.naive_slots-requires
naive_slots-requires c =
    let p = rw c.of-tables.ensures.nodes at c.plant.ensures.1 in
    rw (c.plant.ensures.0 ∙ c.of-tables.ensures.nodes) (children_within _ c.args.n _ (named_closed _ c.args.n) p.nodes)

pub build_rows-requires : goal.build_rows-requires
build_rows-requires c =
    let p = rw c.of-tables.ensures.nodes at c.plant.ensures.1 in
    let n = c.naive_slots.ensures.nodes ∙ c.plant.ensures.0 ∙ c.of-tables.ensures.nodes in
    (omega (arith, c.requires.0, c.requires.2), (false, _, ready (goal.at.build_rows-requires c).After-naive_slots _ p), rw n c.requires.3, rw n c.requires.4, rw n c.requires.5)

pub returns : goal.returns
returns c =
    let a = c.args in
    let t = named_tree a.tree a.n in
    let p = rw c.of-tables.ensures.nodes at c.plant.ensures.1 in
    tree_passed false t a.w _ _ _ _ _ _ _ _ _ (named_closed a.tree a.n) (record { passes = named_passes a.tree a.n; whole = refl })
    (c.build_rows.ensures false t (ready (goal.at.returns c).After-naive_slots a.tree p))
