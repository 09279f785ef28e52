-- `build_flat` meets its contract: the tables and the tests, then the rows.
use Rattle.std.proofs.Common.{◌≡◌, sym, ap, ◌∙◌}
use Rattle.std.proofs.lemmas.Result.{err_from_is_err_and}
use Rattle.refusal.specs.Numbers.{Paper, answered}
use Rattle.trees.proofs.Flats.{flatpack_closed}
use Rattle.ternarytree.specs.Reading.{read, Filled}
use Rattle.ternarytree.specs.Tables.{verdict, Ready}
use Rattle.ternarytree.proofs.ChainSteps.{children_within}
use Rattle.ternarytree.proofs.BuildSteps.{flat_ready}
use Rattle.ternarytree.proofs.Verdicts.{verdict_passes, tree_refused, tree_passed}
use Rattle.ternarytree.proofs.building.build_flat.Goals as goal
use Rattle.ternarytree.proofs.building.build_flat.Goals.{In_ok-check_tree, After-copy_qubits}

-- what the tests leave of a tree that passes them
filled : (c : In_ok-check_tree) → Filled (read c.args.e) c.args.e.n c.check_tree.new.tables.parents c.check_tree.new.children c.check_tree.new.tables.slots
filled c = c.check_tree.ensures.filled (c.in_ok-check_tree.was)

passed : (c : In_ok-check_tree) → verdict c.args.e.leaves (read c.args.e) ≡ 0
passed c = sym (ap (λ (p : Paper). p.number) (ap answered (sym c.in_ok-check_tree.was) ∙ c.check_tree.ensures.told))

pub returns-in_err-check_tree : goal.returns-in_err-check_tree
returns-in_err-check_tree c =
    let p = err_from_is_err_and c.from_residual.result c.from_residual.ensures.1 in
    let e = c.args.e in
    rw (p.1, p.2) (tree_refused e.leaves (read e) c.args.w _ _ _ _ c.in_err-check_tree.field-0.0 (ap answered (sym c.in_err-check_tree.was) ∙ c.check_tree.ensures.told))

pub leaf_slots-requires : goal.leaf_slots-requires
leaf_slots-requires c =
    let e = c.args.e in
    let at = (goal.at.leaf_slots-requires c).In_ok-check_tree in
    rw c.check_tree.ensures.nodes (children_within (read e) e.n _ (flatpack_closed e.leaves _) (filled at).nodes)

-- the tables that are built from
ready : (c : After-copy_qubits) → Filled (read c.args.e) c.args.e.n c.check_tree.new.tables.parents c.check_tree.new.children c.check_tree.new.tables.slots
    → verdict c.args.e.leaves (read c.args.e) ≡ 0
    → Ready c.args.e.leaves (read c.args.e) c.leaf_slots.new.tables.n c.args.w c.leaf_slots.new.tables.parents c.copy_qubits.new.columns c.leaf_slots.new.tables.slots
ready c f z =
    let e = c.args.e in
    let n = c.check_tree.ensures.nodes in
    let slots = rw n at (c.leaf_slots.ensures.slots (read e) (rw n f) z) in
    rw (c.leaf_slots.ensures.nodes ∙ n, c.leaf_slots.ensures.parents)
    (flat_ready e.leaves e.n c.args.w e.numbers.now e.filled.now _ _ _ _ f.wired c.copy_qubits.ensures c.requires.1 slots)

pub build_rows-requires : goal.build_rows-requires
build_rows-requires c =
    let at = (goal.at.build_rows-requires c).In_ok-check_tree in
    let n = c.leaf_slots.ensures.nodes ∙ c.check_tree.ensures.nodes in (
      c.requires.0,
      (c.args.e.leaves, read c.args.e, ready (goal.at.build_rows-requires c).After-copy_qubits (filled at) (passed at)),
      rw n c.requires.2,
      rw n c.requires.3,
      rw n c.requires.4,
    )

pub returns : goal.returns
returns c =
    let at = (goal.at.returns c).In_ok-check_tree in
    let e = c.args.e in
    tree_passed e.leaves (read e) c.args.w _ _ _ _ _ _ _ _ _ (flatpack_closed e.leaves _) (verdict_passes e.leaves (read e) (passed at))
    (c.build_rows.ensures e.leaves (read e) (ready (goal.at.returns c).After-copy_qubits (filled at) (passed at)))
