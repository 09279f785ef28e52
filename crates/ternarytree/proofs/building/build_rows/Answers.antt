-- `build_rows` meets its contract: the rows are written and the vacuum cleared, and if the vacuum rule fails all is cleared.
use native.Mathlib.Omega.{arith}
use mathlib.Core.Path.{sym, ◌∙◌}
use Rattle.trees.specs.Leaves.{slot_of}
use Rattle.ternarytree.proofs.ClimbSteps.{parents_within}
use Rattle.ternarytree.proofs.Flips.{zeroed_front}
use Rattle.ternarytree.proofs.BuildSteps.{slots_within, phases_small, stored, built_done, built_broken}
use Rattle.ternarytree.proofs.building.build_rows.Goals as goal

pub put_rows-requires : goal.put_rows-requires
put_rows-requires c =
    let (leaves, t, ok) = c.requires.1 in
    (parents_within t c.args.tables.now.n _ ok.ups, ok.within, slots_within leaves t c.args.tables.now.n c.args.w _ _ _ ok, c.requires.2, c.requires.3, c.requires.4)

pub vacuum_met-requires : goal.vacuum_met-requires
vacuum_met-requires c =
    let k = c.put_rows.auto in
    let (leaves, t, ok) = c.requires.1 in
    let wr = c.put_rows.ensures t (slot_of leaves t) ok.ups ok.qubits ok.ends in
    (omega (arith, c.args.tables.now.some), omega (arith, c.requires.2, k.x), omega (arith, c.requires.4, k.phases), phases_small leaves t _ _ _ _ _ ok _ _ _ _ _ _ wr)

pub returns-then-vacuum_met : goal.returns-then-vacuum_met
returns-then-vacuum_met c =
    λ leaves t ok.
    let wr = c.put_rows.ensures t (slot_of leaves t) ok.ups ok.qubits ok.ends in
    let met = sym c.if-vacuum_met.true ∙ c.vacuum_met.ensures _ (stored leaves t _ _ _ _ _ ok _ _ _ _ _ _ wr) in
    built_done leaves t _ _ _ _ _ ok _ _ _ _ _ _ wr _ _ c.clear.ensures met

pub returns : goal.returns
returns c =
    λ leaves t ok.
    let wr = c.put_rows.ensures t (slot_of leaves t) ok.ups ok.qubits ok.ends in
    let broken = sym c.if-vacuum_met.false ∙ c.vacuum_met.ensures _ (stored leaves t _ _ _ _ _ ok _ _ _ _ _ _ wr) in
    built_broken leaves t _ _ _ _ _ ok _ _ _ _ _ _ wr _ _ _ _ _ c.requires.2 c.requires.3 c.requires.4 c.clear.ensures broken
    c.clear-2.ensures c.clear-3.ensures (zeroed_front _ _ _ (omega (arith, c.requires.4, c.put_rows.auto.phases)) (c.fill.ensures.after (λ v h. h)))
