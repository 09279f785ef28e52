-- `check_tree` meets its contract: the tests in their order.
use Rattle.std.proofs.Common.{◌≡◌, ◌*◌, refl, sym, ap, ◌∙◌}
use Rattle.refusal.specs.Numbers.{Paper, bare}
use Rattle.refusal.proofs.Outcome.{refused_number}
use Rattle.ternarytree.specs.Reading.{read, told}
use Rattle.ternarytree.specs.Tables.{Wired, slot_verdict}
use Rattle.ternarytree.proofs.ClimbSteps.{parents_within, wired_parents, verdict_slot, verdict_scattered, verdict_missing, verdict_whole, verdict_naive}
use Rattle.ternarytree.proofs.climbing.check_tree.Goals as goal
use Rattle.ternarytree.proofs.climbing.check_tree.Goals.{In_default, else-e-via-then-e+else-any_missing, else-e-via-else-e}

pub returns-in-Err-clause-told : goal.returns-in-Err-clause-told
returns-in-Err-clause-told c =
    let t = read c.args.e in
    let why = ap told (sym c.in-Err.is) ∙ c.wire.ensures.told in
    why ∙ ap bare (verdict_slot c.args.e.leaves t (slot_verdict t) refl (λ z. refused_number c.in-Err.fault.why (ap (λ (p : Paper). p.number) why ∙ z)))

-- what reading leaves
wired : (c : In_default) → Wired (read c.args.e) c.wire.new.tables.n (3 * c.wire.new.tables.n) c.wire.new.tables.parents c.wire.new.tables.slots
wired c = rw c.wire.ensures.nodes (c.wire.ensures.filled c.in_default.is).wired

clean : (c : In_default) → 0 ≡ slot_verdict (read c.args.e)
clean c = ap (λ (p : Paper). p.number) (ap told (sym c.in_default.is) ∙ c.wire.ensures.told)

pub is_scattered-requires : goal.is_scattered-requires
is_scattered-requires c = parents_within (read c.args.e) _ _ (wired_parents (read c.args.e) _ _ _ (wired (goal.at.is_scattered-requires c).In_default))

pub returns-then-is_scattered-clause-told : goal.returns-then-is_scattered-clause-told
returns-then-is_scattered-clause-told c =
    let t = read c.args.e in
    let at = (goal.at.returns-then-is_scattered-clause-told c).In_default in
    let apart = sym (c.is_scattered.ensures t (wired_parents t _ _ _ (wired at))) ∙ c.if-is_scattered.true in
    ap bare (verdict_scattered c.args.e.leaves t 0 (clean at) refl apart)

pub returns-then-any_missing-clause-told : goal.returns-then-any_missing-clause-told
returns-then-any_missing-clause-told c =
    let t = read c.args.e in
    let at = (goal.at.returns-then-any_missing-clause-told c).In_default in
    let together = sym (c.is_scattered.ensures t (wired_parents t _ _ _ (wired at))) ∙ c.if-is_scattered.false in
    ap bare (verdict_missing c.args.e.leaves t 0 (clean at) refl together c.if-e.true (sym (c.any_missing.ensures t _ (wired at)) ∙ c.if-any_missing.true))

pub returns-clause-told : goal.returns-clause-told
returns-clause-told c =
    let t = read c.args.e in
    let at = (goal.at.returns-clause-told c).In_default in
    let together = sym (c.is_scattered.ensures t (wired_parents t _ _ _ (wired at))) ∙ c.if-is_scattered.false in
    elim c.else-e.branch [
      | else-e-via-then-e+else-any_missing w ↦ ap bare (verdict_whole c.args.e.leaves t 0 (clean at) refl together (sym (w.any_missing.ensures t _ (wired at)) ∙ w.if-any_missing.false))
      | else-e-via-else-e w ↦ ap bare (verdict_naive c.args.e.leaves t 0 (clean at) refl together w.if-e.false)
    ]
