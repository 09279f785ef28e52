-- `place_leaf` meets its contract: by whether the row has a slot.
use Rattle.std.proofs.Common.{sym, ap, ◌∙◌, arith}
use Rattle.refusal.specs.Numbers.{bare}
use Rattle.ternarytree.proofs.PlaceSteps.{taken_leaf, new_leaf, leaf_marked}
use Rattle.ternarytree.proofs.reading.place_leaf.Goals as goal

pub returns-then-is_some-clause-told : goal.returns-then-is_some-clause-told
returns-then-is_some-clause-told c =
    let a = c.args in
    λ t n size l e w. sym (ap bare (taken_leaf t n a.k a.m a.slots.now size e w l (sym c.is_some.ensures ∙ c.if-is_some.true)))

pub returns-clause-told : goal.returns-clause-told
returns-clause-told c =
    let a = c.args in
    λ t n size l e w. sym (ap bare (new_leaf t n a.k a.m a.slots.now size e w l (sym c.is_some.ensures ∙ c.if-is_some.false)))

pub returns-clause-holds : goal.returns-clause-holds
returns-clause-holds c =
    let a = c.args in
    λ t n size l b e w z. leaf_marked t n a.k a.m a.slots.now size e w l (omega arith) b (sym c.is_some.ensures ∙ c.if-is_some.false)
