-- `place_node` meets its contract: test by test.
use Rattle.std.proofs.Common.{sym, ap, ◌∙◌, arith}
use Rattle.refusal.specs.Numbers.{bare}
use Rattle.ternarytree.proofs.PlaceSteps.{own_node, taken_node, new_node, node_marked}
use Rattle.ternarytree.proofs.reading.place_node.Goals as goal

pub returns-then-j-k-clause-told : goal.returns-then-j-k-clause-told
returns-then-j-k-clause-told c =
    let a = c.args in
    λ t n l e w. sym (ap bare (own_node t n a.k a.j a.parents.now e l w c.if-j-k.true))

pub returns-then-is_some-clause-told : goal.returns-then-is_some-clause-told
returns-then-is_some-clause-told c =
    let a = c.args in
    λ t n l e w. sym (ap bare (taken_node t n a.k a.j a.parents.now e l w c.if-j-k.false (sym c.is_some.ensures ∙ c.if-is_some.true)))

pub returns-clause-told : goal.returns-clause-told
returns-clause-told c =
    let a = c.args in
    λ t n l e w. sym (ap bare (new_node t n a.k a.j a.parents.now e l w c.if-j-k.false (sym c.is_some.ensures ∙ c.if-is_some.false)))

pub returns-clause-holds : goal.returns-clause-holds
returns-clause-holds c =
    let a = c.args in
    λ t n l b e w z. node_marked t n a.k a.j a.parents.now e l w (omega arith) b (sym c.is_some.ensures ∙ c.if-is_some.false)
