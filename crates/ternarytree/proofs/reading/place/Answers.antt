-- `place` meets its contract: by what the slot holds.
use Rattle.std.proofs.Common.{sym, ap, ◌∙◌, arith}
use Rattle.refusal.specs.Numbers.{bare}
use Rattle.trees.specs.declared.Child.{Child}
use Rattle.trees.specs.Trees.{node_of, row_of, fault_of}
use Rattle.ternarytree.proofs.PlaceSteps.{far_leaf, placed_nothing, placed_node, placed_leaf}
use Rattle.ternarytree.proofs.reading.place.Goals as goal

pub place_node-requires : goal.place_node-requires
place_node-requires c = let l = c.requires.1 c.in-Node.j (ap node_of c.in-Node.is) in (omega arith, omega arith)

pub returns-in-Empty-clause-told : goal.returns-in-Empty-clause-told
unfolding fault_of
returns-in-Empty-clause-told c = λ t e w. sym (ap (λ (o : Child). bare (fault_of t c.args.k o)) c.in-Empty.is)

pub returns-in-Empty-clause-wired : goal.returns-in-Empty-clause-wired
returns-in-Empty-clause-wired c =
    let g = c.in-Empty.is in
    λ t e w z. placed_nothing t _ c.args.k _ _ c.args.o e w (ap node_of g) (ap row_of g)

pub returns-in-Node-clause-told : goal.returns-in-Node-clause-told
returns-in-Node-clause-told c =
    let g = c.in-Node.is in
    λ t e w. c.place_node.ensures.told t _ (c.requires.1 c.in-Node.j (ap node_of g)) (e ∙ g) w.parents ∙ sym (ap (λ (o : Child). bare (fault_of t c.args.k o)) g)

pub returns-in-Node-clause-wired : goal.returns-in-Node-clause-wired
returns-in-Node-clause-wired c =
    let g = c.in-Node.is in
    λ t e w z.
    placed_node t _ c.args.k _ _ c.args.o e w _ (ap row_of g)
    (c.place_node.ensures.holds t _ (c.requires.1 c.in-Node.j (ap node_of g)) (omega arith) (e ∙ g) w.parents z)

pub returns-in-XLeaf-clause-told : goal.returns-in-XLeaf-clause-told
unfolding fault_of
returns-in-XLeaf-clause-told c =
    let g = c.in-XLeaf.is in
    λ t e w. c.place_leaf.ensures.told t _ w.size (omega arith) (ap row_of (e ∙ g)) w.leaves ∙ sym (ap (λ (o : Child). bare (fault_of t c.args.k o)) g)

pub returns-in-XLeaf-clause-wired : goal.returns-in-XLeaf-clause-wired
returns-in-XLeaf-clause-wired c =
    let g = c.in-XLeaf.is in
    λ t e w z.
    let holds = c.place_leaf.ensures.holds t _ w.size (omega arith) (omega arith) (ap row_of (e ∙ g)) w.leaves z in
    placed_leaf t _ c.args.k _ _ c.args.o e w _ (ap node_of g) holds

pub returns-in-YLeaf-clause-told : goal.returns-in-YLeaf-clause-told
unfolding fault_of
returns-in-YLeaf-clause-told c =
    let g = c.in-YLeaf.is in
    λ t e w. c.place_leaf-in-YLeaf.ensures.told t _ w.size (omega arith) (ap row_of (e ∙ g)) w.leaves ∙ sym (ap (λ (o : Child). bare (fault_of t c.args.k o)) g)

pub returns-in-YLeaf-clause-wired : goal.returns-in-YLeaf-clause-wired
returns-in-YLeaf-clause-wired c =
    let g = c.in-YLeaf.is in
    λ t e w z.
    let holds = c.place_leaf-in-YLeaf.ensures.holds t _ w.size (omega arith) (omega arith) (ap row_of (e ∙ g)) w.leaves z in
    placed_leaf t _ c.args.k _ _ c.args.o e w _ (ap node_of g) holds

pub returns-in-XLeaf-2-clause-told : goal.returns-in-XLeaf-2-clause-told
unfolding fault_of
returns-in-XLeaf-2-clause-told c =
    λ t e w. sym (ap (λ (o : Child). bare (fault_of t c.args.k o)) c.in-XLeaf.is ∙ ap bare (far_leaf t c.args.k _ (omega (arith, w.size, c.if-i-tables.false))))

pub returns-in-XLeaf-2-2-clause-told : goal.returns-in-XLeaf-2-2-clause-told
unfolding fault_of
returns-in-XLeaf-2-2-clause-told c =
    λ t e w. sym (ap (λ (o : Child). bare (fault_of t c.args.k o)) c.in-YLeaf.is ∙ ap bare (far_leaf t c.args.k _ (omega (arith, w.size, c.if-i-tables-2.false))))

pub returns-in-Low-clause-told : goal.returns-in-Low-clause-told
unfolding fault_of
returns-in-Low-clause-told c = λ t e w. sym (ap (λ (o : Child). bare (fault_of t c.args.k o)) c.in-Low.is)
