-- `any_missing` meets its contract: the leaves before m have slots.
use Rattle.std.proofs.Common.{sym, ap, ◌∙◌, not, arith, below_more}
use Rattle.ternarytree.proofs.ClimbSteps.{leaf_missing, none_missing}
use Rattle.ternarytree.proofs.climbing.any_missing.Goals as goal

pub returns-then-is_none : goal.returns-then-is_none
returns-then-is_none c = λ t ps w. sym (leaf_missing t _ ps _ w c.loop-m.m (omega arith) (c.is_none.ensures ∙ ap not c.if-is_none.true))

pub loop-m-preserved : goal.loop-m-preserved
loop-m-preserved c = below_more _ c.loop-m.m c.loop-m.invariant (c.is_none.ensures ∙ ap not c.if-is_none.false)

pub returns : goal.returns
returns c = λ t ps w. sym (none_missing t _ ps _ w (λ j h. c.loop-m.invariant j (omega arith)))
