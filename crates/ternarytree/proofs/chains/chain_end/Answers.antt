-- `chain_end` meets its contract: the chain from slot s ends where that from slot k does.
use Rattle.std.proofs.Common.{◌≡◌, ◌-◌, ◌+◌, ◌∙◌, sym, ap, ℕ, arith}
use Rattle.trees.specs.Trees.{Tree}
use Rattle.ternarytree.specs.Building.{placed}
use Rattle.ternarytree.proofs.ChainSteps.{end_from, chain_none, chain_some, end_stop, end_none, end_step}
use Rattle.ternarytree.proofs.chains.chain_end.Goals as goal

steps : (t : Tree) (s : ℕ) {a b : ℕ} → a ≡ b → end_from t a s ≡ end_from t b s
steps t s e = ap (λ (k : ℕ). end_from t k s) e

pub returns-in_default : goal.returns-in_default
returns-in_default c = (c.requires.1, λ t w. sym (chain_none t c.args.k (sym (w.nodes c.args.k c.requires.1) ∙ ap placed c.in_default.is)))

pub loop-init : goal.loop-init
loop-init c =
    let n = c.args.n in
    let whole : n ≡ n - 0 = omega arith in (
      omega (arith, c.requires.2 c.args.k _ c.requires.1 c.in-Some.is),
      λ t w. chain_some t c.args.k _ _ w.size (sym (w.nodes c.args.k c.requires.1) ∙ ap placed c.in-Some.is) ∙ steps t _ whole,
    )

pub returns-in_default-children : goal.returns-in_default-children
returns-in_default-children c =
    let l = c.loop in
    (l.invariant.0, λ t w. sym (l.invariant.1 t w ∙ end_stop t _ l.s (sym (w.nodes l.s l.invariant.0) ∙ ap placed c.in_default-children.is)))

pub loop-preserved : goal.loop-preserved
loop-preserved c =
    let l = c.loop in
    let n = c.args.n in
    let less : n - l.counter - 1 ≡ n - (l.counter + 1) = omega arith in (
      omega (arith, c.requires.2 l.s _ l.invariant.0 c.in-Some-children.is),
      λ t w. l.invariant.1 t w ∙ end_step t _ l.s _ (sym (w.nodes l.s l.invariant.0) ∙ ap placed c.in-Some-children.is) (omega arith) ∙ steps t _ less,
    )

pub returns : goal.returns
returns c = (c.loop.invariant.0, λ t w. sym (c.loop.invariant.1 t w ∙ end_none t _ c.loop.s (omega arith)))
