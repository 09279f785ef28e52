-- `climb_up` meets its contract: the steps that are left lead from `at`, from which i hangs, to where n steps lead from i.
use native.Mathlib.Omega.{arith}
use mathlib.Core.Path.{◌≡◌, refl, ◌∙◌, sym}
use Rattle.trees.specs.Hanging.{itself}
use Rattle.trees.proofs.OneRoot.{hangs_through}
use Rattle.ternarytree.proofs.ClimbSteps.{climb_none, climb_stop, climb_step, hangs_step}
use Rattle.ternarytree.proofs.climbing.Routes.climb_up.Goals as goal

pub loop-left-init : goal.loop-left-init
loop-left-init c = (omega arith, omega arith, λ t p. (itself refl, refl))

pub returns-in_default : goal.returns-in_default
returns-in_default c =
    let l = c.loop-left in
    (l.invariant.0, λ t p. ((l.invariant.2 t p).0, λ h. sym ((l.invariant.2 t p).1 ∙ climb_stop t l.left l.at (sym (p.ups l.at l.invariant.0) ∙ c.in_default.is))))

pub returns-then-at-i : goal.returns-then-at-i
returns-then-at-i c =
    let l = c.loop-left in (
      (c.args.self.now.within l.at c.in-Some.way l.invariant.0 c.in-Some.is).0,
      λ t p. (hangs_through t (l.invariant.2 t p).0 (hangs_step t l.at c.in-Some.way (sym (p.ups l.at l.invariant.0) ∙ c.in-Some.is)), λ h. absurd (omega (arith, h, c.if-at-i.true))),
    )

pub loop-left-preserved : goal.loop-left-preserved
loop-left-preserved c =
    let l = c.loop-left in (
      (c.args.self.now.within l.at c.in-Some.way l.invariant.0 c.in-Some.is).0,
      omega arith,
      λ t p. (
        hangs_through t (l.invariant.2 t p).0 (hangs_step t l.at c.in-Some.way (sym (p.ups l.at l.invariant.0) ∙ c.in-Some.is)),
        (l.invariant.2 t p).1 ∙ climb_step t l.left l.at c.in-Some.way (sym (p.ups l.at l.invariant.0) ∙ c.in-Some.is) (omega arith),
      ),
    )

pub returns : goal.returns
returns c =
    let l = c.loop-left in
    let e : l.left ≡ 0 = omega arith in
    (l.invariant.0, λ t p. ((l.invariant.2 t p).0, λ h. sym ((l.invariant.2 t p).1 ∙ climb_none t l.left l.at e)))
