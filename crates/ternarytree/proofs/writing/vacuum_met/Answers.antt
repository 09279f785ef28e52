-- `vacuum_met` meets its contract: every mode before i is empty in the all-zero vacuum.
use Rattle.std.proofs.Common.{◌≡◌, ◌+◌, ◌*◌, sym, ap₂, ◌∙◌, arith, below_more}
use Rattle.dense_block.specs.Words.{alike, term_of}
use Rattle.ternarytree.proofs.VacuumSteps.{mode_differs, mode_turned, mode_empty, rule_holds}
use Rattle.ternarytree.proofs.writing.vacuum_met.Goals as goal
use Rattle.ternarytree.proofs.writing.vacuum_met.Goals.{After-same, then-not-same-via-then-not-same, then-not-same-via-else-not-same+then-phases-k}

parts_same : (c : After-same) → c.same.result ≡ alike (term_of c.args.w c.args.x.now (2 * c.loop-i.i)) (term_of c.args.w c.args.x.now (2 * c.loop-i.i + 1))
parts_same c = c.same.ensures ∙ ap₂ alike c.get_term-lo.ensures c.get_term-hi.ensures

pub returns-then-not-same : goal.returns-then-not-same
returns-then-not-same c =
    let a = c.args in
    let same = parts_same (goal.at.returns-then-not-same c).After-same in
    λ m r.
    elim c.then-not-same.branch [
      | then-not-same-via-then-not-same w ↦
          mode_differs m a.n a.w a.x.now a.phases.now r c.requires.1 (λ k. (c.type_inv.x k).fits) c.requires.3 c.loop-i.i c.loop-i-test.true
          (sym same ∙ w.if-not-same.true)
      | then-not-same-via-else-not-same+then-phases-k w ↦
          mode_turned m a.n a.w a.x.now a.phases.now r c.requires.1 (λ k. (c.type_inv.x k).fits) c.requires.3 c.loop-i.i c.loop-i-test.true
          w.if-phases-k.true
    ]

pub loop-i-preserved : goal.loop-i-preserved
loop-i-preserved c =
    let a = c.args in
    let same = parts_same (goal.at.loop-i-preserved c).After-same in
    λ m r.
    below_more _ c.loop-i.i (c.loop-i.invariant m r)
    (mode_empty m a.n a.w a.x.now a.phases.now r c.requires.1 (λ k. (c.type_inv.x k).fits) c.requires.3 c.loop-i.i c.loop-i-test.true
    (sym same ∙ c.if-not-same.false) c.if-phases-k.false)

pub returns : goal.returns
returns c = λ m r. rule_holds m (λ i h. c.loop-i.invariant m r i (omega (arith, r.size, c.loop-i-test.false)))
