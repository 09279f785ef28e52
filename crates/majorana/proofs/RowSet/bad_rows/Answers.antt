-- `RowSet::bad_rows` meets its contract: the phases, the X parts and the Z parts, one after another.
use Prim.Native.Nat.{◌*◌}
use mathlib.Core.Path.{◌≡◌, sym, ap, ◌∙◌}
use mathlib.Core.Bool.{Bool, true, false, ◌||◌}
use borrow.Author.Tests.{lt-ltb}
use Rattle.dense_block.specs.Words.{strays_in}
use Rattle.majorana.specs.Sets.{many_or_bad}
use Rattle.majorana.proofs.SetLaws.{few_bad, bad_parts}
use Rattle.majorana.proofs.RowSet.bad_rows.Goals as goal
use Rattle.majorana.proofs.RowSet.bad_rows.Goals.{then-bad_phase, else-bad_phase}

-- the first two of three tests, and then the third
two_first : (p x z b : Bool) → b ≡ (p || x) → (p || (x || z)) ≡ (b || z)
two_first true x z b h = rw h
two_first false x z b h = rw h

pub returns-then-self-gt256 : goal.returns-then-self-gt256
unfolding many_or_bad
returns-then-self-gt256 c = simp (lt-ltb _ _ c.if-self-gt256.true)

pub returns-then-stray_block : goal.returns-then-stray_block
returns-then-stray_block c =
    let a = c.args.self.now in
    let x = strays_in c.args.w a.x.now (2 * a.modes) a.qubits in
    let first : c.if-bad_phase.value ≡ (c.bad_phase.result || x) = elim c.if-bad_phase.branch [
      | then-bad_phase w ↦ w.value-is ∙ w.if-bad_phase.true ∙ sym (ap (λ (b : Bool). b || x) w.if-bad_phase.true)
      | else-bad_phase w ↦ w.value-is ∙ w.stray_block.ensures ∙ sym (ap (λ (b : Bool). b || x) w.if-bad_phase.false)
    ] in
    let z = strays_in c.args.w a.z.now (2 * a.modes) a.qubits in
    let whole = few_bad _ _ _ _ _ _ c.if-self-gt256.false ∙ bad_parts a.modes a.qubits c.args.w a.x.now a.z.now a.phases.now in
    c.if-stray_block.true
    ∙ sym (rw (← c.bad_phase.ensures) at whole ∙ two_first c.bad_phase.result x z c.if-bad_phase.value first ∙ ap (λ (b : Bool). b || z) c.if-stray_block.true)

pub returns-else-stray_block : goal.returns-else-stray_block
returns-else-stray_block c =
    let a = c.args.self.now in
    let x = strays_in c.args.w a.x.now (2 * a.modes) a.qubits in
    let first : c.if-bad_phase.value ≡ (c.bad_phase.result || x) = elim c.if-bad_phase.branch [
      | then-bad_phase w ↦ w.value-is ∙ w.if-bad_phase.true ∙ sym (ap (λ (b : Bool). b || x) w.if-bad_phase.true)
      | else-bad_phase w ↦ w.value-is ∙ w.stray_block.ensures ∙ sym (ap (λ (b : Bool). b || x) w.if-bad_phase.false)
    ] in
    let z = strays_in c.args.w a.z.now (2 * a.modes) a.qubits in
    let whole = few_bad _ _ _ _ _ _ c.if-self-gt256.false ∙ bad_parts a.modes a.qubits c.args.w a.x.now a.z.now a.phases.now in
    c.stray_block-else-stray_block.ensures
    ∙ sym (rw (← c.bad_phase.ensures) at whole ∙ two_first c.bad_phase.result x z c.if-bad_phase.value first ∙ ap (λ (b : Bool). b || z) c.if-stray_block.false)
