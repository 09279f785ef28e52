-- `maxnto::maxnto` meets its contract: the tests in their order, and then the rows.
use Prim.Native.Nat.{ℕ, ◌*◌}
use mathlib.Core.Path.{◌≡◌, sym, ap, ◌∙◌}
use mathlib.Core.Bool.{false}
use borrow.Author.Tests.{eq-eqb, ne_eqb}
use Rattle.dense_block.specs.Blocks.{laid}
use Rattle.maxnto.specs.Formula.{x_part, z_part}
use Rattle.maxnto.specs.Call.{given, bad_modes, odd_modes, too_short}
use Rattle.maxnto.proofs.Outcomes.{by_size, by_odd, by_short, by_none}
use Rattle.maxnto.proofs.maxnto.Goals as goal
use Rattle.maxnto.proofs.maxnto.Goals.{Else-outside, Else-modes-eq1}

size_pass : (c : Else-outside) → bad_modes c.args.modes ≡ false
unfolding bad_modes
size_pass c = sym c.outside.ensures ∙ c.if-outside.false

odd_pass : (c : Else-modes-eq1) → odd_modes c.args.modes ≡ false
unfolding odd_modes
odd_pass c = ne_eqb _ 1 c.if-modes-eq1.false

pub returns-then-outside : goal.returns-then-outside
unfolding bad_modes
returns-then-outside c = let a = c.args in by_size (given a.modes a.x.now a.z.now a.phases.now) (sym c.outside.ensures ∙ c.if-outside.true)

pub returns-then-modes-eq1 : goal.returns-then-modes-eq1
unfolding odd_modes
returns-then-modes-eq1 c =
    let a = c.args in
    let at = goal.at.returns-then-modes-eq1 c in
    by_odd (given a.modes a.x.now a.z.now a.phases.now) (size_pass at.Else-outside) (eq-eqb _ 1 c.if-modes-eq1.true)

pub returns-then-any_short : goal.returns-then-any_short
unfolding too_short
returns-then-any_short c =
    let a = c.args in
    let at = goal.at.returns-then-any_short c in
    by_short (given a.modes a.x.now a.z.now a.phases.now) (size_pass at.Else-outside) (odd_pass at.Else-modes-eq1)
    (rw c.words_for-w.ensures at (sym c.any_short.ensures ∙ c.if-any_short.true))

pub returns : goal.returns
unfolding too_short
returns c =
    let a = c.args in
    let at = goal.at.returns c in
    let w = c.words_for-w.ensures in
    let y = c.put_rows.ensures in
    by_none (given a.modes a.x.now a.z.now a.phases.now) (size_pass at.Else-outside) (odd_pass at.Else-modes-eq1)
    (rw w at (sym c.any_short.ensures ∙ c.if-any_short.false)) _ _ _
    (y.x_parts ∙ ap (λ (n : ℕ). laid n (x_part a.modes) (2 * a.modes) a.x.now) w)
    (y.z_parts ∙ ap (λ (n : ℕ). laid n (z_part a.modes) (2 * a.modes) a.z.now) w)
    y.phase_list
