-- `Phase::less` meets its contract: std's remainder is never negative.
use mathlib.Core.Path.{ap, ◌∙◌}
use lib.IntN.{ℤ, pos, nat_abs, ◌-ℤ◌}
use mir.Syntax.{w32}
use mir.ValLaws.{to_z-of_z}
use Rattle.pauli.specs.Phases.{letter_power}
use Rattle.std.specs.Int.{int_rem_euclid}
use Rattle.pauli.proofs.Signed.{euclid, difference}
use Rattle.pauli.proofs.Phase.less.Goals as goal

pub returns : goal.returns
unfolding letter_power
returns c =
    let read = to_z-of_z w32 c.rem_euclid.result (record { sfits = c.rem_euclid.type_inv }) in
    let d = difference c.args.self.power c.args.ys c.from.ensures c.from-2.ensures c.from.type_inv c.from-2.type_inv in
    ap nat_abs (read ∙ c.rem_euclid.ensures.value ∙ ap (λ (z : ℤ). int_rem_euclid z (pos 4)) d) ∙ euclid (pos c.args.self.power -ℤ pos c.args.ys)
