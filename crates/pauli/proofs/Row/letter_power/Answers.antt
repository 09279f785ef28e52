-- `Row::letter_power` meets its contract: the count is taken modulo a multiple of 4, which the letter power does not see.
use native.Mathlib.Omega.{arith}
use mathlib.Core.Path.{◌∙◌}
use Prim.Native.Nat.{◌%◌}
use Rattle.algebra.specs.Rows.{common}
use Rattle.dense_block.specs.Words.{value}
use Rattle.pauli.proofs.Signed.{letter_power_mod}
use Rattle.pauli.proofs.Row.letter_power.Goals as goal

pub returns : goal.returns
returns c =
    let a = c.args in
    c.less.ensures ∙ letter_power_mod a.self.phase.power (c.and_count_ones.result % 65536) (common (value a.self.x.now) (value a.self.z.now))
    (omega (arith, c.and_count_ones.ensures))
