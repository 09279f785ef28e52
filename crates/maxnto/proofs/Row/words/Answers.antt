-- `maxnto::Row::words` meets its contract: the X part is a sum of ones below three bounds, the Z part of row 2i is ones below one bound or a
-- sum of two, that of row 2i + 1 the same with the X part added, and so is each of their words.
use native.Mathlib.Omega.{arith}
use mathlib.Core.Path.{◌≡◌}
use borrow.Author.Tests.{eq-eqb, ne_eqb}
use Prim.Native.Nat.{◌/◌}
use lib.Bits.{bit_xor}
use Rattle.dense_block.specs.Blocks.{word_at}
use Rattle.maxnto.specs.Formula.{columns, z_at, x_part, z_part}
use Rattle.maxnto.proofs.Masks.{x_word_is, z_word_even, z_word_odd, z_word_flipped}
use Rattle.maxnto.proofs.Row.words.Goals as goal
use Rattle.maxnto.proofs.Row.words.Goals.{After-ones_below, then-i-eq0, else-i-eq0}

x_told : (c : After-ones_below) → bit_xor c.ones_below-all.result (bit_xor c.ones_below.result c.ones_below-upto.result)
    ≡ word_at (x_part c.args.self.modes c.args.self.number) c.args.k
unfolding x_part
x_told c = x_word_is _ _ c.args.k (omega arith) c.ones_below-all.ensures c.ones_below.ensures c.ones_below-upto.ensures

pub returns-then-self-eq0-clause-x_word : goal.returns-then-self-eq0-clause-x_word
returns-then-self-eq0-clause-x_word c = x_told (goal.at.returns-then-self-eq0-clause-x_word c).After-ones_below

pub returns-then-self-eq0-clause-z_word : goal.returns-then-self-eq0-clause-z_word
unfolding z_part
returns-then-self-eq0-clause-z_word c =
    let even : c.if-i-eq0.even ≡ word_at (columns c.args.self.modes (z_at (c.args.self.number / 2))) c.args.k = elim c.if-i-eq0.branch [
      | then-i-eq0 w ↦ rw w.even-is (z_word_even _ _ c.args.k (omega arith) w.if-i-eq0.true c.ones_below-upto.ensures)
      | else-i-eq0 w ↦ rw w.even-is (z_word_odd _ _ c.args.k (omega arith) w.if-i-eq0.false c.ones_below-all.ensures c.ones_below-upto.ensures)
    ] in
    rw (eq-eqb _ 0 c.if-self-eq0.true) even

pub returns-else-self-eq0-clause-x_word : goal.returns-else-self-eq0-clause-x_word
returns-else-self-eq0-clause-x_word c = x_told (goal.at.returns-else-self-eq0-clause-x_word c).After-ones_below

pub returns-else-self-eq0-clause-z_word : goal.returns-else-self-eq0-clause-z_word
unfolding x_part z_part
returns-else-self-eq0-clause-z_word c =
    let even : c.if-i-eq0.even ≡ word_at (columns c.args.self.modes (z_at (c.args.self.number / 2))) c.args.k = elim c.if-i-eq0.branch [
      | then-i-eq0 w ↦ rw w.even-is (z_word_even _ _ c.args.k (omega arith) w.if-i-eq0.true c.ones_below-upto.ensures)
      | else-i-eq0 w ↦ rw w.even-is (z_word_odd _ _ c.args.k (omega arith) w.if-i-eq0.false c.ones_below-all.ensures c.ones_below-upto.ensures)
    ] in
    let at = goal.at.returns-else-self-eq0-clause-z_word c in
    rw (ne_eqb _ 0 c.if-self-eq0.false) (z_word_flipped _ _ _ even (x_told at.After-ones_below))
