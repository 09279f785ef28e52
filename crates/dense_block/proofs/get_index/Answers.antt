-- `dense_block::get_index` meets its contract: a column is a digit of one word.
use Rattle.std.proofs.Common.{ℕ, ◌/◌, ◌%◌, ◌^◌, eqb, sym, ap, ◌∙◌}
use lib.Bits.{and_mask}
use Rattle.algebra.specs.Rows.{bit}
use Rattle.dense_block.specs.Words.{column}
use Rattle.dense_block.proofs.Columns.{bit_value}
use Rattle.dense_block.proofs.get_index.Goals as goal

pub returns : goal.returns
unfolding column bit
returns c =
    let a = c.args in
    ap (λ (x : ℕ). eqb x 1)
    (and_mask (c.word.result / 2 ^ (a.j % 64)) 1
    ∙ ap (λ (x : ℕ). bit x (a.j % 64)) c.word.ensures
    ∙ sym (bit_value a.s.now a.j (λ i. (c.type_inv.s i).fits)))
