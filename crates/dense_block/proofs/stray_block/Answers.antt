-- `dense_block::stray_block` meets its contract: rows that end in the word of column q are settled by that word, and one that is cut off has none.
use Rattle.std.proofs.Common.{ℕ, ◌%◌, sym, ◌∙◌, arith}
use Rattle.refusal.proofs.Searches.{none_of}
use Rattle.dense_block.specs.Words.{strays, term_of, strays_in}
use Rattle.dense_block.proofs.Strays.{narrow, not_zero, whole_inside, whole_rows}
use Rattle.dense_block.proofs.stray_block.Goals as goal

pub returns-then-width-at : goal.returns-then-width-at
unfolding strays_in
returns-then-width-at c =
    let a = c.args in
    sym (none_of a.count (λ (j : ℕ). let a = c.args in strays (term_of a.width a.x.now j) a.q)
    (λ j h. narrow a.width a.x.now j a.q (λ i. (c.type_inv.x i).fits) c.if-width-at.true))

pub joined-requires : goal.joined-requires
joined-requires c =
    let a = c.args in
    (omega arith, whole_inside a.width a.x.now a.q (λ i. (c.type_inv.x i).fits) c.if-width-at-2.true a.count c.min-whole.result c.min-whole.ensures)

pub returns-then-width-at-2 : goal.returns-then-width-at-2
returns-then-width-at-2 c =
    let a = c.args in
    not_zero _ ∙ c.joined.ensures (a.q % 64)
    ∙ sym (whole_rows a.width a.x.now a.q (λ i. (c.type_inv.x i).fits) c.if-width-at-2.true a.count c.min-whole.result c.min-whole.ensures)
