-- `dense_block::and_count_ones` meets its contract: what is counted and what is left make the whole, modulo 2^32.
use Rattle.std.proofs.Common.{arith}
use Rattle.dense_block.proofs.Commons.{common_step, common_end}
use Rattle.dense_block.proofs.and_count_ones.Goals as goal

pub loop-i-preserved : goal.loop-i-preserved
loop-i-preserved c =
    let l = c.loop-i in
    let a = c.args in
    omega (arith, common_step a.a.now a.b.now l.i (λ i. (c.type_inv.a i).fits) (λ i. (c.type_inv.b i).fits))

pub returns : goal.returns
returns c =
    let l = c.loop-i in
    let a = c.args in
    omega (arith, common_end a.a.now a.b.now l.i (omega arith))
