-- `dense_block::fold_both` meets its contract: as `fold_and`, with the two folds in one.
use Rattle.std.proofs.Common.{ℕ, ◌%◌, ap, ◌∙◌, ap₂, arith}
use lib.Bits.{bit_xor}
use lib.Count.{ones}
use Rattle.algebra.proofs.Dots.{ones_xor}
use Rattle.dense_block.proofs.Folds.{both_dot, both_next, both_done}
use Rattle.dense_block.proofs.fold_both.Goals as goal

pub returns-then-min-n : goal.returns-then-min-n
returns-then-min-n c =
    let p = c.fold_and.ensures in
    let q = c.fold_and-then-min-n.ensures in
    record { word = ap₂ bit_xor p.word q.word; parity = omega (arith, ones_xor c.fold_and.result c.fold_and-then-min-n.result, p.parity, q.parity) }

pub loop-i-preserved : goal.loop-i-preserved
loop-i-preserved c =
    let l = c.loop-i in
    let a = c.args in
    both_next a.a.now a.b.now a.c.now a.d.now l.i l.sum _ (omega arith) (omega arith) (omega arith) (omega arith)
    l.invariant

pub returns : goal.returns
returns c =
    let l = c.loop-i in
    let a = c.args in
    let e = both_done a.a.now a.b.now a.c.now a.d.now l.i l.sum _ (omega arith) (omega arith) l.invariant in record {
      word = e;
      parity = ap (λ (c : ℕ). ones c % 2) e
          ∙ both_dot a.a.now a.b.now a.c.now a.d.now (λ i. (c.type_inv.a i).fits) (λ i. (c.type_inv.b i).fits) (λ i. (c.type_inv.c i).fits) (λ i. (c.type_inv.d i).fits);
    }
