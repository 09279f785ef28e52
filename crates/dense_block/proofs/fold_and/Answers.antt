-- `dense_block::fold_and` meets its contract: the fold so far and that of the rest make the whole fold.
use Rattle.std.proofs.Common.{ℕ, ◌%◌, ap, ◌∙◌, arith}
use lib.Count.{ones}
use Rattle.dense_block.proofs.Folds.{folded_dot, fold_next, fold_done}
use Rattle.dense_block.proofs.fold_and.Goals as goal

pub loop-at-preserved : goal.loop-at-preserved
loop-at-preserved c =
    let l = c.loop-at in
    let a = c.args in
    fold_next a.a.now a.b.now l.at l.sum _ (omega arith) (omega arith) l.invariant

pub returns : goal.returns
returns c =
    let l = c.loop-at in
    let a = c.args in
    let e = fold_done a.a.now a.b.now l.at l.sum _ (omega arith) l.invariant in record {
      word = e;
      parity = ap (λ (k : ℕ). ones k % 2) e
          ∙ folded_dot a.a.now a.b.now (λ i. (c.type_inv.a i).fits)
          (λ i. (c.type_inv.b i).fits);
    }
