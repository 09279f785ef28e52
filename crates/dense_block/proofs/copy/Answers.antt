-- `dense_block::copy` meets its contract: the words passed and the copy of the rest make the whole copy.
use Rattle.std.proofs.Common.{ℕ, sym, ◌∙◌, arith}
use Rattle.dense_block.proofs.Alongs.{along_step, along_end}
use Rattle.dense_block.proofs.copy.Goals as goal

pub loop-i-preserved : goal.loop-i-preserved
loop-i-preserved c =
    let l = c.loop-i in
    along_step (λ (d s : ℕ). s) l.dst c.args.src.now l.i (omega arith) (omega arith) ∙ l.invariant

pub returns : goal.returns
returns c =
    let l = c.loop-i in
    sym (along_end (λ (d s : ℕ). s) l.dst c.args.src.now l.i (omega arith)) ∙ l.invariant
