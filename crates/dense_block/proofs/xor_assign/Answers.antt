-- `dense_block::xor_assign` meets its contract: the words passed and the sum of the rest make the whole sum.
use Rattle.std.proofs.Common.{sym, ◌∙◌, arith}
use lib.Bits.{bit_xor}
use Rattle.dense_block.proofs.Alongs.{along_step, along_end}
use Rattle.dense_block.proofs.xor_assign.Goals as goal

pub loop-i-preserved : goal.loop-i-preserved
loop-i-preserved c =
    let l = c.loop-i in
    along_step bit_xor l.dst c.args.src.now l.i (omega arith) (omega arith) ∙ l.invariant

pub returns : goal.returns
returns c =
    let l = c.loop-i in
    sym (along_end bit_xor l.dst c.args.src.now l.i (omega arith)) ∙ l.invariant
