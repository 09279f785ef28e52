-- `flip` meets its contract.
use Prim.Native.Nat.{◌%◌}
use native.Mathlib.Omega.{arith}
use Rattle.dense_block.proofs.Columns.{one_shl}
use Rattle.ternarytree.specs.Tables.{flipped}
use Rattle.ternarytree.proofs.writing.flip.Goals as goal

pub returns : goal.returns
unfolding flipped
returns c = rw (one_shl (c.args.j % 64) (omega arith))
