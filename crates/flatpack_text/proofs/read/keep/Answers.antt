-- `flatpack_text::read::keep` meets its contract: four stores, one after the other.
use Prim.Native.Nat.{◌*◌}
use borrow.Author.Tests.{lt-ltb, le-ltb}
use Rattle.flatpack_text.specs.Moves.{kept_at}
use Rattle.flatpack_text.proofs.Tables.{four_stores}
use Rattle.flatpack_text.proofs.read.keep.Goals as goal

pub returns-then-n-lt256 : goal.returns-then-n-lt256
unfolding kept_at
returns-then-n-lt256 c =
    let a = c.args in
    rw (lt-ltb _ _ c.if-n-lt256.true) (four_stores a.table.now (4 * a.n) a.q a.x a.y a.z c.put.ensures c.put-then-n-lt256.ensures c.put-then-n-lt256-2.ensures c.put-then-n-lt256-3.ensures)

pub returns-else-n-lt256 : goal.returns-else-n-lt256
unfolding kept_at
returns-else-n-lt256 c = rw (le-ltb _ _ c.if-n-lt256.false)
