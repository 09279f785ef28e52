-- `flatpack_text::read::count_on` meets its contract.
use borrow.Author.Tests.{lt-ltb, le-ltb}
use Rattle.flatpack_text.specs.Moves.{more}
use Rattle.flatpack_text.proofs.read.count_on.Goals as goal

pub returns-then-n-lt1000000000 : goal.returns-then-n-lt1000000000
unfolding more
returns-then-n-lt1000000000 c = rw (lt-ltb _ _ c.if-n-lt1000000000.true)

pub returns-else-n-lt1000000000 : goal.returns-else-n-lt1000000000
unfolding more
returns-else-n-lt1000000000 c = rw (le-ltb _ _ c.if-n-lt1000000000.false)
