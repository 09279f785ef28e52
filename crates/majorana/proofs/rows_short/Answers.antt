-- `rows_short` meets its contract: the sizes, and then the lengths. 512 rows of 4 words are few enough to count.
use mathlib.Core.Path.{sym, ◌∙◌}
use borrow.Author.Tests.{lt-ltb, le-ltb}
use Rattle.majorana.specs.Sets.{many_or_short}
use Rattle.majorana.proofs.SetLaws.{few_short}
use Rattle.majorana.proofs.rows_short.Goals as goal
use Rattle.majorana.proofs.rows_short.Goals.{then-modes-gt256-via-then-modes-gt256, then-modes-gt256-via-else-modes-gt256+then-w-gt4}

pub returns-then-modes-gt256 : goal.returns-then-modes-gt256
unfolding many_or_short
returns-then-modes-gt256 c = elim c.then-modes-gt256.branch [
  | then-modes-gt256-via-then-modes-gt256 w ↦ simp (lt-ltb _ _ w.if-modes-gt256.true)
  | then-modes-gt256-via-else-modes-gt256+then-w-gt4 w ↦ simp (le-ltb _ _ w.if-modes-gt256.false, lt-ltb _ _ w.if-w-gt4.true)
]

pub returns : goal.returns
returns c =
    c.any_short.ensures ∙ sym (few_short _ _ _ _ _ c.if-modes-gt256.false c.if-w-gt4.false)
