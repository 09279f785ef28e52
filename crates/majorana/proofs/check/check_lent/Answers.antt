-- `check::check_lent` meets its contract: the test of the rows, then that of the string, then the task.
use mathlib.Core.Path.{◌≡◌, refl, sym, ◌∙◌}
use mathlib.Core.Bool.{true, ◌||◌}
use Rattle.dense_block.specs.Words.{strays}
use Rattle.majorana.specs.Sets.{bad_in}
use Rattle.majorana.proofs.SetLaws.{first_holds, second_holds, none_holds, rows_told}
use Rattle.majorana.proofs.check.check_lent.Goals as goal
use Rattle.majorana.proofs.check.check_lent.Goals.{then-bad_rows-via-then-bad_rows, then-bad_rows-via-else-bad_rows+then-stray}

pub returns-then-bad_rows : goal.returns-then-bad_rows
returns-then-bad_rows c =
    let a = c.args in
    let few = c.requires.0.modes in
    let bad : (bad_in a.set a.w || strays a.v.now a.set.qubits) ≡ true = elim c.then-bad_rows.branch [
      | then-bad_rows-via-then-bad_rows w ↦ first_holds _ (rows_told _ _ _ _ _ _ few (sym c.bad_rows.ensures ∙ w.if-bad_rows.true))
      | then-bad_rows-via-else-bad_rows+then-stray w ↦
          second_holds (rows_told _ _ _ _ _ _ few (sym c.bad_rows.ensures ∙ w.if-bad_rows.false)) (sym w.stray.ensures ∙ w.if-stray.true)
    ] in
    (rw bad, record { long = refl; behind = refl })

pub returns : goal.returns
returns c =
    let good =
    none_holds (rows_told _ _ _ _ _ _ c.requires.0.modes (sym c.bad_rows.ensures ∙ c.if-bad_rows.false)) (sym c.stray.ensures ∙ c.if-stray.false) in
    rw good (rw (c.of.ensures.set, c.of.ensures.w) at c.check_held.ensures)
