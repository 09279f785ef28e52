-- `majorana::check_vacuum` meets its contract: the tests in their order, and then the vacuum rule.
use Prim.Native.Nat.{◌≤◌}
use mathlib.Core.Path.{◌≡◌, sym, ◌∙◌}
use mathlib.Core.Bool.{true, false, ◌||◌}
use mathlib.Core.List.{[], ◌∷◌}
use lib.ListN.{length, take}
use Rattle.refusal.specs.Table.{◌of◌}
use Rattle.refusal.proofs.Rooms.{Hold}
use Rattle.dense_block.specs.Words.{strays}
use Rattle.majorana.specs.Sets.{lent, bad_size, bad_rows}
use Rattle.majorana.specs.Held.{Fits}
use Rattle.majorana.proofs.SetLaws.{Entered, entered, held_in, first_holds, second_holds, none_holds, rows_told}
use Rattle.majorana.specs.Checks.{vacuum_short, vacuum_bad, vacuum_checked}
use Rattle.majorana.proofs.check_vacuum.Goals as goal
use Rattle.majorana.proofs.check_vacuum.Goals.{After-words_for-w, Else-bad_size, Else-short, Else-stray, then-bad_rows-via-then-bad_rows, then-bad_rows-via-else-bad_rows+then-stray}

size_passes : (c : Else-bad_size) → bad_size c.args.set.modes c.args.set.qubits ≡ false
size_passes c = sym c.bad_size.ensures ∙ c.if-bad_size.false

in_range : (c : After-words_for-w) → Entered c.args.set.modes c.args.set.qubits c.words_for-w.result
in_range c = entered _ _ _ (sym c.bad_size.ensures ∙ c.if-bad_size.false) c.words_for-w.ensures

fits : (c : Else-short) → let s = c.args.set in Fits s.modes c.words_for-w.result s.x.now s.z.now s.phases.now × Hold
    (let a = c.args in (c.words_for-w.result of length a.vacuum.now) ∷ [])
fits c =
    let a = c.args in
    let i = entered _ _ _ (sym c.bad_size.ensures ∙ c.if-bad_size.false) c.words_for-w.ensures in
    held_in _ _ _ _ _ ((c.words_for-w.result of length a.vacuum.now) ∷ []) i.size.modes_high i.few (sym c.short.ensures ∙ c.if-short.false)

few : (c : Else-short) → c.args.set.modes ≤ 256
few c = (fits c).0.modes

lengths_pass : (c : Else-short) → vacuum_short (lent c.args.set) c.args.vacuum.now ≡ false
unfolding vacuum_short
lengths_pass c = rw c.words_for-w.ensures at (sym c.short.ensures ∙ c.if-short.false)

values_pass : (c : Else-stray) → vacuum_bad (lent c.args.set) c.args.vacuum.now ≡ false
unfolding vacuum_bad
values_pass c = rw c.words_for-w.ensures at (none_holds (rows_told _ _ _ _ _ _ (entered _ _ _ (sym c.bad_size.ensures ∙ c.if-bad_size.false) c.words_for-w.ensures).size.modes_high (sym c.bad_rows.ensures ∙ c.if-bad_rows.false)) (sym c.stray.ensures ∙ c.if-stray.false))

pub returns-then-bad_size : goal.returns-then-bad_size
unfolding vacuum_checked
returns-then-bad_size c = rw (sym c.bad_size.ensures ∙ c.if-bad_size.true)

pub short-requires : goal.short-requires
short-requires c = let i = in_range (goal.at.short-requires c).After-words_for-w in (i.size.modes_high, i.few)

pub returns-then-short : goal.returns-then-short
unfolding vacuum_checked vacuum_short
returns-then-short c = rw (
  size_passes (goal.at.returns-then-short c).Else-bad_size,
  rw c.words_for-w.ensures at (sym c.short.ensures ∙ c.if-short.true),
)

pub returns-then-bad_rows : goal.returns-then-bad_rows
unfolding vacuum_checked vacuum_bad
returns-then-bad_rows c =
    let s = c.args.set in
    let bad : (bad_rows s.modes s.qubits c.words_for-w.result s.x.now s.z.now s.phases.now || strays (take c.words_for-w.result c.args.vacuum.now) s.qubits) ≡ true = elim c.then-bad_rows.branch [
      | then-bad_rows-via-then-bad_rows w ↦ first_holds _ (rows_told _ _ _ _ _ _ (few (goal.at.returns-then-bad_rows c).Else-short) (sym c.bad_rows.ensures ∙ w.if-bad_rows.true))
      | then-bad_rows-via-else-bad_rows+then-stray w ↦ second_holds (rows_told _ _ _ _ _ _ (few (goal.at.returns-then-bad_rows c).Else-short) (sym c.bad_rows.ensures ∙ w.if-bad_rows.false)) (sym w.stray.ensures ∙ w.if-stray.true)
    ] in
    rw (
      size_passes (goal.at.returns-then-bad_rows c).Else-bad_size,
      lengths_pass (goal.at.returns-then-bad_rows c).Else-short,
      rw c.words_for-w.ensures at bad,
    )

pub of-rows-requires-clause-fits : goal.of-rows-requires-clause-fits
of-rows-requires-clause-fits c = (fits (goal.at.of-rows-requires-clause-fits c).Else-short).0

pub returns-then-not-vacuum_rule : goal.returns-then-not-vacuum_rule
unfolding vacuum_checked
returns-then-not-vacuum_rule c = rw (
  size_passes (goal.at.returns-then-not-vacuum_rule c).Else-bad_size,
  lengths_pass (goal.at.returns-then-not-vacuum_rule c).Else-short,
  values_pass (goal.at.returns-then-not-vacuum_rule c).Else-stray,
  rw (c.of-rows.ensures.set, c.of-rows.ensures.w, c.words_for-w.ensures) at (sym c.vacuum_rule.ensures ∙ c.if-not-vacuum_rule.true),
)

pub returns : goal.returns
unfolding vacuum_checked
returns c = rw (
  size_passes (goal.at.returns c).Else-bad_size,
  lengths_pass (goal.at.returns c).Else-short,
  values_pass (goal.at.returns c).Else-stray,
  rw (c.of-rows.ensures.set, c.of-rows.ensures.w, c.words_for-w.ensures) at (sym c.vacuum_rule.ensures ∙ c.if-not-vacuum_rule.false),
)
