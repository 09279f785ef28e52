-- `majorana::try_encode` meets its contract: the tests in their order, and then the encoding of the words that the columns take.
use Prim.Native.Nat.{◌≤◌}
use mathlib.Core.Path.{◌≡◌, sym, ◌∙◌}
use mathlib.Core.Bool.{true, false, ◌||◌}
use mathlib.Core.List.{[], ◌∷◌}
use lib.ListN.{length, take}
use Rattle.refusal.specs.Table.{◌of◌}
use Rattle.refusal.proofs.Rooms.{Hold}
use Rattle.dense_block.specs.Words.{strays}
use Rattle.majorana.specs.Sets.{lent, bad_size, bad_rows}
use Rattle.majorana.specs.Held.{Fits}
use Rattle.majorana.proofs.SetLaws.{Entered, entered, held_in, first_holds, second_holds, none_holds, rows_told}
use Rattle.majorana.specs.Codes.{encoded, encode_short, encode_bad}
use Rattle.majorana.proofs.CodeAnswers.{encode_size, encode_short_lem, encode_value, encode_run}
use Rattle.majorana.proofs.try_encode.Goals as goal
use Rattle.majorana.proofs.try_encode.Goals.{After-words_for-w, Else-bad_size, Else-short, then-bad_rows-via-then-bad_rows, then-bad_rows-via-else-bad_rows+then-stray, then-bad_rows-via-else-bad_rows+else-stray+then-stray-2}

size_passes : (c : Else-bad_size) → bad_size c.args.set.modes c.args.set.qubits ≡ false
size_passes c = sym c.bad_size.ensures ∙ c.if-bad_size.false

in_range : (c : After-words_for-w) → Entered c.args.set.modes c.args.set.qubits c.words_for-w.result
in_range c = entered _ _ _ (sym c.bad_size.ensures ∙ c.if-bad_size.false) c.words_for-w.ensures

fits : (c : Else-short) → let s = c.args.set in Fits s.modes c.words_for-w.result s.x.now s.z.now s.phases.now × Hold
    (let a = c.args in (c.words_for-w.result of length a.vacuum.now) ∷ (c.words_for-lw.result of length a.list.now) ∷ (c.words_for-w.result of length a.out.now) ∷ [])
fits c =
    let a = c.args in
    let i = entered _ _ _ (sym c.bad_size.ensures ∙ c.if-bad_size.false) c.words_for-w.ensures in
    held_in _ _ _ _ _ ((c.words_for-w.result of length a.vacuum.now) ∷ (c.words_for-lw.result of length a.list.now) ∷ (c.words_for-w.result of length a.out.now) ∷ []) i.size.modes_high i.few (sym c.short.ensures ∙ c.if-short.false)

few : (c : Else-short) → c.args.set.modes ≤ 256
few c = (fits c).0.modes

lengths_pass : (c : Else-short) → encode_short (lent c.args.set) c.args.vacuum.now c.args.list.now c.args.out.now ≡ false
unfolding encode_short
lengths_pass c = rw (c.words_for-w.ensures, c.words_for-lw.ensures) at (sym c.short.ensures ∙ c.if-short.false)

pub returns-then-bad_size : goal.returns-then-bad_size
returns-then-bad_size c = encode_size (lent c.args.set) c.args.vacuum.now c.args.list.now c.args.out.now (sym c.bad_size.ensures ∙ c.if-bad_size.true)

pub short-requires : goal.short-requires
short-requires c = let i = in_range (goal.at.short-requires c).After-words_for-w in (i.size.modes_high, i.few)

pub returns-then-short : goal.returns-then-short
unfolding encode_short
returns-then-short c =
    encode_short_lem (lent c.args.set) c.args.vacuum.now c.args.list.now c.args.out.now (size_passes (goal.at.returns-then-short c).Else-bad_size)
    (rw (c.words_for-w.ensures, c.words_for-lw.ensures) at (sym c.short.ensures ∙ c.if-short.true))

pub returns-then-bad_rows : goal.returns-then-bad_rows
unfolding encode_bad
returns-then-bad_rows c =
    let s = c.args.set in
    let v = strays (take c.words_for-w.result c.args.vacuum.now) s.qubits in
    let bad : (bad_rows s.modes s.qubits c.words_for-w.result s.x.now s.z.now s.phases.now || (v || strays (take c.words_for-lw.result c.args.list.now) s.modes)) ≡ true = elim c.then-bad_rows.branch [
      | then-bad_rows-via-then-bad_rows w ↦ first_holds _ (rows_told _ _ _ _ _ _ (few (goal.at.returns-then-bad_rows c).Else-short) (sym c.bad_rows.ensures ∙ w.if-bad_rows.true))
      | then-bad_rows-via-else-bad_rows+then-stray w ↦ second_holds (rows_told _ _ _ _ _ _ (few (goal.at.returns-then-bad_rows c).Else-short) (sym c.bad_rows.ensures ∙ w.if-bad_rows.false)) (first_holds _ (sym w.stray.ensures ∙ w.if-stray.true))
      | then-bad_rows-via-else-bad_rows+else-stray+then-stray-2 w ↦
          second_holds (rows_told _ _ _ _ _ _ (few (goal.at.returns-then-bad_rows c).Else-short) (sym c.bad_rows.ensures ∙ w.if-bad_rows.false)) (second_holds (sym w.stray.ensures ∙ w.if-stray.false) (sym w.stray-else-stray.ensures ∙ w.if-stray-2.true))
    ] in
    encode_value (lent c.args.set) c.args.vacuum.now c.args.list.now c.args.out.now (size_passes (goal.at.returns-then-bad_rows c).Else-bad_size)
    (lengths_pass (goal.at.returns-then-bad_rows c).Else-short) (rw (c.words_for-w.ensures, c.words_for-lw.ensures) at bad)

pub of-requires-clause-fits : goal.of-requires-clause-fits
of-requires-clause-fits c = (fits (goal.at.of-requires-clause-fits c).Else-short).0

pub returns : goal.returns
unfolding encoded encode_bad
returns c =
    let good =
    none_holds (rows_told _ _ _ _ _ _ (few (goal.at.returns c).Else-short) (sym c.bad_rows.ensures ∙ c.if-bad_rows.false)) (none_holds (sym c.stray.ensures ∙ c.if-stray.false) (sym c.stray-else-stray.ensures ∙ c.if-stray-2.false)) in
    let r = rw (c.of.ensures.set, c.of.ensures.w) at c.encode.ensures in
    let done = rw (c.words_for-w.ensures, c.words_for-lw.ensures) at r in
    encode_run (lent c.args.set) c.args.vacuum.now c.args.list.now c.args.out.now (size_passes (goal.at.returns c).Else-bad_size)
    (lengths_pass (goal.at.returns c).Else-short) (rw (c.words_for-w.ensures, c.words_for-lw.ensures) at good) _ _ done.0 done.1
