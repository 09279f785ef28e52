-- `majorana::new` meets its contract: sizes and lengths, then solving and checking in the room, and the room cleared.
use Prim.Native.Nat.{◌*◌, ◌≤◌}
use native.Mathlib.Omega.{arith}
use mathlib.Core.Path.{◌≡◌, sym, ◌∙◌}
use mathlib.Core.Bool.{false}
use mathlib.Core.List.{[], ◌∷◌}
use lib.ListN.{length}
use Rattle.refusal.specs.Table.{◌of◌}
use Rattle.refusal.proofs.Rooms.{Hold}
use native.Mathlib.Nat.{mul-le-mul}
use Rattle.dense_block.proofs.Values.{words_hold}
use Rattle.majorana.specs.Sets.{lent, bad_size}
use Rattle.majorana.specs.Held.{Fits}
use Rattle.majorana.proofs.SetLaws.{Entered, entered, held_in}
use Rattle.majorana.specs.Checks.{rows_short}
use Rattle.majorana.proofs.VacuumAnswers.{new_size, new_short, new_done}
use Rattle.majorana.proofs.CheckAnswers.{four_fold}
use Rattle.majorana.proofs.VacuumLaws.{room_within}
use Rattle.majorana.proofs.new.Goals as goal
use Rattle.majorana.proofs.new.Goals.{After-words_for-w, Else-bad_size, Else-short}

size_passes : (c : Else-bad_size) → bad_size c.args.set.modes c.args.set.qubits ≡ false
size_passes c = sym c.bad_size.ensures ∙ c.if-bad_size.false

in_range : (c : After-words_for-w) → Entered c.args.set.modes c.args.set.qubits c.words_for-w.result
in_range c = entered _ _ _ (sym c.bad_size.ensures ∙ c.if-bad_size.false) c.words_for-w.ensures

fits : (c : Else-short) → let s = c.args.set in Fits s.modes c.words_for-w.result s.x.now s.z.now s.phases.now × Hold
    (let a = c.args in (c.words_for-w.result of length a.vacuum.now) ∷ (4 * a.set.modes * c.words_for-w.result of length a.room.now) ∷ [])
fits c =
    let a = c.args in
    let i = entered _ _ _ (sym c.bad_size.ensures ∙ c.if-bad_size.false) c.words_for-w.ensures in
    held_in _ _ _ _ _ ((c.words_for-w.result of length a.vacuum.now) ∷ (4 * a.set.modes * c.words_for-w.result of length a.room.now) ∷ []) i.size.modes_high i.few (sym c.short.ensures ∙ c.if-short.false)

lengths_pass : (c : Else-short) → rows_short (lent c.args.set) c.args.vacuum.now c.args.room.now ≡ false
unfolding rows_short
lengths_pass c = rw c.words_for-w.ensures at (sym c.short.ensures ∙ c.if-short.false)

pub returns-then-bad_size : goal.returns-then-bad_size
returns-then-bad_size c = new_size (lent c.args.set) c.args.vacuum.now c.args.room.now (sym c.bad_size.ensures ∙ c.if-bad_size.true)

pub overflow_mul-need : goal.overflow_mul-need
overflow_mul-need c = record { fits = omega (arith, (in_range (goal.at.overflow_mul-need c).After-words_for-w).size.modes_high) }

pub overflow_mul-need-2 : goal.overflow_mul-need-2
overflow_mul-need-2 c =
    let i = in_range (goal.at.overflow_mul-need-2 c).After-words_for-w in
    let h : 4 * c.args.set.modes ≤ 1024 = omega (arith, i.size.modes_high) in
    record { fits = omega (arith, mul-le-mul h i.few) }

pub short-requires : goal.short-requires
short-requires c = let i = in_range (goal.at.short-requires c).After-words_for-w in (i.size.modes_high, i.few)

pub returns-then-short : goal.returns-then-short
unfolding rows_short
returns-then-short c =
    new_short (lent c.args.set) c.args.vacuum.now c.args.room.now (size_passes (goal.at.returns-then-short c).Else-bad_size)
    (rw c.words_for-w.ensures at (sym c.short.ensures ∙ c.if-short.true))

pub new_lent-answer-requires : goal.new_lent-answer-requires
new_lent-answer-requires c =
    let f = fits (goal.at.new_lent-answer-requires c).Else-short in
    let n = c.args.set.modes in
    let w = c.words_for-w.result in
    let i = in_range (goal.at.new_lent-answer-requires c).After-words_for-w in (
      f.0,
      omega (arith, words_hold c.args.set.qubits, c.words_for-w.ensures),
      f.1.0,
      room_within n w i.some,
      omega (arith, f.1.1.0, four_fold n w),
    )

pub returns : goal.returns
returns c =
    let a = c.args in
    let w = c.words_for-w.ensures in
    let l = c.new_lent-answer in
    let size = four_fold a.set.modes c.words_for-w.result in
    new_done (lent a.set) a.vacuum.now a.room.now (size_passes (goal.at.returns c).Else-bad_size) (lengths_pass (goal.at.returns c).Else-short)
    l.result l.new.out l.new.room c.clear.new.s (rw w at l.ensures) (rw w at (rw (← size) at l.ensures.same)) (rw w at c.clear.ensures)
