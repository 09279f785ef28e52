-- `majorana::determine_vacuum_state` meets its contract: sizes and lengths, then solving in the room, and the room cleared.
use Prim.Native.Nat.{◌+◌, ◌*◌, ◌≤◌}
use native.Mathlib.Omega.{arith}
use mathlib.Core.Path.{◌≡◌, sym, ◌∙◌}
use mathlib.Core.Bool.{false}
use mathlib.Core.List.{[], ◌∷◌}
use lib.ListN.{length}
use Rattle.refusal.specs.Table.{◌of◌}
use Rattle.refusal.proofs.Rooms.{Hold}
use native.Mathlib.Nat.{mul-le-mul}
use Rattle.dense_block.proofs.Values.{words_hold}
use Rattle.majorana.specs.Sets.{lent, bad_size}
use Rattle.majorana.specs.Held.{Fits}
use Rattle.majorana.proofs.SetLaws.{Entered, entered, held_in}
use Rattle.majorana.specs.Vacuums.{solve_short}
use Rattle.majorana.proofs.VacuumAnswers.{solve_size, solve_short_lem, solve_task}
use Rattle.majorana.proofs.determine_vacuum_state.Goals as goal
use Rattle.majorana.proofs.determine_vacuum_state.Goals.{After-words_for-w, Else-bad_size, Else-short}

size_passes : (c : Else-bad_size) → bad_size c.args.set.modes c.args.set.qubits ≡ false
size_passes c = sym c.bad_size.ensures ∙ c.if-bad_size.false

in_range : (c : After-words_for-w) → Entered c.args.set.modes c.args.set.qubits c.words_for-w.result
in_range c = entered _ _ _ (sym c.bad_size.ensures ∙ c.if-bad_size.false) c.words_for-w.ensures

fits : (c : Else-short) → let s = c.args.set in Fits s.modes c.words_for-w.result s.x.now s.z.now s.phases.now × Hold
    (let a = c.args in (c.words_for-w.result of length a.vacuum.now) ∷ (a.set.modes * (c.words_for-w.result + 1) of length a.room.now) ∷ [])
fits c =
    let a = c.args in
    let i = entered _ _ _ (sym c.bad_size.ensures ∙ c.if-bad_size.false) c.words_for-w.ensures in
    held_in _ _ _ _ _ ((c.words_for-w.result of length a.vacuum.now) ∷ (a.set.modes * (c.words_for-w.result + 1) of length a.room.now) ∷ []) i.size.modes_high i.few (sym c.short.ensures ∙ c.if-short.false)

lengths_pass : (c : Else-short) → solve_short (lent c.args.set) c.args.vacuum.now c.args.room.now ≡ false
unfolding solve_short
lengths_pass c = rw c.words_for-w.ensures at (sym c.short.ensures ∙ c.if-short.false)

pub returns-then-bad_size : goal.returns-then-bad_size
returns-then-bad_size c = solve_size (lent c.args.set) c.args.vacuum.now c.args.room.now (sym c.bad_size.ensures ∙ c.if-bad_size.true)

pub overflow_mul-need : goal.overflow_mul-need
overflow_mul-need c =
    let i = in_range (goal.at.overflow_mul-need c).After-words_for-w in
    let h : c.words_for-w.result + 1 ≤ 5 = omega (arith, i.few) in
    record { fits = omega (arith, mul-le-mul i.size.modes_high h) }

pub short-requires : goal.short-requires
short-requires c = let i = in_range (goal.at.short-requires c).After-words_for-w in (i.size.modes_high, i.few)

pub returns-then-short : goal.returns-then-short
unfolding solve_short
returns-then-short c =
    solve_short_lem (lent c.args.set) c.args.vacuum.now c.args.room.now (size_passes (goal.at.returns-then-short c).Else-bad_size)
    (rw c.words_for-w.ensures at (sym c.short.ensures ∙ c.if-short.true))

pub solve_lent-answer-requires : goal.solve_lent-answer-requires
solve_lent-answer-requires c =
    let f = fits (goal.at.solve_lent-answer-requires c).Else-short in
    let n = c.args.set.modes in
    let w = c.words_for-w.result in
    (f.0, omega (arith, words_hold c.args.set.qubits, c.words_for-w.ensures), f.1.0, f.1.1.0)

pub returns : goal.returns
returns c =
    let a = c.args in
    let w = c.words_for-w.ensures in
    let l = c.solve_lent-answer in
    solve_task (lent a.set) a.vacuum.now a.room.now (size_passes (goal.at.returns c).Else-bad_size) (lengths_pass (goal.at.returns c).Else-short)
    l.result l.new.v l.new.room c.clear.new.s (rw w at l.ensures) (rw w at c.clear.ensures)
