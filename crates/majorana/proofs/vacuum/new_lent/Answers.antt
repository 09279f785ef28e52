-- `vacuum::new_lent` meets its contract: the test of the rows, then solving, then the row check with the string that is found.
use mathlib.Core.Path.{◌≡◌, refl, sym, ◌∙◌}
use mathlib.Core.List.{[], ◌∷◌}
use lib.ListN.{take}
use lib.Seq.{length-take-le}
use Rattle.std.proofs.Common.{rules}
use Rattle.std.specs.Prelude.{Err}
use Rattle.majorana.specs.Sets.{modes_at}
use Rattle.majorana.proofs.SetLaws.{rows_told}
use Rattle.majorana.proofs.VacuumLaws.{new_none, new_refused, new_done_lem}
use Rattle.majorana.proofs.vacuum.new_lent.Goals as goal

pub returns-then-bad_rows : goal.returns-then-bad_rows
returns-then-bad_rows c =
    rw (rows_told _ _ _ _ _ _ c.requires.0.modes (sym c.bad_rows.ensures ∙ c.if-bad_rows.true))
    (record { answer = refl; string = refl; same = record { long = refl; behind = refl } })

pub returns-then-not-solve_held : goal.returns-then-not-solve_held
returns-then-not-solve_held c =
    let a = c.args in
    let s = a.set in
    let e = rw (c.of-rows.ensures.set, c.of-rows.ensures.w) at c.solve_held.ensures in
    new_none (modes_at s.modes a.w s.x.now s.z.now s.phases.now) s.qubits a.w a.out.now a.room.now c.requires.3
    (rows_told _ _ _ _ _ _ c.requires.0.modes (sym c.bad_rows.ensures ∙ c.if-bad_rows.false)) (sym e.0 ∙ c.if-not-solve_held.true) e.2

pub returns-in_err-check_held : goal.returns-in_err-check_held
returns-in_err-check_held c =
    let a = c.args in
    let s = a.set in
    let e = rw (c.of-rows.ensures.set, c.of-rows.ensures.w) at c.solve_held.ensures in
    let f = rw (c.of-rows.ensures.set, c.of-rows.ensures.w) at c.check_held.ensures in
    let why = c.in_err-check_held.field-0.0 in
    let same : c.from_residual.result ≡ Err why = search rules in
    rw same (new_refused (modes_at s.modes a.w s.x.now s.z.now s.phases.now) s.qubits a.w a.out.now a.room.now c.requires.3 (take a.w (0 ∷ 0 ∷ 0 ∷ 0 ∷ [])) c.solve_held.new.v why
    (rows_told _ _ _ _ _ _ c.requires.0.modes (sym c.bad_rows.ensures ∙ c.if-bad_rows.false)) (sym e.0 ∙ c.if-not-solve_held.false) c.requires.1 (length-take-le _ _ c.requires.0.words) e.1 e.2
    (rw c.in_err-check_held.was at f.0) f.1)

pub returns : goal.returns
returns c =
    let a = c.args in
    let s = a.set in
    let e = rw (c.of-rows.ensures.set, c.of-rows.ensures.w) at c.solve_held.ensures in
    let f = rw (c.of-rows.ensures.set, c.of-rows.ensures.w) at c.check_held.ensures in
    rw c.copy_from_slice.ensures.after (new_done_lem (modes_at s.modes a.w s.x.now s.z.now s.phases.now) s.qubits a.w a.out.now a.room.now c.requires.3 (take a.w (0 ∷ 0 ∷ 0 ∷ 0 ∷ [])) c.solve_held.new.v
    (rows_told _ _ _ _ _ _ c.requires.0.modes (sym c.bad_rows.ensures ∙ c.if-bad_rows.false)) (sym e.0 ∙ c.if-not-solve_held.false) c.requires.1 (length-take-le _ _ c.requires.0.words) e.1 e.2
    (rw c.in_ok-check_held.was at f.0) f.1)
