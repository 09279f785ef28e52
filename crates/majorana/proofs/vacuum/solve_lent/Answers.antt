-- `vacuum::solve_lent` meets its contract: the test of the rows, then solving.
use mathlib.Core.Path.{refl, sym, ◌∙◌}
use Rattle.majorana.specs.Sets.{modes_at}
use Rattle.majorana.proofs.SetLaws.{rows_told}
use Rattle.majorana.proofs.VacuumLaws.{solved_done, solved_none}
use Rattle.majorana.proofs.vacuum.solve_lent.Goals as goal

pub returns-then-bad_rows : goal.returns-then-bad_rows
returns-then-bad_rows c =
    rw (rows_told _ _ _ _ _ _ c.requires.0.modes (sym c.bad_rows.ensures ∙ c.if-bad_rows.true))
    (record { answer = refl; string = refl; same = record { long = refl; behind = refl } })

pub returns-else-solve_held : goal.returns-else-solve_held
returns-else-solve_held c =
    let a = c.args in
    let s = a.set in
    let e = rw (c.of.ensures.set, c.of.ensures.w) at c.solve_held.ensures in
    solved_none (modes_at s.modes a.w s.x.now s.z.now s.phases.now) s.qubits a.w a.v.now a.room.now
    (rows_told _ _ _ _ _ _ c.requires.0.modes (sym c.bad_rows.ensures ∙ c.if-bad_rows.false)) (sym e.0 ∙ c.if-solve_held.false) e.1 e.2

pub returns-then-solve_held : goal.returns-then-solve_held
returns-then-solve_held c =
    let a = c.args in
    let s = a.set in
    let e = rw (c.of.ensures.set, c.of.ensures.w) at c.solve_held.ensures in
    solved_done (modes_at s.modes a.w s.x.now s.z.now s.phases.now) s.qubits a.w a.v.now a.room.now
    (rows_told _ _ _ _ _ _ c.requires.0.modes (sym c.bad_rows.ensures ∙ c.if-bad_rows.false)) (sym e.0 ∙ c.if-solve_held.true) e.1 e.2
