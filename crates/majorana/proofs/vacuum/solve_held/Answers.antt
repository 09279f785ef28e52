-- `vacuum::solve_held` meets its contract: a mode that is not paired leaves no vacuum; else the equations decide.
use Prim.Native.Nat.{◌+◌, ◌*◌}
use native.Mathlib.Omega.{arith}
use mathlib.Core.Path.{refl, sym, ap, ◌∙◌}
use lib.ListN.{length, drop}
use borrow.Author.Tests.{le-leb}
use Rattle.refusal.specs.Search.{Least}
use Rattle.refusal.proofs.Bools.{both}
use Rattle.dense_block.proofs.Clears.{length_zeroed, drop_zeroed}
use Rattle.elimination.specs.Solving.{written}
use Rattle.elimination.proofs.Answers.{fits_of}
use Rattle.elimination.proofs.Vacuums.{solve_call}
use Rattle.majorana.specs.HeldRows.{modes_of}
use Rattle.majorana.proofs.VacuumLaws.{unpaired, all_paired_lem, left_loaded, right_loaded, left_below}
use Rattle.majorana.proofs.vacuum.solve_held.Goals as goal

pub returns-then-not-all_paired : goal.returns-then-not-all_paired
returns-then-not-all_paired c =
    let r = c.args.rows.now in
    let u = unpaired (modes_of r) r.set.qubits (sym c.all_paired.ensures ∙ c.if-not-all_paired.true) in
    (sym u.0, sym (ap (λ (l : Least). written r.w l c.args.v.now) u.1), record { long = refl; behind = refl })

pub returns : goal.returns
returns c =
    let a = c.args in
    let r = a.rows.now in
    let s = r.set in
    let m = modes_of r in
    let size = s.modes * (r.w + 1) in
    let loaded = c.load_equations.ensures in
    let ws = c.load_equations.new.room in
    let call = c.solve_rows in
    let all = all_paired_lem m (sym c.all_paired.ensures ∙ c.if-not-all_paired.false) in
    let done = solve_call m s.qubits r.w ws a.v.now call.new.v call.new.room call.result call.ensures all
    (both (fits_of 256 5 s.modes (r.w + 1) (length ws)
    (record {
      few = r.held.fits.modes;
      narrow = omega (arith, r.held.fits.words);
      inside = omega (arith, c.requires.2, loaded.same.long);
    })) (le-leb r.w (length a.v.now) c.requires.1))
    c.requires.0
    (λ i h. (
      left_loaded s.modes s.qubits r.w s.x.now s.z.now s.phases.now a.room.now ws r.held r.good loaded i h,
      right_loaded s.modes s.qubits r.w s.x.now s.z.now s.phases.now a.room.now ws r.held r.good loaded i h,
      left_below s.modes s.qubits r.w s.x.now s.z.now s.phases.now a.room.now ws r.held r.good loaded i h,
    )) in (
      done.0,
      done.1,
      record {
        long = ap length done.2 ∙ length_zeroed size ws ∙ loaded.same.long;
        behind = ap (drop size) done.2 ∙ drop_zeroed size ws ∙ loaded.same.behind;
      },
    )
