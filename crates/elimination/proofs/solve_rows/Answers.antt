-- `elimination::solve_rows` meets its contract: refused for its sizes, or the equations eliminated, substituted back and cleared.
use Prim.Native.Nat.{◌+◌}
use native.Mathlib.Omega.{arith}
use mathlib.Core.Path.{◌≡◌, refl, sym, ◌∙◌}
use mathlib.Core.Bool.{true}
use lib.ListN.{length}
use borrow.Author.Rules.{rules}
use Rattle.elimination.specs.Rooms.{fits}
use Rattle.elimination.proofs.Answers.{Fitting, fitting, solve_wide, solve_room_lem, solve_string, solve_none, solve_found}
use Rattle.elimination.proofs.solve_rows.Goals as goal
use Rattle.elimination.proofs.solve_rows.Goals.{Else-not-fits, then-width-gt4-via-then-width-gt4, then-width-gt4-via-else-width-gt4+then-not-fits, then-width-gt4-via-else-width-gt4+else-not-fits+then-v-width}

passes : (c : Else-not-fits) → fits 256 5 c.args.rows (c.args.width + 1) (length c.args.room.now) ≡ true
passes c = sym c.fits.ensures ∙ c.if-not-fits.false

holds : (c : Else-not-fits) → Fitting 256 5 c.args.rows (c.args.width + 1) (length c.args.room.now)
holds c = fitting 256 5 _ _ _ (passes c)

pub returns-then-width-gt4 : goal.returns-then-width-gt4
returns-then-width-gt4 c =
    let a = c.args in
    elim c.then-width-gt4.branch [
      | then-width-gt4-via-then-width-gt4 w ↦ solve_wide a.rows a.width a.room.now a.v.now w.if-width-gt4.true
      | then-width-gt4-via-else-width-gt4+then-not-fits w ↦
          solve_room_lem a.rows a.width a.room.now a.v.now (sym w.fits.ensures ∙ w.if-not-fits.true)
      | then-width-gt4-via-else-width-gt4+else-not-fits+then-v-width w ↦
          solve_string a.rows a.width a.room.now a.v.now (sym w.fits.ensures ∙ w.if-not-fits.false) w.if-v-width.true
    ]

pub eliminate-requires : goal.eliminate-requires
eliminate-requires c =
    let h = holds (goal.at.eliminate-requires c).Else-not-fits in
    omega arith

pub substitute-found-requires : goal.substitute-found-requires
substitute-found-requires c =
    let h = holds (goal.at.substitute-found-requires c).Else-not-fits in
    let done = c.eliminate in
    (omega (arith, done.ensures.1.long), omega arith, omega arith, refl, done.ensures.0.settled)

pub overflow_mul-rows : goal.overflow_mul-rows
overflow_mul-rows c =
    let h = holds (goal.at.overflow_mul-rows c).Else-not-fits in
    record { fits = omega arith }

pub returns-then-found : goal.returns-then-found
returns-then-found c =
    let passed = passes (goal.at.returns-then-found c).Else-not-fits in
    let a = c.args in
    let done = c.eliminate in
    let sub = c.substitute-found in
    let cleared = c.clear in
    solve_found a.rows a.width a.room.now a.v.now done.new.room sub.new.u passed c.if-v-width.false
    (search rules) done.ensures.0 done.ensures.1
    sub.result cleared.new.s c.copy.new.dst c.if-found.true sub.ensures.0 cleared.ensures sub.ensures.1
    (omega arith) c.copy.ensures

pub returns-else-found : goal.returns-else-found
returns-else-found c =
    let passed = passes (goal.at.returns-else-found c).Else-not-fits in
    let a = c.args in
    let done = c.eliminate in
    let sub = c.substitute-found in
    solve_none a.rows a.width a.room.now a.v.now done.new.room sub.new.u passed c.if-v-width.false
    (search rules) done.ensures.0 done.ensures.1
    sub.result c.clear.new.s c.if-found.false sub.ensures.0 c.clear.ensures
