-- `elimination::dependent_rows` meets its contract: refused for its sizes, or the rows eliminated, looked through and cleared.
use native.Mathlib.Omega.{arith}
use mathlib.Core.Path.{◌≡◌, sym, ◌∙◌}
use mathlib.Core.Bool.{true}
use lib.ListN.{length}
use borrow.Author.Rules.{rules}
use Rattle.elimination.specs.Rooms.{fits}
use Rattle.elimination.proofs.Answers.{Fitting, fitting, dependent_refused, dependent_done}
use Rattle.elimination.proofs.dependent_rows.Goals as goal
use Rattle.elimination.proofs.dependent_rows.Goals.{Else-not-fits}

passes : (c : Else-not-fits) → fits 512 8 c.args.rows c.args.width (length c.args.room.now) ≡ true
passes c = sym c.fits.ensures ∙ c.if-not-fits.false

holds : (c : Else-not-fits) → Fitting 512 8 c.args.rows c.args.width (length c.args.room.now)
holds c = fitting 512 8 _ _ _ (passes c)

pub returns-then-not-fits : goal.returns-then-not-fits
returns-then-not-fits c =
    let a = c.args in
    dependent_refused a.rows a.width a.room.now (sym c.fits.ensures ∙ c.if-not-fits.true)

pub eliminate-requires : goal.eliminate-requires
eliminate-requires c =
    let h = holds (goal.at.eliminate-requires c).Else-not-fits in
    omega arith

pub some_zero-dependent-requires : goal.some_zero-dependent-requires
some_zero-dependent-requires c =
    let h = holds (goal.at.some_zero-dependent-requires c).Else-not-fits in
    omega (arith, c.eliminate.ensures.1.long)

pub overflow_mul-rows : goal.overflow_mul-rows
overflow_mul-rows c =
    let h = holds (goal.at.overflow_mul-rows c).Else-not-fits in
    record { fits = omega arith }

pub returns : goal.returns
returns c =
    let passed = passes (goal.at.returns c).Else-not-fits in
    let a = c.args in
    let done = c.eliminate in
    dependent_done a.rows a.width a.room.now done.new.room c.clear.new.s c.some_zero-dependent.result
    passed (search rules) done.ensures.0 done.ensures.1
    c.some_zero-dependent.ensures c.clear.ensures
