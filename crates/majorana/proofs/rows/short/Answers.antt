-- `rows::short` meets its contract: the row set's lengths, and then the others.
use lib.ListN.{length}
use mathlib.Core.Path.{sym, ◌∙◌}
use Rattle.refusal.specs.Slices.{lengths}
use Rattle.majorana.proofs.SetLaws.{set_too_short, set_long}
use Rattle.majorana.proofs.rows.short.Goals as goal

pub returns-then-rows_short : goal.returns-then-rows_short
returns-then-rows_short c =
    let s = c.args.set in
    c.if-rows_short.true
    ∙ sym (set_too_short s.modes c.args.w (length s.x.now) (length s.z.now) (length s.phases.now) c.requires.0 c.requires.1 (lengths c.args.more.now)
    (sym c.rows_short.ensures ∙ c.if-rows_short.true))

pub returns-else-rows_short : goal.returns-else-rows_short
returns-else-rows_short c =
    let s = c.args.set in
    c.any_short.ensures
    ∙ sym (set_long s.modes c.args.w (length s.x.now) (length s.z.now) (length s.phases.now) c.requires.0 c.requires.1 (lengths c.args.more.now)
    (sym c.rows_short.ensures ∙ c.if-rows_short.false))
