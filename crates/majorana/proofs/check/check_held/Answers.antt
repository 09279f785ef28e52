-- `check::check_held` meets its contract: the first commuting pair, then dependence, then the vacuum rule.
use mathlib.Core.Path.{◌≡◌, refl, sym, ◌∙◌}
use Rattle.refusal.specs.Search.{pair, no_pair}
use Rattle.algebra.specs.Modes.{commuting_pair}
use Rattle.majorana.specs.HeldRows.{modes_of}
use Rattle.majorana.specs.Rooms.{task_checked}
use Rattle.majorana.proofs.check.check_held.Goals as goal

pub returns-in-Some : goal.returns-in-Some
unfolding task_checked
returns-in-Some c =
    let found : commuting_pair (modes_of c.args.rows.now) ≡ pair _ _ = sym c.in-Some.ensures in
    (rw found, record { long = refl; behind = refl })

pub returns-then-rows_dependent : goal.returns-then-rows_dependent
unfolding task_checked
returns-then-rows_dependent c =
    let none_commute : commuting_pair (modes_of c.args.rows.now) ≡ no_pair = sym c.in_default.ensures in
    (rw (none_commute, sym c.rows_dependent.ensures.0 ∙ c.if-rows_dependent.true), c.rows_dependent.ensures.1)

pub returns-then-not-vacuum_rule : goal.returns-then-not-vacuum_rule
unfolding task_checked
returns-then-not-vacuum_rule c =
    let none_commute : commuting_pair (modes_of c.args.rows.now) ≡ no_pair = sym c.in_default.ensures in (
      rw (none_commute, sym c.rows_dependent.ensures.0 ∙ c.if-rows_dependent.false, sym c.vacuum_rule.ensures ∙ c.if-not-vacuum_rule.true),
      c.rows_dependent.ensures.1,
    )

pub returns : goal.returns
unfolding task_checked
returns c =
    let none_commute : commuting_pair (modes_of c.args.rows.now) ≡ no_pair = sym c.in_default.ensures in (
      rw (none_commute, sym c.rows_dependent.ensures.0 ∙ c.if-rows_dependent.false, sym c.vacuum_rule.ensures ∙ c.if-not-vacuum_rule.false),
      c.rows_dependent.ensures.1,
    )
