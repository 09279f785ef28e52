-- `Rows::all_paired` meets its contract: the modes from the highest, and what is left decides.
use mathlib.Core.Path.{refl, sym, ◌∙◌}
use native.Mathlib.Omega.{arith}
use Rattle.refusal.proofs.Searches.{all_here, all_below_lem, all_none}
use Rattle.algebra.specs.Modes.{paired}
use Rattle.majorana.specs.HeldRows.{modes_of}
use Rattle.majorana.specs.Rooms.{all_paired}
use Rattle.majorana.proofs.rows.Rows.all_paired.Goals as goal

pub loop-i-init : goal.loop-i-init
unfolding all_paired
loop-i-init c = refl

pub returns-then-not-is_paired : goal.returns-then-not-is_paired
returns-then-not-is_paired c =
    let at = paired (modes_of c.args.self.now) in
    sym (c.loop-i.invariant ∙ all_here c.loop-i.i at (omega arith) (sym c.is_paired.ensures ∙ c.if-not-is_paired.true))

pub loop-i-preserved : goal.loop-i-preserved
loop-i-preserved c =
    let at = paired (modes_of c.args.self.now) in
    c.loop-i.invariant ∙ all_below_lem c.loop-i.i at (omega arith) (sym c.is_paired.ensures ∙ c.if-not-is_paired.false)

pub returns : goal.returns
returns c = sym (c.loop-i.invariant ∙ all_none c.loop-i.i (paired (modes_of c.args.self.now)) (omega arith))
