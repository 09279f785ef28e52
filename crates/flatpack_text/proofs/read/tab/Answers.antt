-- `flatpack_text::read::tab` meets its contract: by the number of fields that are ended.
use native.Mathlib.Omega.{arith}
use mathlib.Core.Path.{sym, ◌∙◌}
use Rattle.flatpack_text.specs.Moves.{tabbed}
use Rattle.flatpack_text.proofs.Moves.{tab_past, tab_at_0, tab_at_1, tab_at_2}
use Rattle.flatpack_text.proofs.read.tab.Goals as goal

pub returns-in-Some : goal.returns-in-Some
returns-in-Some c = c.line.ensures ∙ tab_at_0 c.args.s c.in-0.is (sym c.in-Some.is ∙ c.qubit.ensures)

pub returns-in-None : goal.returns-in-None
returns-in-None c = c.stop.ensures ∙ tab_at_0 c.args.s c.in-0.is (sym c.in-None.is ∙ c.qubit.ensures)

pub returns-in-Some-slot : goal.returns-in-Some-slot
returns-in-Some-slot c = c.line-in-Some-slot.ensures ∙ tab_at_1 c.args.s c.in-1.is (sym c.in-Some-slot.is ∙ c.slot.ensures)

pub returns-in-None-slot : goal.returns-in-None-slot
returns-in-None-slot c = c.stop-in-None-slot.ensures ∙ tab_at_1 c.args.s c.in-1.is (sym c.in-None-slot.is ∙ c.slot.ensures)

pub returns-in-Some-slot-2 : goal.returns-in-Some-slot-2
returns-in-Some-slot-2 c = c.line-in-Some-slot-2.ensures ∙ tab_at_2 c.args.s c.in-2.is (sym c.in-Some-slot-2.is ∙ c.slot-in-2.ensures)

pub returns-in-None-slot-2 : goal.returns-in-None-slot-2
returns-in-None-slot-2 c = c.stop-in-None-slot-2.ensures ∙ tab_at_2 c.args.s c.in-2.is (sym c.in-None-slot-2.is ∙ c.slot-in-2.ensures)

pub returns-in_default : goal.returns-in_default
unfolding tabbed
returns-in_default c = let s = c.args.s in c.stop-in_default.ensures ∙ sym (tab_past s.fields s.entries s.qubit s.x s.field (omega arith))
