-- `RowSet::bad_size` meets its contract: modes, and then qubits.
use mathlib.Core.Path.{sym, ap, ◌∙◌}
use mathlib.Core.Bool.{Bool, ◌||◌}
use Rattle.refusal.specs.Table.{outside}
use Rattle.majorana.proofs.SetLaws.{sizes}
use Rattle.majorana.proofs.RowSet.bad_size.Goals as goal

pub returns-then-outside : goal.returns-then-outside
returns-then-outside c =
    let a = c.args.self.now in
    c.if-outside.true ∙ sym (sizes a.modes a.qubits ∙ ap (λ (b : Bool). b || outside a.qubits) (sym c.outside.ensures ∙ c.if-outside.true))

pub returns-else-outside : goal.returns-else-outside
returns-else-outside c =
    let a = c.args.self.now in
    c.outside-else-outside.ensures ∙ sym (sizes a.modes a.qubits ∙ ap (λ (b : Bool). b || outside a.qubits) (sym c.outside.ensures ∙ c.if-outside.false))
