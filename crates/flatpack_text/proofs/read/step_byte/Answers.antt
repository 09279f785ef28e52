-- `flatpack_text::read::step_byte` meets its contract: by the byte.
use Prim.Native.Nat.{ℕ}
use mathlib.Core.Path.{◌≡◌, ap, ◌∙◌}
use mathlib.Core.List.{List}
use borrow.Author.Tests.{ne_eqb}
use Rattle.flatpack_text.specs.declared.read.Field.{Field}
use Rattle.flatpack_text.specs.declared.read.State.{State}
use Rattle.flatpack_text.specs.Machine.{on_line}
use Rattle.flatpack_text.specs.Moves.{tabbed, line_ended, line_kept, step, step_kept}
use Rattle.flatpack_text.proofs.Moves.{goes_on}
use Rattle.flatpack_text.proofs.read.step_byte.Goals as goal

at_tab : (s : State) (b : ℕ) (d : List ℕ) → b ≡ 9 → (tabbed s ≡ step s b) × (d ≡ step_kept s b d)
unfolding step step_kept
at_tab s b d e = (rw e, rw e)

at_line_feed : (s : State) (b : ℕ) (d : List ℕ) → b ≡ 10 → (line_ended s ≡ step s b) × (line_kept s d ≡ step_kept s b d)
unfolding step step_kept
at_line_feed s b d e = (rw e, rw e)

at_other : (s : State) (b : ℕ) (d : List ℕ) → (b ≡ 9 → ⊥) → (b ≡ 10 → ⊥) → (goes_on s b ≡ step s b) × (d ≡ step_kept s b d)
unfolding step step_kept
at_other s b d p q = (rw (ne_eqb b 9 p, ne_eqb b 10 q), rw (ne_eqb b 10 q))

pub returns-then-b-eq9 : goal.returns-then-b-eq9
returns-then-b-eq9 c =
    let a = c.args in
    let t = at_tab a.s a.b a.table.now c.if-b-eq9.true in
    record { state = c.tab.ensures ∙ t.0; entries = t.1 }

pub returns-then-b-eq10 : goal.returns-then-b-eq10
returns-then-b-eq10 c =
    let a = c.args in
    let t = at_line_feed a.s a.b a.table.now c.if-b-eq10.true in
    record { state = c.line_feed.ensures.state ∙ t.0; entries = c.line_feed.ensures.entries ∙ t.1 }

pub returns : goal.returns
returns c =
    let a = c.args in
    let t = at_other a.s a.b a.table.now c.if-b-eq9.false c.if-b-eq10.false in
    record { state = c.with_field.ensures ∙ ap (λ (f : Field). on_line a.s.entries a.s.fields a.s.qubit a.s.x a.s.y f) c.next_byte.ensures ∙ t.0; entries = t.1 }
