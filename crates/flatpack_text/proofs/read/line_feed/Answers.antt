-- `flatpack_text::read::line_feed` meets its contract: an entry if three fields are ended and the last is a slot.
use Prim.Native.Nat.{ℕ}
use mathlib.Core.Path.{◌≡◌, sym, ap, ◌∙◌}
use mathlib.Core.List.{List}
use Rattle.std.specs.Prelude.{Option, Some, None, unwrap_or, option_map}
use Rattle.flatpack_text.specs.declared.read.State.{State}
use Rattle.flatpack_text.specs.Text.{as_slot}
use Rattle.flatpack_text.specs.Machine.{slot_number, stopped}
use Rattle.flatpack_text.specs.Moves.{more, line_ended, kept_at, line_kept}
use Rattle.flatpack_text.proofs.Moves.{fresh, not_last, last_option}
use Rattle.flatpack_text.proofs.read.line_feed.Goals.{in_default-via-in-3+in_default, in_default-via-in_default}
use Rattle.flatpack_text.proofs.read.line_feed.Goals as goal

-- the state and the table after a line with this Z slot
ends : (s : State) (d : List ℕ) {r : Option ℕ} → s.fields ≡ 3 → r ≡ as_slot s.field (λ z. Some (slot_number z)) None
    → record {
      state : unwrap_or (option_map (λ z. fresh (more s.entries)) r) (stopped s.entries) ≡ line_ended s;
      entries : unwrap_or (option_map (λ z. kept_at s.entries s.qubit s.x s.y z d) r) d ≡ line_kept s d;
    }
unfolding line_ended line_kept
ends s d p q = record {
  state = last_option s.fields s.field (λ z. fresh (more s.entries)) (stopped s.entries) p q;
  entries = last_option s.fields s.field (λ z. kept_at s.entries s.qubit s.x s.y z d) d p q;
}

-- other than three fields are ended
stops : (s : State) (d : List ℕ) → (s.fields ≡ 3 → ⊥) → record { state : stopped s.entries ≡ line_ended s; entries : d ≡ line_kept s d }
unfolding line_ended line_kept
stops s d h = record { state = sym (not_last s.fields s.field _ _ h); entries = sym (not_last s.fields s.field _ _ h) }

pub returns-in_default : goal.returns-in_default
returns-in_default c =
    let a = c.args in
    elim c.in_default.branch [
      | in_default-via-in-3+in_default w ↦ (
          let e = ends a.s a.table.now w.in_default.is-0 (sym w.in_default.is-1 ∙ c.slot.ensures) in
          record { state = c.stop.ensures ∙ e.state; entries = e.entries })
      | in_default-via-in_default w ↦ (
          let e = stops a.s a.table.now w.in_default.is-0.1 in
          record { state = c.stop.ensures ∙ e.state; entries = e.entries })
    ]

pub returns : goal.returns
returns c =
    let a = c.args in
    let e = ends a.s a.table.now c.in-3-Some.is-0 (sym c.in-3-Some.is-1 ∙ c.slot.ensures) in
    record { state = c.line.ensures ∙ ap fresh c.count_on.ensures ∙ e.state; entries = c.keep.ensures ∙ e.entries }
