-- For the private functions of `feed` and `finish`, and needs no belief: a reader's moves, byte by byte, from any state. From the state after a text they lead to what the definition says of the text
-- with the bytes added (specs/Calls.antt).
use Rattle.std.specs.Prelude.{ℕ, zero, suc, ◌+◌, ◌-◌, ◌*◌, List, [], ◌∷◌, cond, ◌&&◌, eqb, ltb, leb}
use Rattle.std.proofs.lemmas.List.Edits.{sets}
use Rattle.flatpack_text.specs.declared.read.Field.{Field}
use Rattle.flatpack_text.specs.declared.read.Field.TheVariants.{Nothing, Dash, Number, Bad}
use Rattle.flatpack_text.specs.declared.read.State.{State}
use Rattle.flatpack_text.specs.Text.{is_digit, Slot, as_qubit, as_slot}
use Rattle.flatpack_text.specs.Machine.{most, Told, slot_number, stopped, on_line}

-- one more, as far as counts go
unfoldable pub more : ℕ → ℕ
more n = cond (ltb n most) (n + 1) n

-- a field and one byte more
unfoldable pub next : Field → ℕ → Field
next Nothing b = cond (eqb b 45) Dash (cond (is_digit b) (Number (b - 48)) Bad)
next Dash b = Bad
next (Number n) b = cond (is_digit b && (ltb 0 n && leb (10 * n + (b - 48)) 65535)) (Number (10 * n + (b - 48))) Bad
next Bad b = Bad

-- a tab ends field number k of the line
abbrev pub tabbed_at : ℕ → ℕ → ℕ → ℕ → Field → State
tabbed_at zero n q x f = as_qubit f (λ q. on_line n 1 q 0 0 Nothing) (stopped n)
tabbed_at (suc zero) n q x f = as_slot f (λ x. on_line n 2 q (slot_number x) 0 Nothing) (stopped n)
tabbed_at (suc (suc zero)) n q x f = as_slot f (λ y. on_line n 3 q x (slot_number y) Nothing) (stopped n)
tabbed_at (suc (suc (suc k))) n q x f = stopped n

unfoldable pub tabbed : State → State
tabbed s = tabbed_at s.fields s.entries s.qubit s.x s.field

-- a line feed ends the line: an entry if field number 3 is its last
abbrev pub at_last : {A : Type 0} → ℕ → Field → (Slot → A) → A → A
at_last zero f good bad = bad
at_last (suc zero) f good bad = bad
at_last (suc (suc zero)) f good bad = bad
at_last (suc (suc (suc zero))) f good bad = as_slot f good bad
at_last (suc (suc (suc (suc k)))) f good bad = bad

unfoldable pub line_ended : State → State
line_ended s = at_last s.fields s.field (λ z. on_line (more s.entries) 0 0 0 0 Nothing) (stopped s.entries)

-- entry n in the table, if it is one of the first 256
unfoldable pub kept_at : ℕ → ℕ → ℕ → ℕ → ℕ → List ℕ → List ℕ
kept_at n q x y z d = cond (ltb n 256) (sets d (4 * n) (q ∷ x ∷ y ∷ z ∷ [])) d

unfoldable pub line_kept : State → List ℕ → List ℕ
line_kept s d = at_last s.fields s.field (λ z. kept_at s.entries s.qubit s.x s.y (slot_number z) d) d

-- one byte
unfoldable pub step : State → ℕ → State
step s b =
    cond (eqb b 9) (tabbed s)
    (cond (eqb b 10) (line_ended s)
    (on_line s.entries s.fields s.qubit s.x s.y (next s.field b)))

unfoldable pub step_kept : State → ℕ → List ℕ → List ℕ
step_kept s b d = cond (eqb b 10) (line_kept s d) d

-- a chunk
abbrev pub fed : State → List ℕ → State
fed s [] = s
fed s (b ∷ t) = fed (step s b) t

abbrev pub fed_kept : State → List ℕ → List ℕ → List ℕ
fed_kept s [] d = d
fed_kept s (b ∷ t) d = fed_kept (step s b) t (step_kept s b d)

-- the end of the text: it is well formed if no line is begun
abbrev pub ended_at : ℕ → Field → ℕ → Told
ended_at zero Nothing n = record { number = 0; entries = n; line = 0 }
ended_at zero Dash n = record { number = 16; entries = 0; line = more n }
ended_at zero (Number m) n = record { number = 16; entries = 0; line = more n }
ended_at zero Bad n = record { number = 16; entries = 0; line = more n }
ended_at (suc k) f n = record { number = 16; entries = 0; line = more n }

unfoldable pub finished : State → Told
finished s = ended_at s.fields s.field s.entries
