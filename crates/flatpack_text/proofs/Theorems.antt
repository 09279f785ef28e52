-- What the calls of `flatpack_text` promise together.
--
-- In plain words: a text that is handed over in chunks, of any number and any lengths, one after another from `start`, is read as if it were lent whole. `finish` answers
-- what the definition of well-formed text (specs/Text.antt) says of the chunks joined, and the table holds the entries that the definition says: `chunks_read`. How a
-- text is cut into chunks makes no difference: `chunks_any`. A line that is no entry makes the text malformed wherever it stands, and so does a byte after the last line
-- feed: `bad_line_anywhere`, `bad_end`. No input leaves a call two outcomes: `feed_outcome`, `finish_outcome`, `read_outcome`. Below, a call is its contract: `Feeds`, `Finishes`
-- and `Reads` of specs/Calls.antt.
use Prim.Native.Nat.{ℕ}
use mathlib.Core.Path.{◌≡◌, refl, sym, ap, ◌∙◌}
use mathlib.Core.List.{List, [], ◌∷◌, ◌++◌, append-nil, append_assoc}
use mathlib.Core.Bool.{Bool, true, false}
use Rattle.refusal.proofs.Outcome.{one_outcome}
use Rattle.flatpack_text.specs.declared.read.State.{State}
use Rattle.std.specs.Prelude.{Result}
use Rattle.flatpack_text.specs.declared.read.Malformed.{Malformed}
use Rattle.flatpack_text.specs.Text.{lines, fields, Entry, Line, entry, no_entry, line_of, Lines, with_line, lines_of, judged, parse}
use Rattle.flatpack_text.specs.Machine.{told, kept, after}
use Rattle.flatpack_text.specs.Calls.{Feeds, Finishes, Reads}
use Rattle.flatpack_text.proofs.Reading.{start_kept, answer_is}

-- ---- one outcome is left

pub feed_outcome : {s r q : State} {u d e f : List ℕ} → Feeds s u d r e → Feeds s u d q f → (r ≡ q) × (e ≡ f)
feed_outcome a b = (one_outcome a.state b.state, one_outcome a.entries b.entries)

pub finish_outcome : {s : State} {a b : Result ℕ Malformed} → Finishes s a → Finishes s b → a ≡ b
finish_outcome {s} {a} {b} f g = answer_is a b (one_outcome f.answer g.answer)

pub read_outcome : {t d e f : List ℕ} {a b : Result ℕ Malformed} → Reads t d a e → Reads t d b f → (a ≡ b) × (e ≡ f)
read_outcome {t} {d} {e} {f} {a} {b} x y = (answer_is a b (one_outcome x.answer y.answer), one_outcome x.entries y.entries)

-- ---- chunks

-- the chunks of a text, joined
abbrev pub joined : List (List ℕ) → List ℕ
joined [] = []
joined (u ∷ us) = u ++ joined us

-- calls of `feed`, a call for each chunk: from the state s and the table d to the state r and the table e
pub data FedInTurn : State → List ℕ → List (List ℕ) → State → List ℕ → Type 0 where
  none : {s : State} {d : List ℕ} → FedInTurn s d [] s d
  one : {s m r : State} {d l e u : List ℕ} {us : List (List ℕ)} → Feeds s u d m l → FedInTurn m l us r e → FedInTurn s d (u ∷ us) r e

-- from what a text t leads to, chunks lead to what t with all of them added leads to
pub fed_on : (t o : List ℕ) {us : List (List ℕ)} {s r : State} {d e : List ℕ} → s ≡ after t → d ≡ kept t o → FedInTurn s d us r e → (r ≡ after (t ++ joined us)) × (e ≡ kept (t ++ joined us) o)
fed_on t o h k none = (h ∙ ap after (sym (append-nil t)), k ∙ ap (λ (l : List ℕ). kept l o) (sym (append-nil t)))
fed_on t o h k (one {u = u} {us = us} f run) =
    let g = fed_on (t ++ u) o (f.text_state t h) (f.text_entries t o h k) run in
    (g.0 ∙ ap after (append_assoc t u (joined us)), g.1 ∙ ap (λ (l : List ℕ). kept l o) (append_assoc t u (joined us)))

pub chunks_read : {us : List (List ℕ)} {s r : State} {d e : List ℕ} {a : Result ℕ Malformed} → s ≡ after [] → FedInTurn s d us r e → Finishes r a → Reads (joined us) d a e
chunks_read {us} {s} {r} {d} h run f =
    let g = fed_on [] d h (sym (start_kept d)) run in
    record { answer = f.text_answer (joined us) g.0; entries = g.1 }

-- two ways to cut a text
pub chunks_any : {us vs : List (List ℕ)} {s r q : State} {d e f : List ℕ} {a b : Result ℕ Malformed} → joined us ≡ joined vs → s ≡ after []
    → FedInTurn s d us r e → Finishes r a → FedInTurn s d vs q f → Finishes q b → (a ≡ b) × (e ≡ f)
chunks_any {us} {vs} {s} {r} {q} {d} {e} {f} {a} {b} same h run fin run' fin' =
    let x = chunks_read h run fin in
    let y = chunks_read h run' fin' in
    (answer_is a b (x.answer ∙ ap (λ (t : List ℕ). told (parse t)) same ∙ sym y.answer), x.entries ∙ ap (λ (t : List ℕ). kept t d) same ∙ sym y.entries)

-- ---- refusal 16, wherever the fault stands

-- a line's entry
abbrev line_in : List ℕ → Line
line_in l = line_of (fields l).ended (fields l).rest

not_all : (a : List (List ℕ)) (l : List ℕ) (b : List (List ℕ)) → line_in l ≡ no_entry → (lines_of (a ++ (l ∷ b))).all ≡ false
unfolding lines_of
not_all [] l b h = rw h
not_all (k ∷ a) l b h = go (line_in k) (lines_of (a ++ (l ∷ b))) (not_all a l b h)
  where
    go : (k : Line) (r : Lines) → r.all ≡ false → (with_line k r).all ≡ false
    go (entry e) r p = p
    go no_entry r p = refl

pub bad_line_anywhere : (t : List ℕ) (a : List (List ℕ)) (l : List ℕ) (b : List (List ℕ)) → (lines t).ended ≡ a ++ (l ∷ b) → line_in l ≡ no_entry → (told (parse t)).number ≡ 16
unfolding parse
bad_line_anywhere t a l b h n = go (lines_of (lines t).ended) (ap (λ (ls : List (List ℕ)). (lines_of ls).all) h ∙ not_all a l b n)
  where
    go : (r : Lines) → r.all ≡ false → (told (judged r (lines t).rest)).number ≡ 16
    go r p = rw p

pub bad_end : (t : List ℕ) (b : ℕ) (more : List ℕ) → (lines t).rest ≡ b ∷ more → (told (parse t)).number ≡ 16
unfolding parse
bad_end t b more h = rw h (go (lines_of (lines t).ended).entries (lines_of (lines t).ended).all)
  where
    go : (es : List Entry) (a : Bool) → (told (judged (record { entries = es; all = a }) (b ∷ more))).number ≡ 16
    go es true = refl
    go es false = refl
