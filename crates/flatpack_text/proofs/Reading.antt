-- A reader that is fed a text holds what the definition of well-formed text says of it: byte by byte, so that feeding chunks one after another reads the whole.
use Prim.Native.Nat.{ℕ, suc, ◌+◌, ◌*◌, ◌≤◌, ◌<◌, min}
use native.Mathlib.Numerals.{add-one}
use native.Mathlib.Omega.{arith}
use mathlib.Core.Path.{◌≡◌, refl, sym, ap, ◌∙◌}
use mathlib.Core.List.{List, [], ◌∷◌, ◌++◌, append-nil, append_assoc}
use mathlib.Core.Bool.{Bool, true, false, cond}
use lib.Dec.{eqb, ltb}
use lib.ListN.{length, take, drop, length-append, drop_of_length-le}
use borrow.Author.Tests.{eqb-true, ltb-true, ltb-false, lt-ltb, le-ltb}
use Rattle.dense_block.specs.Words.{copied}
use Rattle.flatpack_text.specs.declared.read.State.{State}
use Rattle.std.specs.Prelude.{Result, Ok, Err}
use Rattle.flatpack_text.specs.declared.read.Malformed.{Malformed}
use Rattle.flatpack_text.specs.Text.{Cut, cut, lines, fields, field_of, Entry, Line, entry, no_entry, line_of, Lines, with_line, lines_of, judged, parse}
use Rattle.flatpack_text.specs.Machine.{most, Told, text_paper, told, slot_number, numbers_of, kept, stopped, line_after, after}
use Rattle.flatpack_text.specs.Moves.{more, next, tabbed, line_ended, kept_at, line_kept, step, step_kept, fed, fed_kept, finished}
use Rattle.flatpack_text.specs.Calls.{Feeds, Finishes}
use lib.Seq.{sets, length-sets}
use Rattle.flatpack_text.proofs.Tables.{copied_nil, table_more}
use Rattle.flatpack_text.proofs.Cuts.{closed, longer, cut_closed, cut_longer}
use Rattle.flatpack_text.proofs.Moves.{tab_after, goes_on, byte_after, on_entry, fresh, end_after, entered, kept_after, fault_at, begun_after, last_any}

-- ---- one line more

-- the lines of r and one more
abbrev with_last : Lines → Line → Lines
with_last r l = cond r.all (record { entries = on_entry l (λ e. r.entries ++ (e ∷ [])) r.entries; all = on_entry l (λ e. true) false }) r

abbrev line_in : List ℕ → Line
line_in l = line_of (fields l).ended (fields l).rest

lines_more : (ls : List (List ℕ)) (l : List ℕ) → lines_of (ls ++ (l ∷ [])) ≡ with_last (lines_of ls) (line_in l)
unfolding lines_of
lines_more [] l = go (line_in l)
  where
    go : (k : Line) → with_line k (record { entries = []; all = true }) ≡ with_last (record { entries = []; all = true }) k
    go (entry e) = refl
    go no_entry = refl
lines_more (m ∷ ls) l = rw (lines_more ls l) (go (line_in m) (lines_of ls).entries (lines_of ls).all (line_in l))
  where
    go : (k : Line) (es : List Entry) (a : Bool) (l : Line) → with_line k (with_last (record { entries = es; all = a }) l) ≡ with_last (with_line k (record { entries = es; all = a })) l
    go (entry e) es true (entry f) = refl
    go (entry e) es true no_entry = refl
    go (entry e) es false l = refl
    go no_entry es a l = refl

-- ---- counts

more_min : (n : ℕ) → more (min n most) ≡ min (suc n) most
unfolding more
more_min n = go (ltb (min n most) most) refl
  where
    go : (b : Bool) → ltb (min n most) most ≡ b → cond b (min n most + 1) (min n most) ≡ min (suc n) most
    go true e = let l = ltb-true (min n most) most e in omega arith
    go false e = let l = ltb-false (min n most) most e in omega arith

-- ---- one byte more

-- the state from the lines that are ended and the fields of the one that is not
abbrev state_of : Lines → Cut → State
state_of r l = cond r.all (line_after (min (length r.entries) most) l.ended l.rest) (stopped (min (length r.entries) most))

length_more : (es : List Entry) (e : Entry) → length (es ++ (e ∷ [])) ≡ suc (length es)
length_more es e = length-append es (e ∷ []) ∙ add-one (length es)

abbrev blank : Cut
blank = record { ended = []; rest = [] }

feed_line : (es : List Entry) (a : Bool) (l : Cut) → line_ended (state_of (record { entries = es; all = a }) l) ≡ state_of (with_last (record { entries = es; all = a }) (line_of l.ended l.rest)) blank
unfolding line_ended field_of
feed_line es false l = refl
feed_line es true l = end_after (min (length es) most) l.ended l.rest ∙ go (line_of l.ended l.rest)
  where
    go : (k : Line) → on_entry k (λ e. fresh (more (min (length es) most))) (stopped (min (length es) most)) ≡ state_of (with_last (record { entries = es; all = true }) k) blank
    go (entry e) = ap fresh (more_min (length es) ∙ ap (λ (n : ℕ). min n most) (sym (length_more es e)))
    go no_entry = refl

feed_tab : (r : Lines) (l : Cut) → tabbed (state_of r l) ≡ state_of r (closed l)
unfolding tabbed
feed_tab r l = go r.all
  where
    n : ℕ
    n = min (length r.entries) most

    go : (a : Bool) → tabbed (cond a (line_after n l.ended l.rest) (stopped n)) ≡ cond a (line_after n (l.ended ++ (l.rest ∷ [])) []) (stopped n)
    go true = tab_after n l.ended l.rest
    go false = refl

feed_byte : (r : Lines) (l : Cut) (b : ℕ) → goes_on (state_of r l) b ≡ state_of r (longer l b)
unfolding next
feed_byte r l b = go r.all
  where
    n : ℕ
    n = min (length r.entries) most

    go : (a : Bool) → goes_on (cond a (line_after n l.ended l.rest) (stopped n)) b ≡ cond a (line_after n l.ended (l.rest ++ (b ∷ []))) (stopped n)
    go true = byte_after n l.ended l.rest b
    go false = refl

abbrev after_cut : Cut → State
after_cut c = state_of (lines_of c.ended) (fields c.rest)

pub after_byte : (t : List ℕ) (b : ℕ) → step (after t) b ≡ after (t ++ (b ∷ []))
unfolding step after cut
after_byte t b = go (eqb b 9) (eqb b 10) refl refl
  where
    r : Lines
    r = lines_of (lines t).ended

    u : List ℕ
    u = (lines t).rest

    go : (h k : Bool) → eqb b 9 ≡ h → eqb b 10 ≡ k → cond h (tabbed (state_of r (fields u))) (cond k (line_ended (state_of r (fields u))) (goes_on (state_of r (fields u)) b)) ≡ after_cut (lines (t ++ (b ∷ [])))
    go true true p q = let e = eqb-true b 9 p in let f = eqb-true b 10 q in absurd (omega arith)
    go true false p q =
        feed_tab r (fields u)
        ∙ ap (state_of r) (sym (cut_closed 9 u))
        ∙ ap (λ (c : ℕ). state_of r (fields (u ++ (c ∷ [])))) (sym (eqb-true b 9 p))
        ∙ ap after_cut (sym (cut_longer 10 t b q))
    go false true p q =
        feed_line r.entries r.all (fields u)
        ∙ ap (λ (r : Lines). state_of r blank) (sym (lines_more (lines t).ended u))
        ∙ ap after_cut (sym (cut_closed 10 t))
        ∙ ap (λ (c : ℕ). after_cut (lines (t ++ (c ∷ [])))) (sym (eqb-true b 10 q))
    go false false p q =
        feed_byte r (fields u) b
        ∙ ap (state_of r) (sym (cut_longer 9 u b p))
        ∙ ap after_cut (sym (cut_longer 10 t b q))

-- ---- the table

abbrev table_of : List ℕ → List Entry → List ℕ
table_of d es = copied d (numbers_of (take 256 es))

entered_more : (d : List ℕ) (es : List Entry) (e : Entry) → entered (min (length es) most) (table_of d es) e ≡ table_of d (es ++ (e ∷ []))
unfolding kept_at
entered_more d es e = go (ltb (min (length es) most) 256) refl ∙ table_more d es e
  where
    D : List ℕ
    D = table_of d es

    go : (b : Bool) → ltb (min (length es) most) 256 ≡ b
        → cond b (sets D (4 * min (length es) most) (numbers_of (e ∷ []))) D ≡ cond (ltb (length es) 256) (sets D (4 * length es) (numbers_of (e ∷ []))) D
    go true h =
        let l = ltb-true (min (length es) most) 256 h in
        let k : min (length es) most ≡ length es = omega arith in
        let m : length es < 256 = omega arith in
        rw (lt-ltb (length es) 256 m, k)
    go false h =
        let l = ltb-false (min (length es) most) 256 h in
        let m : 256 ≤ length es = omega arith in
        rw (le-ltb (length es) 256 m)

keep_line : (d : List ℕ) (es : List Entry) (a : Bool) (l : Cut)
    → line_kept (state_of (record { entries = es; all = a }) l) (table_of d es) ≡ table_of d (with_last (record { entries = es; all = a }) (line_of l.ended l.rest)).entries
unfolding line_kept
keep_line d es false l = refl
keep_line d es true l = kept_after (min (length es) most) l.ended l.rest (table_of d es) ∙ go (line_of l.ended l.rest)
  where
    go : (k : Line) → on_entry k (entered (min (length es) most) (table_of d es)) (table_of d es) ≡ table_of d (with_last (record { entries = es; all = true }) k).entries
    go (entry e) = entered_more d es e
    go no_entry = refl

pub kept_byte : (t : List ℕ) (b : ℕ) (d : List ℕ) → step_kept (after t) b (kept t d) ≡ kept (t ++ (b ∷ [])) d
unfolding step_kept after kept cut
kept_byte t b d = go (eqb b 10) refl
  where
    r : Lines
    r = lines_of (lines t).ended

    u : List ℕ
    u = (lines t).rest

    table_at : Cut → List ℕ
    table_at c = table_of d (lines_of c.ended).entries

    go : (k : Bool) → eqb b 10 ≡ k → cond k (line_kept (state_of r (fields u)) (table_of d r.entries)) (table_of d r.entries) ≡ table_at (lines (t ++ (b ∷ [])))
    go true q =
        keep_line d r.entries r.all (fields u)
        ∙ ap (λ (r : Lines). table_of d r.entries) (sym (lines_more (lines t).ended u))
        ∙ ap table_at (sym (cut_closed 10 t))
        ∙ ap (λ (c : ℕ). table_at (lines (t ++ (c ∷ [])))) (sym (eqb-true b 10 q))
    go false q = ap table_at (sym (cut_longer 10 t b q))

-- ---- chunks

-- feeding chunks one after another is feeding them joined
pub fed_chunks : (s : State) (t u : List ℕ) → fed (fed s t) u ≡ fed s (t ++ u)
fed_chunks s [] u = refl
fed_chunks s (b ∷ t) u = fed_chunks (step s b) t u

pub kept_chunks : (s : State) (t u d : List ℕ) → fed_kept (fed s t) u (fed_kept s t d) ≡ fed_kept s (t ++ u) d
kept_chunks s [] u d = refl
kept_chunks s (b ∷ t) u d = kept_chunks (step s b) t u (step_kept s b d)

-- from the state after a text t, a chunk u leads to the state after t and u
pub fed_after : (t u : List ℕ) → fed (after t) u ≡ after (t ++ u)
fed_after t [] = ap after (sym (append-nil t))
fed_after t (b ∷ u) = ap (λ (s : State). fed s u) (after_byte t b) ∙ fed_after (t ++ (b ∷ [])) u ∙ ap after (append_assoc t (b ∷ []) u)

pub kept_fed : (t u d : List ℕ) → fed_kept (after t) u (kept t d) ≡ kept (t ++ u) d
kept_fed t [] d = ap (λ (l : List ℕ). kept l d) (sym (append-nil t))
kept_fed t (b ∷ u) d =
    ap (λ (s : State). fed_kept s u (step_kept (after t) b (kept t d))) (after_byte t b)
    ∙ ap (fed_kept (after (t ++ (b ∷ []))) u) (kept_byte t b d)
    ∙ kept_fed (t ++ (b ∷ [])) u d
    ∙ ap (λ (l : List ℕ). kept l d) (append_assoc t (b ∷ []) u)

-- ---- the end of the text

pub finished_after : (t : List ℕ) → finished (after t) ≡ told (parse t)
unfolding finished after parse field_of cut
finished_after t = go (lines_of (lines t).ended).entries (lines_of (lines t).ended).all (lines t).rest
  where
    go : (es : List Entry) (a : Bool) (u : List ℕ) → finished (state_of (record { entries = es; all = a }) (fields u)) ≡ told (judged (record { entries = es; all = a }) u)
    go es true [] = refl
    go es true (b ∷ u) = begun_after (min (length es) most) b u ∙ ap fault_at (more_min (length es))
    go es false u = ap fault_at (more_min (length es))

-- ---- the start

pub start_after : fresh 0 ≡ after []
unfolding after cut lines_of field_of
start_after = refl

pub start_kept : (d : List ℕ) → kept [] d ≡ d
unfolding kept cut lines_of
start_kept d = copied_nil d

-- what an answer to a state says of a text that leads to it
pub answers : (s : State) (a : Result ℕ Malformed) → text_paper a ≡ finished s → Finishes s a
answers s a h = record { answer = h; text_answer = λ t e. h ∙ ap finished e ∙ finished_after t }

-- a store changes no length
length_kept_at : (n q x y z : ℕ) (d : List ℕ) → length (kept_at n q x y z d) ≡ length d
unfolding kept_at
length_kept_at n q x y z d = go (ltb n 256)
  where
    go : (b : Bool) → length (cond b (sets d (4 * n) (q ∷ x ∷ y ∷ z ∷ [])) d) ≡ length d
    go true = length-sets d (4 * n) (q ∷ x ∷ y ∷ z ∷ [])
    go false = refl

pub length_step : (s : State) (b : ℕ) (d : List ℕ) → length (step_kept s b d) ≡ length d
unfolding step_kept line_kept
length_step s b d = go (eqb b 10)
  where
    go : (k : Bool) → length (cond k (line_kept s d) d) ≡ length d
    go true = last_any length (length d) s.fields s.field _ _ (λ z. length_kept_at s.entries s.qubit s.x s.y (slot_number z) d) refl
    go false = refl

-- what feeding leaves at the end of the chunk, and what that says of a text that leads to the state before it
pub feeds : (s : State) (u d : List ℕ) (r : State) (e : List ℕ) (i : ℕ) → length u ≤ i → fed r (drop i u) ≡ fed s u → fed_kept r (drop i u) e ≡ fed_kept s u d → Feeds s u d r e
feeds s u d r e i h p q =
    let f : r ≡ fed s u = rw (drop_of_length-le u h) at p in
    let k : e ≡ fed_kept s u d = rw (drop_of_length-le u h) at q in
    record {
      state = f;
      entries = k;
      text_state = λ t h. f ∙ ap (λ (s : State). fed s u) h ∙ fed_after t u;
      text_entries = λ t o h l. k ∙ ap (λ (s : State). fed_kept s u d) h ∙ ap (fed_kept (after t) u) l ∙ kept_fed t u o;
    }

-- ---- one outcome

-- an answer is known by its number and values
pub answer_is : (a b : Result ℕ Malformed) → text_paper a ≡ text_paper b → a ≡ b
answer_is (Ok n) (Ok m) h = ap (λ (p : Told). Ok p.entries) h
answer_is (Ok n) (Err e) h = let z : ◌≡◌ {A = ℕ} 0 16 = ap (λ (p : Told). p.number) h in absurd (omega arith)
answer_is (Err e) (Ok n) h = let z : ◌≡◌ {A = ℕ} 16 0 = ap (λ (p : Told). p.number) h in absurd (omega arith)
answer_is (Err e) (Err f) h = ap (λ (p : Told). Err (record { line = p.line })) h
