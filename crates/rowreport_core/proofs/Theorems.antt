-- What the program writes for a text, and that its last call leaves one outcome.
--
-- In plain words: take a text in chunks of any number and lengths, none empty, from `begin` on, each call of `take` with what the one before it answered; then `texts` leaves the text's output,
-- byte for byte, in the buffer for standard output, and in the one for standard error nothing if the text is done, and else the sentence for its refusal, with the line that is no
-- entry or the slot for which it is refused: `program_answers`. The lengths of the buffers are those of their types. Below, a call is its contract: `Takes` has the calls of `take`,
-- `Answers` is `texts`.
use Prim.Native.Nat.{ℕ, ◌≤◌}
use native.Mathlib.Omega.{arith}
use mathlib.Core.Path.{◌≡◌, refl, sym, ap, ◌∙◌, subst}
use mathlib.Core.List.{List}
use mathlib.Core.Bool.{true}
use borrow.Author.Tests.{le-leb}
use lib.Dec.{leb}
use lib.ListN.{length, replicate, length-replicate}
use Rattle.std.specs.Prelude.{Option, Ok, Err}
use Rattle.refusal.specs.Numbers.{Answer}
use Rattle.refusal.proofs.Outcome.{one_outcome}
use Rattle.flatpack_text.specs.Text.{parse}
use Rattle.flatpack_text.specs.Machine.{Told, told, kept, after}
use Rattle.flatpack_text.specs.Moves.{finished}
use Rattle.flatpack_text.proofs.Reading.{start_kept, finished_after}
use Rattle.report.specs.declared.locate.Site.{Site}
use Rattle.report.specs.declared.reply.Reply.{Reply}
use Rattle.report.specs.Explain.{explained, explained_length}
use Rattle.report.specs.Located.{SiteOf}
use Rattle.report.specs.Replies.{located, Replied}
use Rattle.report.proofs.Outputs.{reply_whole, reply_numbered}
use Rattle.report.proofs.Sites.{site_of}
use Rattle.report.proofs.Theorems.{respond_outcome}
use Rattle.rowreport_core.specs.declared.Reading.{Reading}
use Rattle.rowreport_core.specs.declared.Lengths.{Lengths}
use Rattle.rowreport_core.specs.Program.{begun, Takes, none, more, error_text, Front, Shown}
use Rattle.rowreport_core.specs.Held.{error_length, error_bytes, Explained, Answers}

-- ---- one outcome is left

pub texts_outcome : {r : Reading} {o e oa ea ob eb : List ℕ} {a b : Lengths} → Answers r o e a oa ea → Answers r o e b ob eb → (a ≡ b) × (oa ≡ ob) × (ea ≡ eb)
texts_outcome {r} {o} {e} {oa} {ea} {ob} {eb} {a} {b} h k =
    let one = respond_outcome h.replies k.replies in
    let same : Explained h.reply.answer r.state r.table e b.error eb = subst (λ (p : Reply). Explained p.answer r.state r.table e b.error eb) (sym one.0) k.explains in
    let x : a.output ≡ b.output = h.count ∙ ap (λ (p : Reply). p.length) one.0 ∙ sym k.count in
    let y : a.error ≡ b.error = one_outcome h.explains.count same.count in
    (λ i. record { output = x i; error = y i }, one.1, one_outcome h.explains.bytes same.bytes)

-- ---- a text that was taken

-- what is held of it
taken_text : {text : List ℕ} {k : ℕ} {r : Reading} → Takes begun text k r → (r.state ≡ after text) × (r.table ≡ kept text (replicate 1024 0))
taken_text none = (refl, sym (start_kept (replicate 1024 0)))
taken_text (more {text = text} run full feeds) =
    let h = taken_text run in
    (feeds.text_state text h.0, feeds.text_entries text (replicate 1024 0) h.0 h.1)

-- the sentence stands whole at the front of its buffer
sentence_front : (a : Answer) (place : Option Site) (error : List ℕ) → 256 ≤ length error → Front (error_text a place) error (error_length a place error) (error_bytes a place error)
unfolding explained_length explained
sentence_front (Ok tt) place error h = record { count = refl; bytes = refl }
sentence_front (Err why) place error h = let e : leb 256 (length error) ≡ true = le-leb 256 (length error) h in record { count = rw e; bytes = rw e }

pub program_answers : {text : List ℕ} {k : ℕ} {r : Reading} {output₀ error₀ output₁ error₁ : List ℕ} {t : Lengths}
    → Takes begun text k r → length output₀ ≡ 164480 → length error₀ ≡ 256 → Answers r output₀ error₀ t output₁ error₁ → Shown text output₀ error₀ t output₁ error₁
program_answers {text} {k} {r} {output₀} {error₀} {output₁} {error₁} {t} run wide long answers =
    let (state, table) = taken_text run in
    let read : finished r.state ≡ told (parse text) = ap finished state ∙ finished_after text in
    let room : 1024 ≤ length {A = ℕ} (replicate 1024 0) = omega (arith, length-replicate {A = ℕ} 1024 0) in
    let reply : Replied (told (parse text)) r.table output₀ answers.reply output₁ = subst (λ (t : Told). Replied t r.table output₀ answers.reply output₁) read answers.replies in
    let whole = reply_whole text (replicate 1024 0) r.table output₀ table room (omega (arith, wide)) reply in
    let front = sentence_front answers.reply.answer (located (finished r.state) r.table) error₀ (omega (arith, long)) in
    record {
      shown = record { count = answers.count ∙ whole.0; bytes = whole.1 };
      answer = answers.reply.answer;
      number = (reply_numbered text (replicate 1024 0) r.table output₀ table room reply).0;
      place = located (finished r.state) r.table;
      placed = subst (λ (t : Told). SiteOf (parse text) (located t r.table)) (sym read) (site_of text (replicate 1024 0) r.table table room);
      told = record { count = answers.explains.count ∙ front.count; bytes = answers.explains.bytes ∙ front.bytes };
    }
