-- For `texts` and its private function, and needs no belief: what is written, from what is held. For a text, `program_answers` (proofs/Theorems.antt) says what it comes to.
use Rattle.std.specs.Prelude.{ℕ, ◌≡◌, List, Option, Ok, Err}
use Rattle.refusal.specs.Numbers.{Answer}
use Rattle.flatpack_text.specs.declared.read.State.{State}
use Rattle.flatpack_text.specs.Moves.{finished}
use Rattle.report.specs.declared.reply.Reply.{Reply}
use Rattle.report.specs.declared.locate.Site.{Site}
use Rattle.report.specs.Explain.{explained, explained_length}
use Rattle.report.specs.Replies.{located, Replied}
use Rattle.rowreport_core.specs.declared.Reading.{Reading}
use Rattle.rowreport_core.specs.declared.Lengths.{Lengths}

-- the sentence for an answer and a place, in a buffer: how many bytes are written, and the buffer at exit
abbrev pub error_length : Answer → Option Site → List ℕ → ℕ
error_length (Ok tt) place error = 0
error_length (Err why) place error = explained_length why place error

abbrev pub error_bytes : Answer → Option Site → List ℕ → List ℕ
error_bytes (Ok tt) place error = error
error_bytes (Err why) place error = explained why place error

pub record Explained (a : Answer) (s : State) (table error : List ℕ) (k : ℕ) (after : List ℕ) : Type 0 where
  pub count : k ≡ error_length a (located (finished s) table) error
  pub bytes : after ≡ error_bytes a (located (finished s) table) error

-- the reply to what was read, in the first buffer, and the sentence for its answer, in the second
pub record Answers (r : Reading) (output₀ error₀ : List ℕ) (t : Lengths) (output₁ error₁ : List ℕ) : Type 0 where
  pub reply : Reply
  pub replies : Replied (finished r.state) r.table output₀ reply output₁
  pub count : t.output ≡ reply.length
  pub explains : Explained reply.answer r.state r.table error₀ t.error error₁
