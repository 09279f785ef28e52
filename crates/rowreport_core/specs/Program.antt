-- What `rowreport` holds of a text, and what it writes at its end: the text's output to standard output, and the sentence for a refusal to standard error.
use Rattle.std.specs.Prelude.{ℕ, suc, ◌<◌, ◌≡◌, List, [], ◌++◌, length, drop, replicate, Option, Ok, Err}
use Rattle.refusal.specs.Numbers.{Answer, answered}
use Rattle.flatpack_text.specs.Text.{parse}
use Rattle.flatpack_text.specs.Machine.{after}
use Rattle.flatpack_text.specs.Calls.{Feeds}
use Rattle.report.specs.declared.locate.Site.{Site}
use Rattle.report.specs.Explain.{sentence}
use Rattle.report.specs.Output.{verdict_of, output}
use Rattle.report.specs.Located.{SiteOf}
use Rattle.rowreport_core.specs.declared.Reading.{Reading}
use Rattle.rowreport_core.specs.declared.Lengths.{Lengths}

-- ---- what is held

-- before the first byte
abbrev pub begun : Reading
begun = record { state = after []; table = replicate 1024 0 }

-- k calls of `take`, each with a chunk of at least a byte and what the call before it answered: from r to what is held of the text, which is the chunks joined
pub data Takes (r : Reading) : List ℕ → ℕ → Reading → Type 0 where
  none : Takes r [] 0 r
  more : {m t : Reading} {text u : List ℕ} {k : ℕ} → Takes r text k m → 0 < length u → Feeds m.state u m.table t.state t.table → Takes r (text ++ u) (suc k) t

-- ---- what is written

-- the sentence for an answer and a place; none for an answer that is done
abbrev pub error_text : Answer → Option Site → List ℕ
error_text (Ok tt) place = []
error_text (Err why) place = sentence why place

-- a text at the front of a buffer: how many bytes are written, and the buffer at exit
pub record Front (text buffer : List ℕ) (k : ℕ) (after : List ℕ) : Type 0 where
  pub count : k ≡ length text
  pub bytes : after ≡ text ++ drop (length text) buffer

-- for a text: its output in the first buffer, and in the second the sentence for its answer and its place, which are those of the definitions
pub record Shown (text output₀ error₀ : List ℕ) (t : Lengths) (output₁ error₁ : List ℕ) : Type 0 where
  pub shown : Front (output text) output₀ t.output output₁
  pub answer : Answer
  pub number : answered answer ≡ verdict_of (parse text)
  pub place : Option Site
  pub placed : SiteOf (parse text) place
  pub told : Front (error_text answer place) error₀ t.error error₁
