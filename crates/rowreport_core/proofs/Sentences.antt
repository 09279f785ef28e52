-- The sentence of a refused answer, from what `locate` and `explain` promise.
use Prim.Native.Nat.{ℕ}
use mathlib.Core.Path.{◌≡◌, sym, ap, ◌∙◌}
use mathlib.Core.List.{List}
use Rattle.std.specs.Prelude.{Option, Err}
use Rattle.refusal.specs.Numbers.{Answer}
use Rattle.refusal.specs.declared.Refusal.{Refusal}
use Rattle.flatpack_text.specs.declared.read.State.{State}
use Rattle.flatpack_text.specs.Moves.{finished}
use Rattle.report.specs.declared.locate.Site.{Site}
use Rattle.report.specs.Explain.{explained, explained_length}
use Rattle.report.specs.Replies.{located}
use Rattle.rowreport_core.specs.Held.{error_length, error_bytes, Explained}

pub refused_explained : (a : Answer) (why : Refusal) (s : State) (table error : List ℕ) (place : Option Site) (k : ℕ) (after : List ℕ)
    → a ≡ Err why → place ≡ located (finished s) table
    → k ≡ explained_length why place error → after ≡ explained why place error
    → Explained a s table error k after
refused_explained a why s table error place k after e h l b = record {
  count = l ∙ ap (λ (p : Option Site). explained_length why p error) h ∙ sym (ap (λ (a : Answer). error_length a (located (finished s) table) error) e);
  bytes = b ∙ ap (λ (p : Option Site). explained why p error) h ∙ sym (ap (λ (a : Answer). error_bytes a (located (finished s) table) error) e);
}
