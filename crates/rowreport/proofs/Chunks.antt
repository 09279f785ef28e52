-- Chunks taken one after another: what a turn of the loop adds to those before it.
use Prim.Native.Nat.{ℕ, ◌+◌, ◌<◌}
use native.Mathlib.Numerals.{add-one}
use mathlib.Core.Path.{◌≡◌, sym, ap, subst, ◌∙◌}
use mathlib.Core.List.{List, [], ◌++◌}
use lib.ListN.{length}
use Rattle.std.specs.Prelude.{Option, Some, Result, Ok}
use Rattle.flatpack_text.specs.declared.read.State.{State}
use Rattle.flatpack_text.specs.Calls.{Feeds}
use Rattle.rowreport_core.specs.declared.Reading.{Reading}
use Rattle.rowreport_core.specs.Program.{begun, Takes, none, more}
use Rattle.rowreport.specs.Reads.{Turned}

-- a chunk that was taken
pub some_taken : {s r : State} {u d e : List ℕ} → Feeds s u d r e → 0 < length u → (u : List ℕ) × (0 < length u) × Feeds s u d r e
some_taken {u = u} f h = (u, h, f)

-- as many chunks as were counted
abbrev pub Counted : ℕ → Reading → Type 0
Counted k r = (text : List ℕ) × Takes begun text k r

pub none_yet : {r : Reading} → r ≡ begun → Counted 0 r
none_yet e = subst (Counted 0) (sym e) ([], none)

pub one_more : {E : Type 0} {k : ℕ} {r t : Reading} {o : Option Reading} {s : Result (Option Reading) E} → Counted k r → Turned r s → s ≡ Ok o → o ≡ Some t → Counted (k + 1) t
one_more {E} {k} {r} {t} (text, run) h e f =
    let (u, full, feeds) = subst (Turned {E = E} r) (e ∙ ap (λ (o : Option Reading). Ok o) f) h in
    subst (λ (n : ℕ). Counted n t) (sym (add-one k)) (text ++ u, more run full feeds)
