-- What reading standard input comes to: chunks are taken in turn, each on top of those before it. That the chunks are what was read, and all of it, no contract can say.
use Rattle.std.specs.Prelude.{ℕ, ◌<◌, List, length, ⊤, Option, Some, None, Result, Ok, Err, IfOk}
use Rattle.flatpack_text.specs.Calls.{Feeds}
use Rattle.rowreport_core.specs.declared.Reading.{Reading}
use Rattle.rowreport_core.specs.Program.{begun, Takes}
use Rattle.rowreport.specs.declared.Whole.{Whole}

-- some chunk of at least a byte is taken; at the end, or where the read fails, none is
abbrev pub Turned : {E : Type 0} → Reading → Result (Option Reading) E → Type 0
Turned r (Ok (Some t)) = (u : List ℕ) × (0 < length u) × Feeds r.state u r.table t.state t.table
Turned r (Ok None) = ⊤
Turned r (Err e) = ⊤

-- what is held at the end of a text, after as many chunks as were counted
abbrev pub Gathered : {E : Type 0} → Result Whole E → Type 0
Gathered r = IfOk r (λ w. (text : List ℕ) × Takes begun text w.chunks w.reading)
