-- `flatpack_text::flatpack::qubits_used` meets its contract: after i turns, the qubits that the first i entries use.
use mathlib.Core.Path.{◌≡◌}
use Rattle.flatpack_text.specs.Entries.{used}
use Rattle.flatpack_text.proofs.flatpack.qubits_used.Given as goal

abbrev pub invariant-loop-i : goal.invariant-loop-i
invariant-loop-i l = l.top ≡ used l.table l.i
