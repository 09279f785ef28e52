-- `flatpack_text::flatpack::plain_numbers` meets its contract: after i turns the first i numbers are placed.
use mathlib.Core.Path.{◌≡◌}
use Rattle.flatpack_text.specs.Entries.{placed, plain_at}
use Rattle.flatpack_text.proofs.flatpack.plain_numbers.Given as goal

abbrev pub invariant-loop-i : goal.invariant-loop-i
invariant-loop-i l = l.entries ≡ placed (plain_at l.table) l.i l.initial.entries
