-- `flatpack_text::flatpack::filled_slots` meets its contract: after k turns the first k flags are placed.
use mathlib.Core.Path.{◌≡◌}
use Rattle.flatpack_text.specs.Entries.{placed, filled_at}
use Rattle.flatpack_text.proofs.flatpack.filled_slots.Given as goal

abbrev pub invariant-loop-k : goal.invariant-loop-k
invariant-loop-k l = l.filled ≡ placed (filled_at l.table) l.k l.initial.filled
