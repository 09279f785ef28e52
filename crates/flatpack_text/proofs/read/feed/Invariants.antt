-- `flatpack_text::read::feed` meets its contract: what is left of the chunk leads from the present state to where the whole leads.
use mathlib.Core.Path.{◌≡◌}
use lib.ListN.{length, drop}
use Rattle.flatpack_text.specs.Moves.{fed, fed_kept}
use Rattle.flatpack_text.proofs.read.feed.Given as goal

abbrev pub invariant-loop-b : goal.invariant-loop-b
invariant-loop-b l = (length l.table ≡ length l.initial.table) × (fed l.at (drop l.b-index l.chunk) ≡ fed l.initial.at l.chunk) × (fed_kept l.at (drop l.b-index l.chunk) l.table ≡ fed_kept l.initial.at l.chunk l.initial.table)
