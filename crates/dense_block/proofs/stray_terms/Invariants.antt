-- `dense_block::stray_terms` meets its contract: no row so far has a column at or above q, and what is left starts with the row at hand.
use Rattle.std.proofs.Common.{◌≡◌, ◌*◌, false, drop}
use Rattle.dense_block.specs.Words.{strays_in}
use Rattle.dense_block.proofs.stray_terms.Given as goal

abbrev pub invariant-loop : goal.invariant-loop
invariant-loop l = (l.rest ≡ drop (l.counter * l.width) l.x) × (strays_in l.width l.x l.counter l.q ≡ false)
