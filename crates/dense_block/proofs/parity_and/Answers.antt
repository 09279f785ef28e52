-- `dense_block::parity_and` meets its contract: the ones of the fold have the parity of the common ones.
use Rattle.std.proofs.Common.{ℕ, eqb, ap, ◌∙◌}
use Rattle.dense_block.specs.Words.{odd}
use Rattle.dense_block.proofs.parity_and.Goals as goal

pub returns : goal.returns
unfolding odd
returns c = c.parity.ensures ∙ ap (λ (k : ℕ). eqb k 1) c.fold_and.ensures.parity
