-- `factors::add` meets its contract: words added one by one are the numbers added.
use mathlib.Core.Path.{ap, ◌∙◌}
use Rattle.dense_block.specs.Words.{value}
use Rattle.dense_block.proofs.Alongs.{value_xors}
use borrow.Author.Rules.{rules}
use Rattle.products.proofs.factors.add.Goals as goal

pub returns : goal.returns
returns c = ap value c.xor_assign.ensures ∙ value_xors c.args.part.now c.args.more.now c.requires (search rules) (λ k. (c.type_inv.more k).fits)
