-- `dense_block::stray` meets its contract: the rest of the word of column q, or a word above it.
use Rattle.std.proofs.Common.{◌+◌, ◌/◌, not, eqb, length, drop, sym, ap, ◌∙◌, arith, rules, tests, le-ltb, ne_eqb}
use Rattle.std.proofs.lemmas.Iterator.{YieldsList-from_slice}
use Rattle.std.proofs.lemmas.Iterator.Search.{any_from_yields_List}
use Rattle.std.proofs.lemmas.Slice.{between_to_end}
use Rattle.dense_block.proofs.Strays.{ends_below, strays_here, strays_above}
use Rattle.dense_block.proofs.stray.Goals as goal

pub returns-then-s-w-ne0 : goal.returns-then-s-w-ne0
returns-then-s-w-ne0 c =
    ap not (ne_eqb _ 0 c.if-s-w-ne0.true)
    ∙ strays_here c.args.s.now c.args.q (λ i. (c.type_inv.s i).fits) (λ e. omega (arith, e, c.if-s-w-ne0.true))

pub returns-else-s-w-ne0 : goal.returns-else-s-w-ne0
returns-else-s-w-ne0 c =
    let s = c.args.s.now in
    let w = c.args.q / 64 in
    let rest = c.iter.ensures.rest ∙ between_to_end s (w + 1) (length s) (omega arith) in
    let any = any_from_yields_List (λ k. not (eqb k 0)) _ _ c.any.result c.any.ensures.ran (YieldsList-from_slice (drop (w + 1) s) rest) (λ x b q k. search (rules, tests)) in
    any ∙ strays_above s c.args.q (λ i. (c.type_inv.s i).fits) (omega arith)

pub returns-else-w-s : goal.returns-else-w-s
returns-else-w-s c =
    let s = c.args.s.now in
    le-ltb (c.args.q / 64) (length s) c.if-w-s.false ∙ sym (ends_below s c.args.q (λ i. (c.type_inv.s i).fits) c.if-w-s.false)
