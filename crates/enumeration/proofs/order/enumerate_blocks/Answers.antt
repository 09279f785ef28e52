-- `order::enumerate_blocks` meets its contract: after i turns the first i blocks are those of the new order, and the rest stays.
use Prim.Native.Nat.{ℕ, ◌+◌, ◌-◌, ◌*◌}
use native.Mathlib.Omega.{arith}
use mathlib.Core.Path.{◌≡◌, ap, ◌∙◌}
use lib.ListN.{get_or, take, drop}
use Rattle.enumeration.proofs.OrderLaws.{next_block, blocks_within, length_blocks}
use Rattle.enumeration.proofs.order.enumerate_blocks.Goals as goal

pub overflow_add-from : goal.overflow_add-from
overflow_add-from g c = let h = blocks_within c.requires.0 c.args.size c.loop-i.i (omega arith) in record { fits = omega (arith, h.0) }

pub slice_bounds-put-end : goal.slice_bounds-put-end
slice_bounds-put-end g c = let h = blocks_within c.requires.0 c.args.size c.loop-i.i (omega arith) in omega (arith, h.0, h.1)

pub slice_bounds-put-end-in-loop-i : goal.slice_bounds-put-end-in-loop-i
slice_bounds-put-end-in-loop-i g c = let h = blocks_within c.requires.0 c.args.size c.loop-i.i (omega arith) in omega (arith, h.0, h.1)

pub loop-i-preserved : goal.loop-i-preserved
loop-i-preserved g c =
    let l = c.loop-i in
    let a = c.args in
    let at = get_or a.map.now l.i 0 * a.size in
    let e : at + a.size - at ≡ a.size = omega arith in
    next_block (λ j. take a.size (drop (get_or a.map.now j 0 * a.size) a.x.now)) l.i a.size l.out a.out.now _
    (length_blocks c.requires.0 a.size a.x.now c.requires.1 l.i (omega arith)) l.invariant
    (c.put.ensures ∙ ap (λ (n : ℕ). take n (drop at a.x.now)) e)
