-- `dense_block::clear` meets its contract: the words passed are 0.
use Rattle.std.proofs.Common.{◌≡◌, ℕ, List, ◌++◌, take, drop, set, ap, ◌∙◌, arith, length-take-le}
use Rattle.dense_block.specs.Words.{zeroed}
use Rattle.dense_block.proofs.Clears.{zeroed_step, zeroed_take, zeroed_min}
use Rattle.dense_block.proofs.clear.Goals as goal

pub loop-w-preserved : goal.loop-w-preserved
loop-w-preserved c =
    let l = c.loop-w in
    ap (λ (x : List ℕ). set x l.w-index 0) l.invariant ∙ zeroed_step (take c.min-m.result c.args.s.now) l.w-index

pub returns : goal.returns
returns c =
    let ws = c.args.s.now in
    let m = c.min-m.result in
    let l = c.loop-w in
    let all : l.w-index ≡ m = omega (arith, length-take-le m ws (omega arith)) in
    ap (λ (xs : List ℕ). xs ++ drop m ws) (l.invariant ∙ ap (λ (k : ℕ). zeroed k (take m ws)) all)
    ∙ zeroed_take m ws (omega arith)
    ∙ ap (λ (k : ℕ). zeroed k ws) c.min-m.ensures
    ∙ zeroed_min c.args.n ws
