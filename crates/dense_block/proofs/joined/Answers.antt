-- `dense_block::joined` meets its contract: a digit at s or above is set in the words so far exactly if it is in one of them.
use Rattle.std.proofs.Common.{ℕ, ◌+◌, ◌*◌, ◌/◌, ◌^◌, Bool, ◌||◌, ltb, get_or, sym, ap, ◌∙◌, arith}
use native.Mathlib.Nat.{zero-div}
use Rattle.refusal.proofs.Searches.{some_none, some_next}
use Rattle.dense_block.proofs.Strays.{or_pos}
use Rattle.dense_block.proofs.joined.Goals as goal

pub loop-k-init : goal.loop-k-init
loop-k-init c = λ s. ap (ltb 0) (zero-div (2 ^ s)) ∙ sym (some_none 0 ((λ (s : ℕ) (j : ℕ). let a = c.args in ltb 0 (get_or a.x.now (j * a.width + a.at) 0 / 2 ^ s)) s) (omega arith))

pub loop-k-preserved : goal.loop-k-preserved
loop-k-preserved c =
    let l = c.loop-k in
    let a = c.args in
    let x = get_or a.x.now (l.k * a.width + a.at) 0 in
    λ s. or_pos l.all x s ∙ ap (λ (b : Bool). ltb 0 (x / 2 ^ s) || b) (l.invariant s) ∙ sym (some_next l.k ((λ (s : ℕ) (j : ℕ). let a = c.args in ltb 0 (get_or a.x.now (j * a.width + a.at) 0 / 2 ^ s)) s))
