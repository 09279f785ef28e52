-- `dense_block::joined` meets its contract: a digit at s or above is set in the words so far exactly if it is in one of them.
use Rattle.std.proofs.Common.{◌≡◌, ℕ, ◌+◌, ◌*◌, ◌/◌, ◌^◌, ltb, get_or}
use Rattle.refusal.specs.Search.{some_below}
use Rattle.dense_block.proofs.joined.Given as goal

abbrev pub invariant-loop-k : goal.invariant-loop-k
invariant-loop-k l = (s : ℕ) → ltb 0 (l.all / 2 ^ s) ≡ some_below l.k (λ j. ltb 0 (get_or l.x (j * l.width + l.at) 0 / 2 ^ s))
