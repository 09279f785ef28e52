-- `maxnto::ones_below` meets its contract: the word lies past the bound, below it, or holds it.
use Prim.Native.Nat.{ℕ, ◌-◌, ◌*◌}
use native.Mathlib.Omega.{arith}
use mathlib.Core.Path.{sym, ap, ◌∙◌}
use Rattle.dense_block.proofs.Columns.{one_shl}
use Rattle.maxnto.proofs.Masks.{ones_none, ones_some, ones_all}
use Rattle.maxnto.proofs.ones_below.Goals as goal

pub returns-then-c-from : goal.returns-then-c-from
returns-then-c-from c = let a = c.args in sym (ones_none a.c a.k c.if-c-from.true)

pub returns-then-c-from-ge64 : goal.returns-then-c-from-ge64
returns-then-c-from-ge64 c = let a = c.args in sym (ones_all a.c a.k (omega arith) c.if-c-from-ge64.true)

pub returns : goal.returns
returns c =
    let a = c.args in
    ap (λ (x : ℕ). x - 1) (one_shl (a.c - 64 * a.k) (omega arith)) ∙ sym (ones_some a.c a.k (omega arith) (omega arith))
