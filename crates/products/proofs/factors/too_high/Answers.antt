-- `factors::too_high` meets its contract: what std says of `any`.
use Prim.Native.Nat.{◌≤◌, ◌<◌}
use Rattle.std.proofs.Common.{rules, tests}
use Rattle.std.proofs.lemmas.Iterator.{cases_from_any, YieldsList-from_slice}
use Rattle.products.proofs.ProductLaws.{high_by}
use Rattle.products.proofs.factors.too_high.Goals as goal

pub returns : goal.returns
returns c =
    let a = c.args in
    let ks = a.numbers.now in
    high_by a.rows ks _ (cases_from_any _ _ _ (λ k. a.rows ≤ k) (λ k. k < a.rows) c.any.ensures.ran (YieldsList-from_slice ks cc)
    (λ k q h. search (rules, tests)) (λ k q h. (search (rules, tests), search (rules, tests))))
