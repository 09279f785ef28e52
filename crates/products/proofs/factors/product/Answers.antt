-- `factors::product` meets its contract: what does not depend on the kind of coefficient, and the coefficient turned by the letter power.
use Rattle.products.proofs.ProductAnswers.{makes_turned}
use Rattle.products.proofs.factors.product.Goals as goal

pub returns : goal.returns
returns g c none =
    makes_turned (λ k. g.T.Turn.turned k c.args.c) none _ _ _ _ _ _ _ _ _ _ c.multiply.ensures c.is_finite.ensures c.in_ok-f.was c.turn.ensures
