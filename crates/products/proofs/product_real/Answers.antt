-- `products::product_real` meets its contract: that of both calls, at its coefficient.
use Rattle.products.proofs.product_real.Goals as goal

pub returns : goal.returns
returns c = c.product.ensures _
