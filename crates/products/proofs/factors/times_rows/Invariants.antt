-- `factors::times_rows` meets its contract: the product so far times that of the rows left is the whole product.
use Prim.Native.Nat.{◌<◌}
use mathlib.Core.Path.{◌≡◌}
use lib.ListN.{length, drop}
use Rattle.algebra.specs.Rows.{times}
use Rattle.products.specs.Products.{product_of}
use Rattle.majorana.specs.HeldRows.{modes_of}
use Rattle.products.specs.Private.{row_of}
use Rattle.products.proofs.factors.times_rows.Given as goal

abbrev pub invariant-loop-k : goal.invariant-loop-k
invariant-loop-k l =
    (length l.ax ≡ l.rows.w)
    × (length l.az ≡ l.rows.w)
    × (l.f.power < 4)
    × (times (row_of l.f.power l.ax l.az) (product_of (modes_of l.rows) (drop l.k-index l.numbers)) ≡ product_of (modes_of l.rows) l.numbers)
