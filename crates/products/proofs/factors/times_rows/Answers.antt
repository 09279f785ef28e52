-- `factors::times_rows` meets its contract: the product so far times that of the rows left is the whole product.
use Prim.Native.Nat.{◌+◌, ◌*◌}
use native.Mathlib.Omega.{arith}
use mathlib.Core.Path.{sym, ap, ◌∙◌}
use lib.ListN.{drop}
use Rattle.algebra.specs.Rows.{Row, times}
use Rattle.products.specs.Products.{product_of}
use Rattle.majorana.specs.HeldRows.{modes_of}
use Rattle.products.specs.Private.{row_of}
use Rattle.products.proofs.ProductLaws.{number_low, product_from, product_step, product_end}
use Rattle.products.proofs.factors.times_rows.Goals as goal

pub loop-k-init : goal.loop-k-init
loop-k-init c =
    let a = c.args in
    let from = product_from (modes_of a.rows.now) a.ax.now a.az.now a.numbers.now c.requires.3 c.requires.4 in
    (c.requires.1, c.requires.2, omega (arith, c.default-f.ensures), rw c.default-f.ensures from)

pub times-f-requires : goal.times-f-requires
times-f-requires c =
    let l = c.loop-k in
    (number_low (2 * c.args.rows.now.set.modes) c.args.numbers.now c.requires.0 l.k-index c.loop-k-test.true, l.invariant.0, l.invariant.1)

pub loop-k-preserved : goal.loop-k-preserved
loop-k-preserved c =
    let l = c.loop-k in
    let t = c.times-f in
    let a = c.args in
    let m = modes_of a.rows.now in (
      t.auto.ax ∙ l.invariant.0,
      t.auto.az ∙ l.invariant.1,
      omega (arith, ap (λ (r : Row). r.p) t.ensures),
      ap (λ (r : Row). times r (product_of m (drop (l.k-index + 1) a.numbers.now))) t.ensures
          ∙ product_step m (row_of l.f.power l.ax l.az) a.numbers.now l.k-index c.loop-k-test.true
          ∙ l.invariant.3,
    )

pub returns : goal.returns
returns c =
    let l = c.loop-k in
    let a = c.args in
    sym (product_end (modes_of a.rows.now) (row_of l.f.power l.ax l.az) a.numbers.now l.k-index l.invariant.2 (omega arith)) ∙ l.invariant.3
