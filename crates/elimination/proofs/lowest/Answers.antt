-- `elimination::lowest` meets its contract: the words passed are zero.
use Rattle.std.proofs.Common.{◌≡◌, ◌<◌, get_or, take, arith, get_or-take, length-take-le}
use Rattle.elimination.proofs.Columns.{lowest_here, lowest_none}
use Rattle.elimination.proofs.lowest.Goals as goal

pub returns-then-x-ne0 : goal.returns-then-x-ne0
returns-then-x-ne0 c =
    let a = c.args in
    let i = c.loop-i.i in
    let inside : i < a.n = omega (arith, length-take-le a.n a.s.now c.requires.0) in
    let same : get_or (take a.n a.s.now) i 0 ≡ get_or a.s.now i 0 = get_or-take a.n a.s.now i 0 inside in
    rw same (lowest_here a.s.now (λ k. (c.type_inv.s k).fits) i c.loop-i.invariant a.n inside (omega (arith, same, c.if-x-ne0.true)))

pub returns : goal.returns
returns c =
    let a = c.args in
    lowest_none a.s.now a.n (λ k h. c.loop-i.invariant k (omega (arith, h, length-take-le a.n a.s.now c.requires.0)))
