-- `order::is_permutation` meets its contract: the numbers passed are new, each of them, and they are those that were met.
use native.Mathlib.Omega.{arith}
use mathlib.Core.Path.{◌≡◌, sym, ◌∙◌}
use mathlib.Core.Bool.{false}
use Prim.Native.Nat.{◌<◌}
use lib.ListN.{get_or, take}
use lib.Seq.{get_or-take, length-take-le}
use Rattle.enumeration.specs.Orders.{new_number}
use Rattle.enumeration.proofs.OrderLaws.{number_high, number_again, number_new, no_permutation, passed_none, passed_one, passed_all, marked_none, marked_one}
use Rattle.enumeration.proofs.order.is_permutation.Goals as goal
use Rattle.enumeration.proofs.order.is_permutation.Goals.{In-loop-k, then-modes-k-via-then-modes-k, then-modes-k-via-else-modes-k+then-met-k}

pub loop-k-init : goal.loop-k-init
loop-k-init c = (marked_none c.args.map.now, passed_none c.args.modes c.args.map.now)

low : (c : In-loop-k) → c.loop-k.k-index < c.args.modes
low c = omega (arith, length-take-le c.args.modes c.args.map.now c.requires.1)

-- the number at hand is the map's own
number : (c : In-loop-k) → get_or (take c.args.modes c.args.map.now) c.loop-k.k-index 0 ≡ get_or c.args.map.now c.loop-k.k-index 0
number c = get_or-take c.args.modes c.args.map.now c.loop-k.k-index 0 (low c)

pub returns-then-modes-k : goal.returns-then-modes-k
returns-then-modes-k c =
    let a = c.args in
    let l = c.loop-k in
    let at = (goal.at.returns-then-modes-k c).In-loop-k in
    let same = number at in
    let old : new_number a.modes a.map.now l.k-index ≡ false = elim c.then-modes-k.branch [
      | then-modes-k-via-then-modes-k w ↦ number_high a.modes a.map.now l.k-index (rw same at w.if-modes-k.true)
      | then-modes-k-via-else-modes-k+then-met-k w ↦
          number_again a.modes a.map.now l.k-index (rw same at (sym (l.invariant.0.1 _ (omega arith)) ∙ w.if-met-k.true))
    ] in
    sym (no_permutation a.modes a.map.now l.k-index (low at) old)

pub loop-k-preserved : goal.loop-k-preserved
loop-k-preserved c =
    let a = c.args in
    let l = c.loop-k in
    let same = number (goal.at.loop-k-preserved c).In-loop-k in
    let below : get_or a.map.now l.k-index 0 < a.modes = rw same at c.if-modes-k.false in
    let fresh = rw same at (sym (l.invariant.0.1 _ (omega arith)) ∙ c.if-met-k.false) in (
      rw same (marked_one a.map.now l.met l.k-index (omega arith) l.invariant.0),
      passed_one a.modes a.map.now l.k-index l.invariant.1 (number_new a.modes a.map.now l.k-index below fresh),
    )

pub returns : goal.returns
returns c =
    let a = c.args in
    let l = c.loop-k in
    let e : l.k-index ≡ a.modes = omega (arith, length-take-le a.modes a.map.now c.requires.1) in
    sym (passed_all a.modes a.map.now (rw e at l.invariant.1))
