-- `wire` meets its contract: `Wiring` holds of the slots before k.
use Rattle.std.proofs.Common.{◌≡◌, refl, sym, ap, ◌∙◌, arith}
use Rattle.std.specs.Prelude.{None}
use lib.ListN.{get_or-replicate, length-set}
use Rattle.refusal.specs.Numbers.{bare, paper, answered}
use Rattle.trees.specs.Trees.{fault_of}
use Rattle.ternarytree.specs.Building.{fault_slot}
use Rattle.ternarytree.specs.Reading.{read}
use Rattle.ternarytree.specs.Tables.{Wired, slot_verdict}
use Rattle.ternarytree.proofs.WireSteps.{wired_none, wiring_child, wiring_below, wiring_fault, wiring_next, wiring_end}
use Rattle.ternarytree.proofs.reading.wire.Goals as goal
use Rattle.ternarytree.proofs.reading.wire.Goals.{After-child_in-o, In-Err}

held : (c : After-child_in-o) → (read c.args.e).child c.loop-k.k ≡ c.child_in-o.result
held c = wiring_child _ _ _ _ _ _ _ c.loop-k.invariant.2 (omega arith) c.slot.result c.child_in-o.result c.slot.ensures c.child_in-o.ensures

pub enter-requires : goal.enter-requires
enter-requires c = λ j h. get_or-replicate 256 j None None h

pub returns-then-enter-clause-told : goal.returns-then-enter-clause-told
unfolding slot_verdict
returns-then-enter-clause-told c = rw (sym c.enter.ensures.twice ∙ c.if-enter.true)

pub returns-then-enter-clause-slot : goal.returns-then-enter-clause-slot
unfolding fault_slot
returns-then-enter-clause-slot c = rw (sym c.enter.ensures.twice ∙ c.if-enter.true)

pub loop-k-init : goal.loop-k-init
loop-k-init c = (
  c.requires.nodes,
  omega arith,
  record {
    holds = c.enter.ensures.holds c.if-enter.false;
    top_is = c.past_all-top.ensures;
    once = sym c.enter.ensures.twice ∙ c.if-enter.false;
    wired = wired_none _ _ _ _ refl (omega (arith, c.args.e.some)) c.requires.parents c.requires.slots;
    nodes = λ j h. absurd (omega arith);
    before = λ j h. absurd (omega arith);
  },
)

pub node_held-requires : goal.node_held-requires
node_held-requires c = λ j h. omega (arith, wiring_below _ _ _ _ _ _ _ c.loop-k.invariant.2 c.child_in-o.result (held (goal.at.node_held-requires c).After-child_in-o) j h, c.args.e.some)

pub place-requires : goal.place-requires
place-requires c =
    let at = held (goal.at.place-requires c).After-child_in-o in
    let n = c.loop-k.invariant.0 in
    (omega (arith, n, c.loop-k-test.true), λ j h. omega (arith, wiring_below _ _ _ _ _ _ _ c.loop-k.invariant.2 c.child_in-o.result at j h, n))

-- the fault of slot k
why_is : (c : In-Err) → paper c.in-Err.why ≡ bare (fault_of (read c.args.e) c.loop-k.k c.child_in-o.result)
why_is c =
    let at = wiring_child _ _ _ _ _ _ _ c.loop-k.invariant.2 (omega arith) c.slot.result c.child_in-o.result c.slot.ensures c.child_in-o.ensures in
    ap answered (sym c.in-Err.is) ∙ c.place.ensures.told (read c.args.e) at (rw c.loop-k.invariant.0 c.loop-k.invariant.2.wired)

pub returns-in-Err-clause-told : goal.returns-in-Err-clause-told
returns-in-Err-clause-told c =
    let at = held (goal.at.returns-in-Err-clause-told c).After-child_in-o in
    (wiring_fault _ _ _ _ _ _ _ c.loop-k.invariant.2 _ c.in-Err.why c.loop-k-test.true at (why_is c)).0

pub returns-in-Err-clause-slot : goal.returns-in-Err-clause-slot
returns-in-Err-clause-slot c =
    let at = held (goal.at.returns-in-Err-clause-slot c).After-child_in-o in
    (wiring_fault _ _ _ _ _ _ _ c.loop-k.invariant.2 _ c.in-Err.why c.loop-k-test.true at (why_is c)).1

pub loop-k-preserved : goal.loop-k-preserved
loop-k-preserved c =
    let at = held (goal.at.loop-k-preserved c).After-child_in-o in
    let t = read c.args.e in
    let l = c.loop-k in
    let n = l.invariant.0 in
    let y = c.place.ensures in
    let before : Wired t l.tables.n l.k l.tables.parents l.tables.slots = rw n l.invariant.2.wired in
    let after = rw (y.nodes ∙ n) at (y.wired t at before c.in_default.is) in (
      y.nodes ∙ n,
      simp length-set l.invariant.1,
      wiring_next _ _ _ _ _ _ _ l.invariant.2 c.child_in-o.result c.place.result c.node_held.result _ _ l.invariant.1 c.loop-k-test.true at
          c.node_held.ensures (y.told t at before) c.in_default.is after,
    )

pub returns-clause-told : goal.returns-clause-told
returns-clause-told c = (wiring_end _ _ _ _ _ _ _ c.loop-k.invariant.2 (omega arith)).0

pub returns-clause-slot : goal.returns-clause-slot
returns-clause-slot c = (wiring_end _ _ _ _ _ _ _ c.loop-k.invariant.2 (omega arith)).1

pub returns-clause-filled : goal.returns-clause-filled
returns-clause-filled c =
    let (told, slot, wired, nodes) = wiring_end _ _ _ _ _ _ _ c.loop-k.invariant.2 (omega arith) in
    λ z. record { wired = wired; nodes = nodes }
