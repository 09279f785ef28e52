-- `naive_slots` meets its contract: the rows before m have their slots.
use Rattle.std.proofs.Common.{◌≡◌, false, ap, arith, below_more}
use Rattle.std.specs.Prelude.{Some, None}
use Rattle.trees.specs.Leaves.{slot_of}
use Rattle.ternarytree.proofs.Codes.{in_order}
use Rattle.ternarytree.proofs.chains.naive_slots.Goals as goal

pub loop-m-preserved : goal.loop-m-preserved
unfolding slot_of
loop-m-preserved c =
    let l = c.loop-m in
    let y = c.chain_end in
    record {
      nodes = l.invariant.nodes;
      parents = l.invariant.parents;
      slots = λ t w.
          let e : y.result ≡ slot_of false t l.m = y.ensures.1 t w in
          let r = l.invariant.slots t w in (
            in_order None (λ j x. x ≡ Some (slot_of false t j)) l.tables.slots l.m (Some y.result) r.0 (omega arith) (ap Some e),
            below_more _ l.m r.1 (rw (← e) y.ensures.0),
          );
    }

pub returns-clause-slots : goal.returns-clause-slots
returns-clause-slots c =
    let l = c.loop-m.invariant in
    λ t w m h.
    let r = l.slots t (rw l.nodes w) in
    (r.0 m (omega (arith, l.nodes)), omega (arith, r.1 m (omega (arith, l.nodes)), l.nodes))
