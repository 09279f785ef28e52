-- `walk::beside` meets its contract: what was gathered and the rest make the whole, and past the end nothing is left.
use native.Mathlib.Omega.{arith}
use Rattle.dense_block.proofs.Folds.{both_next, both_past}
use Rattle.majorana.proofs.WalkLaws.{walk_next, walk_past}
use Rattle.majorana.proofs.walk.beside.Goals as goal
use Rattle.majorana.proofs.walk.beside.Goals.{then-at-s, else-at-s}

pub loop-at-preserved : goal.loop-at-preserved
loop-at-preserved c =
    let l = c.loop-at in
    let s = c.args.s.now in
    let z0 = c.args.lo.z.now in
    let z1 = c.args.hi.z.now in
    elim c.if-at-s.branch [
      | then-at-s w ↦
          let h = w.if-at-s.true in
          rw (w.apart-is, w.first-is, w.both-is) (
            walk_next c.requires l.at l.apart l.first l.invariant.0 h,
            both_next z0 s z1 s l.at l.both _ (omega (arith, c.requires.z_lo)) h (omega (arith, c.requires.z_hi)) h l.invariant.1,
          )
      | else-at-s w ↦
          rw (w.apart-is, w.first-is, w.both-is) (
            walk_past c.requires l.at l.apart l.first l.invariant.0 w.if-at-s.false,
            both_past z0 s z1 s l.at l.both _ (omega (arith, c.requires.z_lo)) (omega (arith, c.requires.z_hi)) l.invariant.1,
          )
    ]
