-- `walk::across` meets its contract: as `beside`, where what is left of the state is as it was, and the words passed have the row added.
use Prim.Native.Nat.{◌+◌, ◌≤◌, ◌<◌}
use native.Mathlib.Omega.{arith}
use mathlib.Core.Path.{sym, ◌∙◌}
use lib.Bits.{bit_xor}
use lib.ListN.{length}
use Rattle.dense_block.proofs.Alongs.{along_step, along_end}
use Rattle.dense_block.proofs.Folds.{fold_next, fold_past}
use Rattle.majorana.proofs.WalkLaws.{walk_next, walk_past, still, still_past, still_next}
use Rattle.majorana.proofs.walk.across.Goals as goal
use Rattle.majorana.proofs.walk.across.Goals.{then-at-n, else-at-n}

pub loop-at-preserved : goal.loop-at-preserved
loop-at-preserved c =
    let l = c.loop-at in
    let s = c.args.s.now in
    let x0 = c.args.lo.x.now in
    let z1 = c.args.hi.z.now in
    elim c.if-at-n.branch [
      | then-at-n w ↦
          let h : l.at < length s = omega (arith, w.if-at-n.true, c.requires.x_lo) in
          let t = still l.at l.s s l.invariant.0 in
          rw (w.s-is, w.apart-is, w.first-is, w.second-is) (
            still_next l.at _ l.s s l.invariant.0,
            along_step bit_xor l.s x0 l.at (omega (arith, l.auto.s, h)) w.if-at-n.true ∙ l.invariant.1,
            rw t (walk_next c.requires l.at l.apart l.first l.invariant.2 h),
            rw t (fold_next z1 s l.at l.second _ (omega (arith, h, c.requires.z_hi)) h l.invariant.3),
          )
      | else-at-n w ↦
          let end : length x0 ≤ l.at = w.if-at-n.false in
          rw (w.s-is, w.apart-is, w.first-is, w.second-is) (
            still_past l.at l.s s l.invariant.0,
            along_end bit_xor l.s x0 (l.at + 1) (omega (arith, end)) ∙ sym (along_end bit_xor l.s x0 l.at (omega (arith, end))) ∙ l.invariant.1,
            walk_past c.requires l.at l.apart l.first l.invariant.2 (omega (arith, end, c.requires.x_lo)),
            fold_past z1 s l.at l.second _ (omega (arith, end, c.requires.x_lo)) l.invariant.3,
          )
    ]
