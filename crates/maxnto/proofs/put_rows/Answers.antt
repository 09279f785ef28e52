-- `maxnto::put_rows` meets its contract: the rows below `number` are written.
use Prim.Native.Nat.{ℕ, ◌+◌, ◌-◌, ◌*◌, ◌≤◌}
use native.Mathlib.Omega.{arith}
use mathlib.Core.Path.{◌≡◌, sym, ap, ◌∙◌}
use lib.ListN.{length}
use Rattle.dense_block.specs.Words.{words_of}
use Rattle.dense_block.proofs.Blocks.{laid_step, listed_step}
use Rattle.dense_block.proofs.Terms.{row_within}
use Rattle.maxnto.specs.Formula.{x_part, z_part, phase_of}
use Rattle.maxnto.proofs.put_rows.Goals as goal
use Rattle.maxnto.proofs.put_rows.Goals.{In-loop-number}

x_row : (c : In-loop-number) → c.loop-number.number * c.args.w + c.args.w ≤ length c.loop-number.x
x_row c = row_within c.loop-number.number (2 * c.args.modes) c.args.w (length c.loop-number.x) (omega arith) (omega arith)

z_row : (c : In-loop-number) → c.loop-number.number * c.args.w + c.args.w ≤ length c.loop-number.z
z_row c = row_within c.loop-number.number (2 * c.args.modes) c.args.w (length c.loop-number.z) (omega arith) (omega arith)

pub slice_bounds-put-end : goal.slice_bounds-put-end
slice_bounds-put-end c = omega (arith, x_row (goal.at.slice_bounds-put-end c).In-loop-number)

pub slice_bounds-put-end-in-loop-number : goal.slice_bounds-put-end-in-loop-number
slice_bounds-put-end-in-loop-number c = omega (arith, z_row (goal.at.slice_bounds-put-end-in-loop-number c).In-loop-number)

pub loop-number-preserved : goal.loop-number-preserved
loop-number-preserved c =
    let l = c.loop-number in
    let a = c.args in
    let y = c.put.ensures in
    let k : l.number * a.w + a.w - l.number * a.w ≡ a.w = omega arith in (
      laid_step a.w (x_part a.modes) l.number _ l.x a.x.now _ l.invariant.0
          (y.x_part ∙ ap (λ (n : ℕ). words_of n (x_part a.modes l.number)) (sym c.requires.few.1)) k,
      laid_step a.w (z_part a.modes) l.number _ l.z a.z.now _ l.invariant.1
          (y.z_part ∙ ap (λ (n : ℕ). words_of n (z_part a.modes l.number)) (sym c.requires.few.1)) k,
      listed_step (phase_of a.modes) l.number l.phases a.phases.now (omega arith) l.invariant.2 y.phase,
    )
