-- `put_rows` meets its contract: the rows before m are written.
use Rattle.std.proofs.Common.{◌≡◌, ◌+◌, ◌-◌, ◌*◌, ◌≤◌, length, sym, ◌∙◌, arith}
use Rattle.dense_block.proofs.Terms.{row_within}
use Rattle.ternarytree.proofs.Codes.{some_same}
use Rattle.ternarytree.proofs.AllRows.{length_part, rows_start, rows_step}
use Rattle.ternarytree.proofs.writing.put_rows.Goals as goal
use Rattle.ternarytree.proofs.writing.put_rows.Goals.{In-loop-m}

x_row : (c : In-loop-m) → c.loop-m.m * c.args.w + c.args.w ≤ length c.loop-m.x
x_row c = row_within c.loop-m.m (2 * c.args.tables.now.n) c.args.w (length c.loop-m.x) (omega arith) (omega (arith, c.loop-m.auto.x, c.requires.3))

z_row : (c : In-loop-m) → c.loop-m.m * c.args.w + c.args.w ≤ length c.loop-m.z
z_row c = row_within c.loop-m.m (2 * c.args.tables.now.n) c.args.w (length c.loop-m.z) (omega arith) (omega (arith, c.loop-m.auto.z, c.requires.4))

pub loop-m-init : goal.loop-m-init
loop-m-init c = let a = c.args in λ t slot p q r. rows_start t slot a.w a.x.now a.z.now a.phases.now

pub put_row-requires : goal.put_row-requires
put_row-requires c =
    let l = c.loop-m in
    let n = c.of-routes.ensures.0 in
    let low = c.requires.2 l.m c.in-Some.k (omega arith) c.in-Some.is in
    let k : l.m * c.args.w + c.args.w - l.m * c.args.w ≡ c.args.w = omega arith in (
      omega (arith, low, n),
      λ j h. rw (length_part (l.m * c.args.w) c.args.w _ l.x (x_row (goal.at.put_row-requires c).In-loop-m) k) (c.requires.1 j (omega (arith, h, n))),
      λ j h. rw (length_part (l.m * c.args.w) c.args.w _ l.z (z_row (goal.at.put_row-requires c).In-loop-m) k) (c.requires.1 j (omega (arith, h, n))),
    )

pub loop-m-preserved : goal.loop-m-preserved
loop-m-preserved c =
    let a = c.args in
    let l = c.loop-m in
    let n = c.of-routes.ensures in
    let k : l.m * a.w + a.w - l.m * a.w ≡ a.w = omega arith in
    λ t slot p q r.
    let at = r l.m (omega arith) in
    rows_step t slot l.m a.w _ _ _ a.x.now a.z.now a.phases.now l.x l.z l.phases _ _ (l.invariant t slot p q r) (some_same (sym c.in-Some.is ∙ at.0)) k
    (x_row (goal.at.loop-m-preserved c).In-loop-m) (z_row (goal.at.loop-m-preserved c).In-loop-m)
    (omega (arith, c.requires.5)) (c.put_row.ensures t (n.1 t p) (rw n.0 q))

pub returns : goal.returns
returns c =
    let l = c.loop-m in
    let e : l.m ≡ 2 * c.args.tables.now.n = omega arith in
    λ t slot p q r. rw e at (l.invariant t slot p q r)
