-- `add_row` meets its contract: what is written, and the row from letter l of node i up, make the row of slot k.
use Rattle.std.proofs.Common.{◌+◌, ◌-◌, ◌/◌, ◌%◌, refl, sym, ◌∙◌, arith}
use Rattle.dense_block.specs.Words.{value}
use Rattle.trees.specs.Trees.{Tree}
use Rattle.trees.specs.Paths.{above}
use Rattle.ternarytree.specs.Tables.{nth, Links, Columns}
use Rattle.ternarytree.proofs.RowSteps.{Left, row_left_more, row_left_none, letter_small, left_start, left_letter, left_none, left_step, above_stop, above_left}
use Rattle.ternarytree.proofs.writing.add_row.Goals as goal
use Rattle.ternarytree.proofs.writing.add_row.Goals.{After-put_letter}

-- a letter more is written
letter_written : (c : After-put_letter) (t : Tree) → Links t c.args.routes.now.n c.args.routes.now.ways → Columns t c.args.routes.now.n c.args.columns.now
    → Left t c.args.k (value c.args.x.now) (value c.args.z.now) ((c.loop.p + c.put_letter.result) % 4) c.put_letter.new.x c.put_letter.new.z
    (above t (c.args.routes.now.n - c.loop.counter) c.loop.i)
letter_written c t u v =
    let l = c.loop in
    let a = c.args in
    let y = c.put_letter.ensures in
    let n = a.routes.now.n in
    let before = left_step t a.k (value a.x.now) (value a.z.now) l.p l.x l.z _ _ (row_left_more t (n + 1 - l.counter) (n - l.counter) l.i l.l (omega arith)) (l.invariant.left t u v) in
    left_letter t a.k (value a.x.now) (value a.z.now) l.i l.l (n - l.counter) l.p c.put_letter.result (nth a.columns.now l.i) l.x l.z _ _ before
    (v.qubits l.i l.invariant.node) y.0 (rw l.auto.x (c.requires.1 l.i l.invariant.node)) (rw l.auto.z (c.requires.2 l.i l.invariant.node)) l.invariant.x_words l.invariant.z_words y.1 y.2

pub loop-init : goal.loop-init
loop-init c = record {
  node = omega (arith, c.requires.0);
  letter = omega arith;
  phase = omega arith;
  x_words = λ i. (c.type_inv.x i).fits;
  z_words = λ i. (c.type_inv.z i).fits;
  left = λ t u v.
      let n = c.args.routes.now.n in
      left_step t c.args.k (value c.args.x.now) (value c.args.z.now) 0 c.args.x.now c.args.z.now _ _
      (sym (row_left_more t (n + 1 - 0) n (c.args.k / 3) (c.args.k % 3) (omega arith)))
      (left_start t c.args.k (value c.args.x.now) (value c.args.z.now) n c.args.x.now c.args.z.now u.size refl refl);
}

pub put_letter-requires : goal.put_letter-requires
put_letter-requires c = let l = c.loop in (l.invariant.letter, rw l.auto.x (c.requires.1 l.i l.invariant.node), rw l.auto.z (c.requires.2 l.i l.invariant.node))

pub overflow_add-p : goal.overflow_add-p
overflow_add-p c =
    record { fits = omega (arith, c.put_letter.ensures.0, letter_small c.loop.l, c.loop.invariant.phase) }

pub returns-in_default : goal.returns-in_default
returns-in_default c =
    let l = c.loop in
    let a = c.args in
    let written = letter_written (goal.at.returns-in_default c).After-put_letter in
    λ t q v. left_none t a.k (value a.x.now) (value a.z.now) _ a.x.now a.z.now _ _ _ refl refl
    (above_stop t (a.routes.now.n - l.counter) l.i (sym (q.ups l.i l.invariant.node) ∙ c.in_default.is)) (omega arith) (written t q v)

pub loop-preserved : goal.loop-preserved
loop-preserved c =
    let l = c.loop in
    let a = c.args in
    let n = a.routes.now.n in
    let written = letter_written (goal.at.loop-preserved c).After-put_letter in
    let w = a.routes.now.within l.i c.in-Some.way l.invariant.node c.in-Some.is in
    record {
      node = w.0;
      letter = w.1;
      phase = omega arith;
      x_words = λ i. (c.type_inv.x i).fits;
      z_words = λ i. (c.type_inv.z i).fits;
      left = λ t q v.
          left_step t a.k (value a.x.now) (value a.z.now) _ _ _ (above t (n - l.counter) l.i) _
          (above_left t (n - l.counter) (n + 1 - (l.counter + 1)) l.i c.in-Some.way (omega arith) (sym (q.ups l.i l.invariant.node) ∙ c.in-Some.is)) (written t q v);
    }

pub returns : goal.returns
returns c =
    let l = c.loop in
    let a = c.args in
    λ t q v. left_none t a.k (value a.x.now) (value a.z.now) _ a.x.now a.z.now _ _ _ refl refl
    (row_left_none t (a.routes.now.n + 1 - l.counter) l.i l.l (omega arith)) l.invariant.phase (l.invariant.left t q v)
