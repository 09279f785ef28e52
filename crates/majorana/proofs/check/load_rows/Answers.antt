-- `check::load_rows` meets its contract: the rows below r are loaded, and what is behind all of them stays.
use Prim.Native.Nat.{ℕ, ◌+◌, ◌*◌}
use native.Mathlib.Omega.{arith}
use mathlib.Core.Path.{◌≡◌}
use mathlib.Core.List.{List, ◌++◌}
use lib.ListN.{length, length-append}
use Rattle.dense_block.specs.Words.{term_of}
use Rattle.dense_block.proofs.Terms.{length_term}
use Rattle.majorana.proofs.SetLaws.{x_row, z_row}
use Rattle.majorana.proofs.CheckLaws.{fill_next}
use Rattle.majorana.proofs.check.load_rows.Goals as goal

pub loop-r-preserved : goal.loop-r-preserved
loop-r-preserved c =
    let l = c.loop-r in
    let r = c.args.rows.now in
    let f : ℕ → List ℕ = λ k. term_of r.w r.set.x.now k ++ term_of r.w r.set.z.now k in
    let len : length (f l.r) ≡ r.w + r.w =
    omega (
      arith,
      length-append (term_of r.w r.set.x.now l.r) (term_of r.w r.set.z.now l.r),
      length_term r.w r.set.x.now l.r (x_row r.held.fits l.r c.loop-r-test.true),
      length_term r.w r.set.z.now l.r (z_row r.held.fits l.r c.loop-r-test.true),
    ) in
    rw c.load_row.ensures (fill_next l.r (2 * r.set.modes) (r.w + r.w) f c.args.room.now l.room c.loop-r-test.true c.requires len l.invariant)
