-- `check::rows_dependent` meets its contract: the rows loaded, eliminated, and cleared.
use Prim.Native.Nat.{◌+◌, ◌*◌}
use native.Mathlib.Omega.{arith}
use mathlib.Core.Path.{ap, ◌∙◌}
use lib.ListN.{length, drop}
use Rattle.dense_block.proofs.Clears.{length_zeroed, drop_zeroed}
use Rattle.elimination.proofs.Answers.{fits_of}
use Rattle.elimination.proofs.Vacuums.{dependent_call}
use Rattle.majorana.specs.HeldRows.{modes_of}
use Rattle.majorana.proofs.SetLaws.{x_row}
use Rattle.majorana.proofs.CheckLaws.{loaded_rows}
use Rattle.majorana.proofs.check.rows_dependent.Goals as goal

pub returns : goal.returns
returns c =
    let r = c.args.rows.now in
    let n = r.set.modes in
    let loaded = c.load_rows.ensures in
    let ws = c.load_rows.new.room in
    let d = c.dependent_rows in
    let size = 2 * n * (r.w + r.w) in
    let done = dependent_call (modes_of r) (r.w + r.w) r.w ws d.new.room d.result d.ensures
    (fits_of 512 8 (2 * n) (r.w + r.w) (length ws)
    (record { few = omega (arith, r.held.fits.modes); narrow = omega (arith, r.held.fits.words); inside = omega (arith, c.requires, loaded.same.long) }))
    (λ k h. loaded_rows (2 * n) r.w r.set.x.now r.set.z.now c.args.room.now ws k (x_row r.held.fits k h) r.held.x_words h loaded) in (
      done.0,
      record {
        long = ap length done.1 ∙ length_zeroed size ws ∙ loaded.same.long;
        behind = ap (drop size) done.1 ∙ drop_zeroed size ws ∙ loaded.same.behind;
      },
    )
