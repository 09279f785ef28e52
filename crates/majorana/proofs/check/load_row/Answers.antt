-- `check::load_row` meets its contract: the part of the room that row r takes, joined from its two parts.
use Prim.Native.Nat.{ℕ, ◌+◌, ◌-◌, ◌*◌, ◌≤◌}
use native.Mathlib.Omega.{arith}
use mathlib.Core.Path.{◌≡◌, ap, ◌∙◌}
use lib.ListN.{length, take, drop}
use Rattle.dense_block.proofs.Terms.{row_within, length_term}
use Rattle.majorana.proofs.SetLaws.{x_row, z_row}
use Rattle.majorana.proofs.check.load_row.Goals as goal

pub join-requires : goal.join-requires
join-requires c =
    let r = c.args.rows.now in
    let k = c.args.r in
    let room = c.args.room.now in
    let width = r.w + r.w in
    let inside : k * (r.w + r.w) + (r.w + r.w) ≤ length room = row_within k (2 * r.set.modes) (r.w + r.w) (length room) c.requires.0 c.requires.1 in
    let n : k * (r.w + r.w) + (r.w + r.w) - k * (r.w + r.w) ≡ r.w + r.w = omega arith in (
      ap length c.row.ensures.x ∙ length_term r.w r.set.x.now k (x_row r.held.fits k c.requires.0),
      ap length c.row.ensures.z ∙ length_term r.w r.set.z.now k (z_row r.held.fits k c.requires.0),
      ap (λ (j : ℕ). length (take j (drop (k * (r.w + r.w)) room))) n ∙ length_term (r.w + r.w) room k inside,
    )
