-- `Rows::look` meets its contract: what the walk gathers, of this mode's rows.
use Rattle.majorana.proofs.WalkLaws.{level, tells}
use Rattle.majorana.proofs.rows.Rows.look.Goals as goal

pub beside-requires : goal.beside-requires
beside-requires c =
    let lo = c.row.ensures in
    let hi = c.row-2.ensures in
    rw (lo.x, hi.x, lo.z, hi.z) (level c.args.self.now.held c.args.i c.requires.0 c.args.s.now c.requires.1)

pub returns : goal.returns
returns c =
    let lo = c.row.ensures in
    let hi = c.row-2.ensures in
    tells c.args.self.now.held c.args.i c.requires.0 c.args.s.now (λ j. (c.type_inv.s j).fits) c.beside.result
    (rw (lo.x, hi.x, lo.z, hi.z) at c.beside.ensures)
