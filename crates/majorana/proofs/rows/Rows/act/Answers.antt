-- `Rows::act` meets its contract: what the walk gathers, of this mode's rows, and the first row's X part added to the state.
use mathlib.Core.Path.{ap, ◌∙◌}
use Rattle.dense_block.specs.Words.{value}
use Rattle.dense_block.proofs.Values.{Words}
use Rattle.majorana.proofs.ModeLaws.{moved}
use Rattle.majorana.proofs.WalkLaws.{level, tells}
use Rattle.majorana.proofs.rows.Rows.act.Goals as goal

pub across-requires : goal.across-requires
across-requires c =
    let lo = c.row.ensures in
    let hi = c.row-2.ensures in
    rw (lo.x, hi.x, lo.z, hi.z) (level c.args.self.now.held c.args.i c.requires.0 c.args.s.now c.requires.1)

pub returns : goal.returns
returns c =
    let r = c.args.self.now in
    let s = c.args.s.now in
    let lo = c.row.ensures in
    let hi = c.row-2.ensures in
    let ss : Words s = λ j. (c.slice_known-1.given j).fits in
    let walked = rw (lo.x, hi.x, lo.z, hi.z) at c.across.ensures in (
      tells r.held c.args.i c.requires.0 s ss c.across.result walked.0,
      ap value walked.1 ∙ moved r.held c.args.i c.requires.0 s c.requires.1 ss,
    )
