-- `report::pieces::put_word` meets its contract: after i turns the first i bytes are stored.
use mathlib.Core.Path.{refl, ap, ◌∙◌}
use lib.ListN.{length, length-set}
use lib.Seq.{take_all, sets}
use Rattle.report.proofs.Stores.{word_next, ending}
use Rattle.report.proofs.pieces.put_word.Goals as goal

pub loop-i-preserved : goal.loop-i-preserved
loop-i-preserved c =
    let l = c.loop-i in
    let a = c.args in
    (length-set l.out _ _ ∙ l.invariant.0, word_next a.out.now a.at l.i a.word.now c.loop-i-test.true l.invariant.1)

pub returns : goal.returns
returns c =
    let l = c.loop-i in
    let a = c.args in
    ending a.out.now a.at (length a.word.now) a.word.now a.end refl (l.invariant.1 ∙ ap (sets a.out.now a.at) (take_all l.i a.word.now c.loop-i-test.false))
