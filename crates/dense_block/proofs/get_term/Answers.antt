-- `dense_block::get_term` meets its contract: a row starts inside the block exactly if as many rows fit.
use Rattle.dense_block.proofs.Terms.{start_outside, term_past, term_empty}
use Rattle.std.proofs.Common.{length}
use Rattle.dense_block.proofs.get_term.Goals as goal
use Rattle.dense_block.proofs.get_term.Goals.{then-width-eq0-via-then-width-eq0, then-width-eq0-via-else-width-eq0+then-x-width}

pub returns-then-width-eq0 : goal.returns-then-width-eq0
returns-then-width-eq0 c =
    let a = c.args in
    elim c.then-width-eq0.branch [
      | then-width-eq0-via-then-width-eq0 w ↦ term_empty a.width a.x.now a.term w.if-width-eq0.true
      | then-width-eq0-via-else-width-eq0+then-x-width w ↦
          term_past a.width a.x.now a.term (start_outside (length a.x.now) a.width a.term w.if-width-eq0.false w.if-x-width.true)
    ]
