-- `flatpack_text::read::read` meets its contract: the state at the start is the one after the empty text.
use mathlib.Core.Path.{sym}
use mathlib.Core.List.{[]}
use Rattle.flatpack_text.proofs.Reading.{start_kept}
use Rattle.flatpack_text.proofs.read.read.Goals as goal

pub returns : goal.returns
returns c =
    let a = c.args in
    record {
      answer = c.finish.ensures.text_answer a.text.now (c.feed.ensures.text_state [] c.start.ensures);
      entries = c.feed.ensures.text_entries [] a.table.now c.start.ensures (sym (start_kept a.table.now));
    }
