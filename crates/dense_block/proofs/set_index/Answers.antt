-- `dense_block::set_index` meets its contract: `| m` sets the digit, `& !m` clears it.
use Rattle.std.proofs.Common.{sym, ap, ◌∙◌, arith}
use Rattle.dense_block.specs.Words.{put}
use Rattle.dense_block.proofs.Columns.{put_word_on, put_word_off, put_past}
use Rattle.dense_block.proofs.set_index.Goals as goal

pub returns-then-on : goal.returns-then-on
returns-then-on c =
    let a = c.args in
    put_word_on a.s.now a.j ∙ ap (put a.s.now a.j) (sym c.if-on.true)

pub returns-else-on : goal.returns-else-on
returns-else-on c =
    let a = c.args in
    put_word_off a.s.now a.j (omega arith) ∙ ap (put a.s.now a.j) (sym c.if-on.false)

pub returns-else-w-s : goal.returns-else-w-s
returns-else-w-s c =
    let a = c.args in
    put_past a.s.now a.j a.on c.if-w-s.false
