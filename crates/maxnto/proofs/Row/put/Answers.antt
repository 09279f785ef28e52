-- `maxnto::Row::put` meets its contract: the words written are those of the parts, and the phase counts the columns with both bits.
use native.Mathlib.Omega.{arith}
use Rattle.dense_block.specs.Words.{words_for}
use Rattle.dense_block.proofs.Blocks.{filled_step, filled_all}
use Rattle.maxnto.specs.Formula.{x_part, z_part}
use Rattle.maxnto.proofs.Phases.{phase_counted}
use Rattle.maxnto.proofs.Row.put.Goals as goal

pub loop-k-preserved : goal.loop-k-preserved
loop-k-preserved c =
    let l = c.loop-k in
    let row = c.args.self in (
      filled_step l.k (x_part row.modes row.number) l.x c.args.x.now (omega arith) l.invariant.0 c.words.ensures.x_word,
      filled_step l.k (z_part row.modes row.number) l.z c.args.z.now (omega arith) l.invariant.1 c.words.ensures.z_word,
    )

pub returns : goal.returns
returns c =
    let l = c.loop-k in
    let row = c.args.self in
    let n = words_for row.modes in
    let ex = filled_all l.k (x_part row.modes row.number) n l.x c.args.x.now l.invariant.0 (omega arith) (omega arith) in
    let ez = filled_all l.k (z_part row.modes row.number) n l.z c.args.z.now l.invariant.1 (omega arith) (omega arith) in
    record { phase = phase_counted row.modes row.number l.x l.z ex ez c.and_count_ones.ensures; x_part = ex; z_part = ez }
