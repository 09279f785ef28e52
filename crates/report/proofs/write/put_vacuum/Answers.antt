-- `report::write::put_vacuum` meets its contract: the word, and then the bits.
use native.Mathlib.Omega.{arith}
use Rattle.dense_block.specs.Words.{value}
use Rattle.report.specs.Report.{vacuum, bit_at, bits}
use Rattle.report.proofs.Stores.{length_columns}
use Rattle.report.proofs.LineLaws.{length_two, second_fits, two_stored}
use Rattle.report.proofs.write.put_vacuum.Goals as goal

pub put_bits-requires : goal.put_bits-requires
put_bits-requires c =
    let a = c.args in
    second_fits a.out.now a.at vacuum c.put_word-a.ensures.place c.put_word-a.ensures.bytes a.q
    (omega (arith, c.requires, length_two vacuum (bits a.q (value a.v.now)), length_columns (bit_at (value a.v.now)) a.q))

pub returns : goal.returns
returns c =
    let a = c.args in
    two_stored a.out.now a.at vacuum c.put_word-a.ensures.place c.put_word-a.ensures.bytes (bits a.q (value a.v.now)) c.put_bits.ensures.place c.put_bits.ensures.bytes
