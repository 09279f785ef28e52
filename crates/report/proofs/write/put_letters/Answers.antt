-- `report::write::put_letters` meets its contract: after j turns the letters of the first j columns are stored.
use Prim.Native.Nat.{ℕ}
use native.Mathlib.Omega.{arith}
use mathlib.Core.Path.{◌≡◌, sym, ap, ap₂, ◌∙◌}
use lib.ListN.{length-set}
use lib.Seq.{sets}
use Rattle.dense_block.specs.Words.{column}
use Rattle.report.specs.Report.{letter, letter_at, columns, row_of}
use Rattle.report.proofs.Stores.{length_columns, columns_next, ending}
use Rattle.report.proofs.write.put_letters.Goals as goal

pub loop-j-preserved : goal.loop-j-preserved
unfolding column
loop-j-preserved c =
    let l = c.loop-j in
    let a = c.args in (
      length-set l.out _ _ ∙ l.invariant.0,
      columns_next a.out.now a.at l.j (letter_at (row_of 0 a.x.now a.z.now)) l.invariant.1
          (c.letter_byte.ensures ∙ ap₂ letter c.get_index.ensures c.get_index-in-loop-j.ensures),
    )

pub returns : goal.returns
returns c =
    let l = c.loop-j in
    let a = c.args in
    let f = letter_at (row_of 0 a.x.now a.z.now) in
    let e : l.j ≡ a.q = omega arith in
    ending a.out.now a.at a.q (columns f a.q) 10 (sym (length_columns f a.q)) (l.invariant.1 ∙ ap (λ (k : ℕ). sets a.out.now a.at (columns f k)) e)
