-- `report::write::put_bits` meets its contract: after j turns the bits of the first j columns are stored.
use Prim.Native.Nat.{ℕ}
use native.Mathlib.Omega.{arith}
use mathlib.Core.Path.{◌≡◌, sym, ap, ◌∙◌}
use mathlib.Core.Bool.{Bool, cond}
use lib.ListN.{length-set}
use lib.Seq.{sets}
use Rattle.dense_block.specs.Words.{value, column}
use Rattle.report.specs.Report.{bit_at, columns}
use Rattle.report.proofs.Stores.{length_columns, columns_next, ending}
use Rattle.report.proofs.write.put_bits.Goals as goal

pub loop-j-preserved : goal.loop-j-preserved
unfolding column
loop-j-preserved c =
    let l = c.loop-j in
    let a = c.args in (
      length-set l.out _ _ ∙ l.invariant.0,
      columns_next a.out.now a.at l.j (bit_at (value a.v.now)) l.invariant.1
          (c.bit_byte.ensures ∙ ap (λ (b : Bool). cond b 49 48) c.get_index.ensures),
    )

pub returns : goal.returns
returns c =
    let l = c.loop-j in
    let a = c.args in
    let f = bit_at (value a.v.now) in
    let e : l.j ≡ a.q = omega arith in
    ending a.out.now a.at a.q (columns f a.q) 10 (sym (length_columns f a.q)) (l.invariant.1 ∙ ap (λ (k : ℕ). sets a.out.now a.at (columns f k)) e)
