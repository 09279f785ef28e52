-- `coding::encode` meets its contract: what occupying comes to, in local words.
use Prim.Native.Nat.{ℕ}
use mathlib.Core.Path.{◌≡◌, ap, ◌∙◌}
use mathlib.Core.List.{List, ◌++◌}
use lib.ListN.{length, drop}
use lib.Seq.{length-take-le}
use Rattle.algebra.specs.Coding as algebra
use Rattle.dense_block.specs.Words.{value}
use Rattle.majorana.specs.HeldRows.{modes_of}
use Rattle.majorana.proofs.CodeAnswers.{words_front, ran_done}
use Rattle.majorana.proofs.coding.encode.Goals as goal

pub returns : goal.returns
returns c =
    let a = c.args in
    let r = a.rows.now in
    let ws = c.occupy_all.new.s in
    let coded = algebra.encode (modes_of r) (value a.vacuum.now) (value a.list.now) in
    let copied = c.copy_from_slice.ensures.after in
    let long : length ws ≡ r.w = c.occupy_all.auto.s ∙ length-take-le _ _ r.held.fits.words in
    let words = words_front c.copy_from_slice.new.self _ r.w (ap length copied ∙ long) (λ k. (c.type_inv.out k).fits) in
    let done = ran_done c.occupy_all.result ws r.w coded a.out.now c.occupy_all.ensures c.in-Some.f c.in-Some.is long (rw copied at words) in
    (done.0, ap (λ (l : List ℕ). l ++ drop r.w a.out.now) copied ∙ done.1)
