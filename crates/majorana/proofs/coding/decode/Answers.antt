-- `coding::decode` meets its contract: the modes read off in local words, which start at zero, and the list copied out if the vacuum is left.
use Prim.Native.Nat.{ℕ, ◌≤◌}
use native.Mathlib.Omega.{arith}
use mathlib.Core.Path.{◌≡◌, ap, ◌∙◌}
use mathlib.Core.List.{List, [], ◌∷◌, ◌++◌}
use lib.ListN.{length, drop}
use lib.Seq.{length-take-le}
use Rattle.algebra.specs.Coding as algebra
use Rattle.dense_block.specs.Words.{value}
use Rattle.dense_block.proofs.Values.{words_hold}
use Rattle.majorana.specs.HeldRows.{modes_of}
use Rattle.majorana.specs.Runs.{read_off, ran_list}
use Rattle.majorana.proofs.SetLaws.{few_words, zeros}
use Rattle.majorana.proofs.CodeAnswers.{words_front, read_done}
use Rattle.majorana.proofs.coding.decode.Goals as goal

pub read_off-requires : goal.read_off-requires
read_off-requires c =
    let r = c.args.rows.now in
    let lw = c.words_for-lw.result in
    let few : lw ≤ 4 = omega (arith, c.words_for-lw.ensures, few_words r.set.modes r.held.fits.modes) in (
      c.requires.0,
      ap length c.copy_from_slice.ensures.after ∙ c.requires.1,
      omega (arith, c.words_for-lw.ensures, words_hold r.set.modes, length-take-le {A = ℕ} lw (0 ∷ 0 ∷ 0 ∷ 0 ∷ []) few),
      zeros lw,
    )

pub returns : goal.returns
returns c =
    let a = c.args in
    let r = a.rows.now in
    let lw = c.words_for-lw.result in
    let few : lw ≤ 4 = omega (arith, c.words_for-lw.ensures, few_words r.set.modes r.held.fits.modes) in
    let ls = c.read_off.new.l in
    let decode = λ (s : List ℕ). algebra.decode (modes_of r) (value a.vacuum.now) (value s) in
    let off : read_off c.read_off.result (value ls) ≡ decode a.string.now = c.read_off.ensures ∙ ap decode c.copy_from_slice.ensures.after in
    let copied = c.copy_from_slice-2.ensures.after in
    let long : length ls ≡ lw = c.read_off.auto.l ∙ length-take-le _ _ few in
    let words = words_front c.copy_from_slice-2.new.self _ lw (ap length copied ∙ long) (λ k. (c.type_inv.out k).fits) in
    let done = read_done c.read_off.result ls lw (decode a.string.now) a.out.now off c.if-not-read_off.false long (rw copied at words) in (
      done.0,
      ap (λ (l : List ℕ). l ++ drop lw a.out.now) copied ∙ done.1 ∙ ap (λ (n : ℕ). ran_list (decode a.string.now) n a.out.now) c.words_for-lw.ensures,
    )
