-- `coding::read_off` meets its contract: what is left to decode, after the digits read so far, is the whole decoding.
use Prim.Native.Nat.{◌+◌, ◌-◌, ◌*◌, ◌^◌}
use native.Mathlib.Nat.{zero-mul, mul-one}
use native.Mathlib.Omega.{arith}
use mathlib.Core.Path.{◌≡◌, refl, sym, ap, ◌∙◌}
use mathlib.Core.Bool.{true, false}
use lib.Dec.{eqb}
use Rattle.algebra.specs.Rows.{state}
use Rattle.algebra.specs.Modes.{lo, paired}
use Rattle.algebra.specs.Coding.{seen, decode}
use Rattle.dense_block.specs.Words.{value}
use Rattle.dense_block.proofs.Alikes.{alike_value}
use Rattle.dense_block.proofs.Columns.{value_put}
use Rattle.majorana.specs.HeldRows.{modes_of}
use Rattle.majorana.specs.Walks.{paired_by, seen_by}
use Rattle.majorana.proofs.ModeLaws.{moved}
use Rattle.majorana.proofs.WalkLaws.{paired_told, seen_told}
use Rattle.majorana.proofs.CodeSteps.{picked, back_end, back_unpaired, back_seen, back_unseen, digit_none, digit_one}
use Rattle.majorana.proofs.coding.read_off.Goals as goal

pub loop-i-init : goal.loop-i-init
unfolding decode
loop-i-init c = (
  λ k. (c.type_inv.s k).fits,
  λ k. (c.type_inv.l k).fits,
  (0, c.requires.3 ∙ sym (zero-mul (2 ^ c.args.rows.now.set.modes)), refl),
)

pub returns-then-not-is_paired : goal.returns-then-not-is_paired
returns-then-not-is_paired c =
    let a = c.args in
    let m = modes_of a.rows.now in
    let l = c.loop-i in
    let pair : paired m (l.i - 1) ≡ c.is_paired.result =
    sym (c.is_paired.ensures ∙ ap (paired_by c.look-t.result) c.difference-d.ensures ∙ paired_told c.look-t.ensures) in
    let none : c.is_paired.result ≡ false = c.if-not-is_paired.true in
    sym (back_unpaired m (value a.vacuum.now) l.i l.invariant.2.0 (value l.s) (omega arith) (pair ∙ none)) ∙ l.invariant.2.2

pub loop-i-preserved-then-is_seen : goal.loop-i-preserved-then-is_seen
loop-i-preserved-then-is_seen c =
    let a = c.args in
    let r = a.rows.now in
    let m = modes_of r in
    let l = c.loop-i in
    let pair : paired m (l.i - 1) ≡ c.is_paired.result =
    sym (c.is_paired.ensures ∙ ap (paired_by c.look-t.result) c.difference-d.ensures ∙ paired_told c.look-t.ensures) in
    let sees : eqb (seen m (l.i - 1) (value l.s)) 1 ≡ c.is_seen.result =
    sym (c.is_seen.ensures ∙ ap (seen_by c.look-t.result) c.difference-d.ensures ∙ seen_told c.look-t.ensures) in
    let paired : c.is_paired.result ≡ true = c.if-not-is_paired.false in
    let digits : value c.set_index.new.s ≡ (2 * l.invariant.2.0 + 1) * 2 ^ (l.i - 1) =
    ap value c.set_index.ensures ∙ value_put l.l (l.i - 1) true (omega arith) l.invariant.1 ∙ digit_one (value l.l) l.invariant.2.0 l.i (omega arith) l.invariant.2.1 in
    let bits : value c.xor_assign.new.dst ≡ state (lo m (l.i - 1)) (value l.s) =
    ap value (rw c.row.ensures.x at c.xor_assign.ensures) ∙ moved r.held (l.i - 1) (omega arith) l.s (omega arith) l.invariant.0 in (
      λ j. (c.type_inv.s j).fits,
      λ j. (c.type_inv.l j).fits,
      (
        2 * l.invariant.2.0 + 1,
        digits,
        rw bits (sym (back_seen m (value a.vacuum.now) l.i l.invariant.2.0 (value l.s) (omega arith) (pair ∙ paired) (sees ∙ c.if-is_seen.true))
            ∙ l.invariant.2.2),
      ),
    )

pub loop-i-preserved : goal.loop-i-preserved
loop-i-preserved c =
    let a = c.args in
    let m = modes_of a.rows.now in
    let l = c.loop-i in
    let pair : paired m (l.i - 1) ≡ c.is_paired.result =
    sym (c.is_paired.ensures ∙ ap (paired_by c.look-t.result) c.difference-d.ensures ∙ paired_told c.look-t.ensures) in
    let sees : eqb (seen m (l.i - 1) (value l.s)) 1 ≡ c.is_seen.result =
    sym (c.is_seen.ensures ∙ ap (seen_by c.look-t.result) c.difference-d.ensures ∙ seen_told c.look-t.ensures) in
    let paired : c.is_paired.result ≡ true = c.if-not-is_paired.false in (
      l.invariant.0,
      l.invariant.1,
      (
        2 * l.invariant.2.0,
        digit_none (value l.l) l.invariant.2.0 l.i (omega arith) l.invariant.2.1,
        sym (back_unseen m (value a.vacuum.now) l.i l.invariant.2.0 (value l.s) (omega arith) (pair ∙ paired) (sees ∙ c.if-is_seen.false)) ∙ l.invariant.2.2,
      ),
    )

pub returns : goal.returns
returns c =
    let a = c.args in
    let m = modes_of a.rows.now in
    let l = c.loop-i in
    let v = value a.vacuum.now in
    let none : l.i ≡ 0 = omega arith in
    let digits : value l.l ≡ l.invariant.2.0 = rw none at l.invariant.2.1 ∙ mul-one l.invariant.2.0 in
    let same = c.same.ensures ∙ alike_value l.s a.vacuum.now (omega arith) l.invariant.0 (λ k. (c.type_inv.vacuum k).fits) in
    rw (same, digits) (picked (eqb (value l.s) v) l.invariant.2.0 ∙ sym (back_end m v l.i l.invariant.2.0 (value l.s) (omega arith))) ∙ l.invariant.2.2
