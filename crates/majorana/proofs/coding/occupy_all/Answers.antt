-- `coding::occupy_all` meets its contract: the state starts at the vacuum, and what is left to encode, from the state and phase so far, is the whole encoding.
use Prim.Native.Nat.{ℕ, ◌+◌, ◌-◌, ◌*◌, ◌%◌}
use native.Mathlib.Omega.{arith}
use mathlib.Core.Path.{◌≡◌, sym, ap, ap₂, ◌∙◌}
use mathlib.Core.List.{List}
use mathlib.Core.Bool.{Bool, false}
use lib.Count.{ones}
use lib.Dec.{eqb}
use Rattle.algebra.specs.Rows.{bit}
use Rattle.algebra.specs.Modes.{lo, empty}
use Rattle.algebra.specs.Coding.{done, encode_from, encode}
use Rattle.dense_block.specs.Words.{value, column, digit}
use Rattle.majorana.specs.HeldRows.{modes_of}
use Rattle.majorana.specs.Walks.{empty_by}
use Rattle.majorana.proofs.WalkLaws.{empty_told}
use Rattle.majorana.proofs.CodeSteps.{step_none, step_skip, step_take, step_refuse, phase_none, phase_next, counted}
use Rattle.majorana.proofs.coding.occupy_all.Goals as goal

-- the column of the list that is read is the mode's
read_at : (ls : List ℕ) (j k : ℕ) (b : Bool) → j ≡ k → b ≡ column ls j → eqb (bit (value ls) k) 1 ≡ b
unfolding column
read_at ls j k b e h = sym (h ∙ ap (λ (i : ℕ). eqb (bit (value ls) i) 1) e)

pub loop-k-init : goal.loop-k-init
unfolding encode
loop-k-init c =
    let a = c.args in
    let m = modes_of a.rows.now in (
      λ j. (c.type_inv.s j).fits,
      ap₂ (λ (l : List ℕ) (f : ℕ). encode_from m (value a.list.now) m.n (done (value l) f)) c.copy_from_slice.ensures.after phase_none,
    )

pub returns-then-not-is_empty : goal.returns-then-not-is_empty
unfolding column
returns-then-not-is_empty c =
    let a = c.args in
    let m = modes_of a.rows.now in
    let l = c.loop-k in
    let taken : eqb (bit (value a.list.now) (l.k - 1)) 1 ≡ c.get_index.result = read_at _ _ _ _ (omega arith) c.get_index.ensures in
    let vacant : empty m (l.k - 1) (value l.s) ≡ c.is_empty.result =
    sym (c.is_empty.ensures ∙ ap (empty_by c.act-t.result) c.difference.ensures ∙ empty_told c.act-t.ensures.0) in
    let none : c.is_empty.result ≡ false = c.if-not-is_empty.true in
    sym (step_refuse m (value a.list.now) l.k (value l.s) _ (omega arith) (taken ∙ c.if-get_index.true) (vacant ∙ none)) ∙ l.invariant.1

pub loop-k-preserved-then-get_index : goal.loop-k-preserved-then-get_index
unfolding column
loop-k-preserved-then-get_index c =
    let args = c.args in
    let m = modes_of args.rows.now in
    let l = c.loop-k in
    let a = c.act-t in
    let taken : eqb (bit (value args.list.now) (l.k - 1)) 1 ≡ c.get_index.result = read_at _ _ _ _ (omega arith) c.get_index.ensures in
    let vacant : empty m (l.k - 1) (value l.s) ≡ c.is_empty.result =
    sym (c.is_empty.ensures ∙ ap (empty_by a.result) c.difference.ensures ∙ empty_told a.ensures.0) in
    let turned = phase_next (lo m (l.k - 1)) (value l.s) l.f.power c.add-f.result.power l.fold a.result.first (rw c.row.ensures.phase at c.add-f.ensures) a.ensures.0.first in (
      λ j. (c.type_inv.s j).fits,
      rw (a.ensures.1, turned)
          (sym (step_take m (value args.list.now) l.k (value l.s) _ (omega arith) (taken ∙ c.if-get_index.true) (vacant ∙ c.if-not-is_empty.false)) ∙ l.invariant.1),
    )

pub loop-k-preserved : goal.loop-k-preserved
unfolding column
loop-k-preserved c =
    let a = c.args in
    let m = modes_of a.rows.now in
    let l = c.loop-k in
    let taken : eqb (bit (value a.list.now) (l.k - 1)) 1 ≡ c.get_index.result = read_at _ _ _ _ (omega arith) c.get_index.ensures in (
      l.invariant.0,
      sym (step_skip m (value a.list.now) l.k (done (value l.s) ((l.f.power + 2 * ones l.fold) % 4)) (omega arith) (taken ∙ c.if-get_index.false))
          ∙ l.invariant.1,
    )

pub returns : goal.returns
returns c =
    let a = c.args in
    let m = modes_of a.rows.now in
    let l = c.loop-k in
    let power = c.double_parity.ensures ∙ ap (λ (o : Bool). (l.f.power + 2 * digit o) % 4) c.parity.ensures ∙ counted l.f.power (ones l.fold) in
    ap (done (value l.s)) power ∙ sym (step_none m (value a.list.now) l.k (done (value l.s) ((l.f.power + 2 * ones l.fold) % 4)) (omega arith)) ∙ l.invariant.1
