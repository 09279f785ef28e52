-- `Rows::vacuum_rule` meets its contract: the modes from the highest, and what is left decides.
use Prim.Native.Nat.{ℕ}
use mathlib.Core.Path.{refl, sym, ap, ◌∙◌}
use native.Mathlib.Omega.{arith}
use Rattle.refusal.proofs.Searches.{all_here, all_below_lem, all_none}
use Rattle.algebra.specs.Modes.{empty, vacuum_rule}
use Rattle.dense_block.specs.Words.{value}
use Rattle.majorana.specs.HeldRows.{modes_of}
use Rattle.majorana.specs.Walks.{empty_by}
use Rattle.majorana.proofs.WalkLaws.{empty_told}
use Rattle.majorana.proofs.rows.Rows.vacuum_rule.Goals as goal

pub loop-i-init : goal.loop-i-init
unfolding vacuum_rule
loop-i-init c = refl

pub returns-then-not-is_empty : goal.returns-then-not-is_empty
returns-then-not-is_empty c =
    let is = c.is_empty.ensures ∙ ap (empty_by c.look.result) c.difference.ensures ∙ empty_told c.look.ensures in
    let here = λ (k : ℕ). empty (modes_of c.args.self.now) k (value c.args.v.now) in
    sym (c.loop-i.invariant ∙ all_here c.loop-i.i here (omega arith) (sym is ∙ c.if-not-is_empty.true))

pub loop-i-preserved : goal.loop-i-preserved
loop-i-preserved c =
    let is = c.is_empty.ensures ∙ ap (empty_by c.look.result) c.difference.ensures ∙ empty_told c.look.ensures in
    let here = λ (k : ℕ). empty (modes_of c.args.self.now) k (value c.args.v.now) in
    c.loop-i.invariant ∙ all_below_lem c.loop-i.i here (omega arith) (sym is ∙ c.if-not-is_empty.false)

pub returns : goal.returns
returns c =
    let here = λ (k : ℕ). empty (modes_of c.args.self.now) k (value c.args.v.now) in
    sym (c.loop-i.invariant ∙ all_none c.loop-i.i here (omega arith))
