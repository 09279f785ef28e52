-- `elimination::substitute` meets its contract: the rows passed are met.
use Prim.Native.Nat.{◌-◌, ◌*◌}
use native.Mathlib.Omega.{arith}
use mathlib.Core.Path.{◌≡◌, refl, sym, ap, ◌∙◌}
use lib.ListN.{length}
use borrow.Author.Rules.{rules}
use Rattle.elimination.proofs.BackLaws.{length_put, substituting_start, substituting_end, substituting_even, substituting_set, substituting_unmet}
use Rattle.elimination.proofs.substitute.Goals as goal

pub loop-k-init : goal.loop-k-init
loop-k-init c =
    let a = c.args in
    substituting_start a.rows a.width a.room.now c.set_index.new.s a.u.now c.requires.3 c.requires.1
    (search rules) c.set_index.ensures (λ i. (c.type_inv.u i).fits)

pub returns-in_default : goal.returns-in_default
returns-in_default c =
    let a = c.args in
    let row = c.row-t in (
      substituting_unmet a.rows a.width a.room.now _ c.loop-k.k c.loop-k.u c.loop-k.invariant (omega arith) _ row.ensures
          (sym c.parity_and.ensures ∙ c.if-parity_and.true) (64 * a.width) c.in_default.ensures refl,
      c.loop-k.invariant.words,
    )

pub loop-k-preserved-then-parity_and : goal.loop-k-preserved-then-parity_and
loop-k-preserved-then-parity_and c =
    let first_length : length c.set_index.new.s ≡ length c.args.u.now = ap length c.set_index.ensures ∙ length_put c.args.u.now (64 * c.args.width) _ in
    let a = c.args in
    let row = c.row-t in
    substituting_set a.rows a.width a.room.now _ c.loop-k.k c.loop-k.u c.loop-k.invariant (omega arith) _ row.ensures
    (sym c.parity_and.ensures ∙ c.if-parity_and.true) c.in-Some.p c.in-Some.ensures.1
    c.set_index-then-parity_and.new.s (omega (arith, c.in-Some.ensures.0)) (c.requires.4 (c.loop-k.k - 1) (omega (arith, c.loop-k.invariant.within)))
    (omega (arith, first_length, c.requires.1)) c.set_index-then-parity_and.ensures (λ i. (c.type_inv.u i).fits)

pub loop-k-preserved : goal.loop-k-preserved
loop-k-preserved c =
    let a = c.args in
    substituting_even a.rows a.width a.room.now _ c.loop-k.k c.loop-k.u c.loop-k.invariant (omega arith) _ c.row-t.ensures
    (sym c.parity_and.ensures ∙ c.if-parity_and.false)

pub returns : goal.returns
returns c =
    let a = c.args in
    (substituting_end a.rows a.width a.room.now _ c.loop-k.k c.loop-k.u c.loop-k.invariant (omega arith), c.loop-k.invariant.words)
