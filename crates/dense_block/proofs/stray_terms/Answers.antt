-- `dense_block::stray_terms` meets its contract: no row so far has a column at or above q, what is left starts with the row at hand, and of the rows after one that is cut off none has words.
use Rattle.std.proofs.Common.{◌≡◌, ℕ, ◌+◌, ◌*◌, List, length, take, drop, sym, ap, ◌∙◌, zero-mul, add-mul, one-mul, arith, length-drop, refl}
use lib.Seq.{drop-drop}
use Rattle.std.proofs.lemmas.List.{take_all}
use Rattle.refusal.proofs.Searches.{some_of, none_at, none_next, some_none, some_only}
use Rattle.dense_block.specs.Words.{term_of, strays, strays_in}
use Rattle.dense_block.proofs.Strays.{after_cut}
use Rattle.dense_block.proofs.stray_terms.Goals as goal

pub loop-init : goal.loop-init
unfolding strays_in
loop-init c = (
  rw zero-mul refl,
  some_none 0 (λ (j : ℕ). let a = c.args in strays (term_of a.width a.x.now j) a.q) (omega arith),
)

-- this row is cut off: it is all that is left
pub returns-then-rest-width : goal.returns-then-rest-width
unfolding strays_in
returns-then-rest-width c =
    let a = c.args in
    let l = c.loop in
    let row : l.rest.now ≡ term_of a.width a.x.now l.counter = sym (take_all a.width l.rest.now (omega (arith, c.if-rest-width.true))) ∙ ap (λ (t : List ℕ). take a.width t) l.invariant.0 in
    let left = ap (λ (t : List ℕ). length t) l.invariant.0 ∙ length-drop (l.counter * a.width) a.x.now in
    c.stray.ensures
    ∙ ap (λ (t : List ℕ). strays t a.q) row
    ∙ sym (some_only a.count (λ (j : ℕ). let a = c.args in strays (term_of a.width a.x.now j) a.q) l.counter c.loop-test.true (none_at l.counter (λ (j : ℕ). let a = c.args in strays (term_of a.width a.x.now j) a.q) l.invariant.1) (λ j g. after_cut a.width a.x.now l.counter j a.q (omega (arith, left, c.if-rest-width.true)) g))

pub returns-then-stray : goal.returns-then-stray
unfolding strays_in
returns-then-stray c =
    let a = c.args in
    let l = c.loop in
    let row : c.split_at.result.0.now ≡ term_of a.width a.x.now l.counter = c.split_at.ensures.front ∙ ap (λ (t : List ℕ). take a.width t) l.invariant.0 in
    sym (some_of a.count (λ (j : ℕ). let a = c.args in strays (term_of a.width a.x.now j) a.q) l.counter c.loop-test.true
    (ap (λ (t : List ℕ). strays t a.q) (sym row) ∙ sym c.stray-in-loop.ensures ∙ c.if-stray.true))

pub loop-preserved : goal.loop-preserved
unfolding strays_in
loop-preserved c =
    let a = c.args in
    let l = c.loop in
    let row : c.split_at.result.0.now ≡ term_of a.width a.x.now l.counter = c.split_at.ensures.front ∙ ap (λ (t : List ℕ). take a.width t) l.invariant.0 in
    let next : l.counter * a.width + a.width ≡ (l.counter + 1) * a.width = omega (arith, add-mul l.counter 1 a.width, one-mul a.width) in (
      c.split_at.ensures.back ∙ ap (λ (t : List ℕ). drop a.width t) l.invariant.0 ∙ drop-drop a.width (l.counter * a.width) a.x.now ∙ ap (λ (k : ℕ). drop k a.x.now) next,
      none_next l.counter (λ (j : ℕ). let a = c.args in strays (term_of a.width a.x.now j) a.q) l.invariant.1
          (ap (λ (t : List ℕ). strays t a.q) (sym row) ∙ sym c.stray-in-loop.ensures ∙ c.if-stray.false),
    )
