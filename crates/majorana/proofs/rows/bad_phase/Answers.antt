-- `rows::bad_phase` meets its contract: the largest phase so far is above 3 exactly if one so far is, and what is past the end counts as 0.
use Prim.Native.Nat.{ℕ, ◌≤◌, ◌<◌, min, max}
use mathlib.Core.Path.{◌≡◌, sym, ap, ◌∙◌}
use mathlib.Core.Bool.{Bool, ◌||◌}
use mathlib.Core.List.{List}
use native.Mathlib.Decide.{dec_lt}
use native.Mathlib.Omega.{arith}
use borrow.Author.Tests.{lt-ltb, le-ltb}
use lib.Dec.{ltb}
use lib.ListN.{get_or-eq_default, length, get_or}
use Rattle.std.proofs.lemmas.List.{get_or-take, length-take}
use Rattle.refusal.specs.Search.{some_below}
use Rattle.refusal.proofs.Searches.{some_none, some_next, some_past}
use Rattle.majorana.proofs.rows.bad_phase.Goals as goal

-- the larger of two is above 3 if one of them is
either : (t p : ℕ) → ltb 3 (max t p) ≡ (ltb 3 p || ltb 3 t)
either t p = go (dec_lt 3 p)
  where
    low : Dec (3 < t) → p ≤ 3 → ltb 3 (max t p) ≡ ltb 3 t
    low (yes l) h = lt-ltb 3 (max t p) (omega (arith, l)) ∙ sym (lt-ltb 3 t l)
    low (no l) h = le-ltb 3 (max t p) (omega (arith, l)) ∙ sym (le-ltb 3 t (omega (arith, l)))

    go : Dec (3 < p) → ltb 3 (max t p) ≡ (ltb 3 p || ltb 3 t)
    go (yes l) = rw (lt-ltb 3 p l) (lt-ltb 3 (max t p) (omega (arith, l)))
    go (no l) = rw (le-ltb 3 p (omega (arith, l))) (low (dec_lt 3 t) (omega (arith, l)))

-- the phases from the end of the slice on count as 0
ended : (l : List ℕ) (n i : ℕ) → i ≡ min n (length l) → some_below i (λ k. ltb 3 (get_or l k 0)) ≡ some_below n (λ k. ltb 3 (get_or l k 0))
ended l n i e = go (dec_lt (length l) n)
  where
    go : Dec (length l < n) → some_below i (λ k. ltb 3 (get_or l k 0)) ≡ some_below n (λ k. ltb 3 (get_or l k 0))
    go (yes h) = sym (some_past n i (λ k. ltb 3 (get_or l k 0)) (omega arith) (λ j g. ap (ltb 3) (get_or-eq_default l 0 (omega arith))))
    go (no h) = let s : i ≡ n = omega (arith, h) in ap (λ (m : ℕ). some_below m (λ k. ltb 3 (get_or l k 0))) s

pub loop-p-init : goal.loop-p-init
loop-p-init c = sym (some_none 0 _ (omega arith))

pub loop-p-preserved : goal.loop-p-preserved
loop-p-preserved c =
    let l = c.loop-p in
    let xs = c.args.phases.now in
    let p = get_or xs l.p-index 0 in
    let here = get_or-take c.min-m.result xs l.p-index 0 (omega (arith, length-take c.min-m.result xs, c.loop-p-test.true)) in
    ap (ltb 3) (rw here at c.max-top.ensures) ∙ either l.top p ∙ ap (λ (b : Bool). ltb 3 p || b) l.invariant
    ∙ sym (some_next l.p-index (λ (k : ℕ). ltb 3 (get_or xs k 0)))

pub returns : goal.returns
returns c =
    let l = c.loop-p in
    let a = c.args in
    l.invariant
    ∙ ended a.phases.now a.n l.p-index (omega (arith, c.loop-p-test.false, c.min-m.ensures, length-take c.min-m.result a.phases.now))
