-- `tree_sizes::reaches` meets its contract: no entry before i reaches b; where one past the end is among them, b is above 0, and no later one does.
use Prim.Native.Nat.{ℕ, ◌+◌, ◌/◌, ◌<◌, min}
use native.Mathlib.Decide.{dec_lt}
use native.Mathlib.Omega.{arith}
use mathlib.Core.Path.{◌≡◌, sym}
use mathlib.Core.Bool.{false}
use mathlib.Core.List.{List}
use borrow.Author.Tests.{le-leb, lt-leb, leb-false}
use lib.Dec.{leb}
use lib.ListN.{get_or-eq_default, length}
use Rattle.refusal.proofs.Searches.{some_of, none_of}
use Rattle.tree_sizes.specs.Sizes.{qubit_at, reaches}
use Rattle.tree_sizes.proofs.reaches.Goals as goal

-- all qubits past the end are 0, as the one looked at
none_later : (es : List ℕ) (n b m : ℕ) → m ≡ min n (length es / 4 + 1) → ((j : ℕ) → j < m → leb b (qubit_at es j) ≡ false) → (j : ℕ) → j < n → leb b (qubit_at es j) ≡ false
none_later es n b m e before j h = go (dec_lt j m)
  where
    zero_at : (k : ℕ) → length es / 4 < k → qubit_at es k ≡ 0
    zero_at k g = get_or-eq_default es 0 (omega arith)

    go : Dec (j < m) → leb b (qubit_at es j) ≡ false
    go (yes g) = before j g
    go (no g) = let low : leb b (qubit_at es 0) ≡ false = before 0 (omega (arith, g)) in lt-leb b (qubit_at es j) (omega (arith, g, zero_at j (omega (arith, g)), leb-false b (qubit_at es 0) low))

pub returns-then-b-qubit_at : goal.returns-then-b-qubit_at
unfolding reaches
returns-then-b-qubit_at c =
    let l = c.loop-i in
    let a = c.args in
    sym (some_of a.n (λ k. leb a.b (qubit_at a.entries.now k)) l.i (omega (arith, c.loop-i-test.true, c.min-m.ensures)) (le-leb a.b (qubit_at a.entries.now l.i) (omega (arith, c.if-b-qubit_at.true, c.qubit_at.ensures))))

pub returns : goal.returns
unfolding reaches
returns c =
    let a = c.args in
    sym (none_of a.n (λ k. leb a.b (qubit_at a.entries.now k)) (none_later a.entries.now a.n a.b c.min-m.result (omega (arith, c.min-m.ensures)) (λ j h. c.loop-i.invariant j (omega (arith, c.loop-i-test.false)))))
