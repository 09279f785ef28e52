-- `factors::multiply` meets its contract: the tests in their order, and then the product of the rows.
use Prim.Native.Nat.{ℕ, ◌*◌}
use native.Mathlib.Omega.{arith}
use mathlib.Core.Path.{◌≡◌, sym, ◌∙◌}
use mathlib.Core.Bool.{true, false, not, ◌||◌}
use borrow.Author.Tests.{lt-ltb, le-ltb}
use lib.ListN.{length}
use Rattle.std.proofs.Common.{rules}
use Rattle.std.specs.Prelude.{Err}
use Rattle.pauli.specs.declared.Phase.{Phase}
use Rattle.products.specs.Phases.{phase_of}
use Rattle.majorana.specs.Sets.{lent, bad_size, many_or_short, many_or_bad}
use Rattle.majorana.proofs.SetLaws.{in_size}
use Rattle.products.specs.Products.{product_size, product_short, some_high}
use Rattle.products.proofs.ProductAnswers.{size_of_set, size_of_product, outs_short, outs_long, both_passed, same_bad, make_size, make_short, make_value, make_refused, make_done}
use Rattle.products.proofs.factors.multiply.Goals as goal
use Rattle.products.proofs.factors.multiply.Goals.{Else-numbers-gt512, Else-oz-w, In_ok-rows, then-bad_size-via-then-bad_size, then-bad_size-via-else-bad_size+then-numbers-gt512}
use Rattle.products.proofs.factors.multiply.Goals.{then-ox-w-via-then-ox-w, then-ox-w-via-else-ox-w+then-oz-w}
use Rattle.products.proofs.factors.multiply.Goals.{then-too_high-via-then-too_high, then-too_high-via-else-too_high+then-not-finite}

-- what the first two tests let pass
size : (c : Else-numbers-gt512) → bad_size c.args.set.modes c.args.set.qubits ≡ false
size c = sym c.bad_size.ensures ∙ c.if-bad_size.false

size_passes : (c : Else-numbers-gt512) → product_size (lent c.args.set) c.args.numbers.now ≡ false
size_passes c = size_of_product _ _ (size c) false (le-ltb _ _ c.if-numbers-gt512.false)

parts_pass : (c : Else-oz-w) → let s = c.args.set in
    product_short (lent s) c.args.ox.now c.args.oz.now ≡ many_or_short s.modes c.words_for-w.result (length s.x.now) (length s.z.now) (length s.phases.now)
parts_pass c =
    outs_long _ (sym c.bad_size.ensures ∙ c.if-bad_size.false) _ c.words_for-w.ensures _ _ (rw (le-ltb _ _ c.if-ox-w.false, le-ltb _ _ c.if-oz-w.false))

rows_pass : (c : In_ok-rows) → let s = c.args.set in
    (many_or_short s.modes c.words_for-w.result (length s.x.now) (length s.z.now) (length s.phases.now) ≡ false)
    × (many_or_bad s.modes s.qubits c.words_for-w.result s.x.now s.z.now s.phases.now ≡ false)
rows_pass c = both_passed _ _ (rw c.in_ok-rows.was at c.rows.ensures.answer)

pub returns-then-bad_size : goal.returns-then-bad_size
returns-then-bad_size c = make_size _ _ _ _ _ _ _ refused
  where
    refused : product_size (lent c.args.set) c.args.numbers.now ≡ true
    refused = elim c.then-bad_size.branch [
      | then-bad_size-via-then-bad_size w ↦ size_of_set _ _ (sym c.bad_size.ensures ∙ w.if-bad_size.true)
      | then-bad_size-via-else-bad_size+then-numbers-gt512 w ↦ size_of_product _ _ (sym c.bad_size.ensures ∙ w.if-bad_size.false) true (lt-ltb _ _ w.if-numbers-gt512.true)
    ]

pub returns-then-ox-w : goal.returns-then-ox-w
returns-then-ox-w c = make_short _ _ _ _ _ _ _ (size_passes (goal.at.returns-then-ox-w c).Else-numbers-gt512) refused
  where
    no_size : bad_size c.args.set.modes c.args.set.qubits ≡ false
    no_size = sym c.bad_size.ensures ∙ c.if-bad_size.false

    refused : product_short (lent c.args.set) c.args.ox.now c.args.oz.now ≡ true
    refused = elim c.then-ox-w.branch [
      | then-ox-w-via-then-ox-w w ↦ outs_short _ no_size _ c.words_for-w.ensures _ _ (rw (lt-ltb _ _ w.if-ox-w.true))
      | then-ox-w-via-else-ox-w+then-oz-w w ↦ outs_short _ no_size _ c.words_for-w.ensures _ _ (rw (le-ltb _ _ w.if-ox-w.false, lt-ltb _ _ w.if-oz-w.true))
    ]

pub returns-in_err-rows : goal.returns-in_err-rows
returns-in_err-rows c =
    let s = c.args.set in
    let at = goal.at.returns-in_err-rows c in
    let why = c.in_err-rows.field-0.0 in
    let same : c.from_residual.result ≡ Err why = search rules in
    rw same (make_refused _ _ _ _ _ _ _ why _ (many_or_bad s.modes s.qubits c.words_for-w.result s.x.now s.z.now s.phases.now)
    (size_passes at.Else-numbers-gt512) (parts_pass at.Else-oz-w)
    (λ h. same_bad _ (size at.Else-numbers-gt512) _ c.words_for-w.ensures _ _ ∙ rw h)
    (rw c.in_err-rows.was at c.rows.ensures.answer))

pub overflow_mul-set : goal.overflow_mul-set
overflow_mul-set c = record { fits = omega (arith, (in_size _ _ (size (goal.at.overflow_mul-set c).Else-numbers-gt512)).modes_high) }

pub returns-then-too_high : goal.returns-then-too_high
returns-then-too_high c =
    let at = goal.at.returns-then-too_high c in
    let passed = rows_pass at.In_ok-rows in
    make_value _ _ _ _ _ _ _ (size_passes at.Else-numbers-gt512) (parts_pass at.Else-oz-w ∙ passed.0)
    (same_bad _ (size at.Else-numbers-gt512) _ c.words_for-w.ensures _ _ ∙ rw passed.1 refused)
  where
    refused : (some_high (2 * c.args.set.modes) c.args.numbers.now || not c.args.finite) ≡ true
    refused = elim c.then-too_high.branch [
      | then-too_high-via-then-too_high w ↦ rw (sym c.too_high.ensures ∙ w.if-too_high.true)
      | then-too_high-via-else-too_high+then-not-finite w ↦ rw (sym c.too_high.ensures ∙ w.if-too_high.false, w.if-not-finite.true)
    ]

pub product_in-requires : goal.product_in-requires
product_in-requires c =
    let is = c.rows.ensures.rows c.in_ok-rows.rows c.in_ok-rows.was in
    rw (is.0, is.1) (sym c.too_high.ensures ∙ c.if-too_high.false, c.if-ox-w.false, c.if-oz-w.false)

pub returns : goal.returns
returns c =
    let at = goal.at.returns c in
    let e = c.words_for-w.ensures in
    let passed = rows_pass at.In_ok-rows in
    let is = c.rows.ensures.rows c.in_ok-rows.rows c.in_ok-rows.was in
    make_done _ _ _ _ _ _ _ (size_passes at.Else-numbers-gt512) (parts_pass at.Else-oz-w ∙ passed.0)
    (same_bad _ (size at.Else-numbers-gt512) _ e _ _ ∙ rw (passed.1, sym c.too_high.ensures ∙ c.if-too_high.false, c.if-not-finite.false))
    _ _ _ (rw (is.0, is.1, e) at c.product_in.ensures.phase) (letters (rw (is.0, is.1, e) at c.product_in.ensures.letters))
    (rw (is.0, is.1, e) at c.product_in.ensures.x_part) (rw (is.0, is.1, e) at c.product_in.ensures.z_part)
  where
    letters : {a : Phase} {k : ℕ} → a.power ≡ k → a ≡ phase_of k
    letters h = λ i. record { power = h i }
