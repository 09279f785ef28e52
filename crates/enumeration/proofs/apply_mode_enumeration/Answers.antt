-- `enumeration::apply_mode_enumeration` meets its contract: sizes and lengths, then what is left.
use Prim.Native.Nat.{ℕ, ◌*◌, ◌≤◌}
use native.Mathlib.Nat.{mul-le-mul}
use native.Mathlib.Omega.{arith}
use mathlib.Core.Path.{◌≡◌, sym, ◌∙◌}
use mathlib.Core.Bool.{false}
use Rattle.majorana.specs.Sets.{lent, bad_size}
use Rattle.majorana.proofs.SetLaws.{in_size, few_words}
use Rattle.enumeration.specs.Enumerations.{outs, enumeration_short}
use Rattle.enumeration.proofs.EnumerationAnswers.{enumerated_size, enumerated_short}
use Rattle.enumeration.proofs.apply_mode_enumeration.Goals as goal
use Rattle.enumeration.proofs.apply_mode_enumeration.Goals.{Else-bad_size, After-words_for-w, After-any_short}

size_passes : (c : Else-bad_size) → bad_size c.args.set.modes c.args.set.qubits ≡ false
size_passes c = sym c.bad_size.ensures ∙ c.if-bad_size.false

few : (m w : ℕ) → m ≤ 256 → w ≤ 4 → 2 * m * w ≤ 2048
few m w h k = let t : 2 * m ≤ 512 = omega arith in mul-le-mul t k

small : (c : After-words_for-w) → 2 * c.args.set.modes * c.words_for-w.result ≤ 2048
small c =
    let r = in_size _ _ (sym c.bad_size.ensures ∙ c.if-bad_size.false) in
    few _ _ r.modes_high (omega (arith, few_words c.args.set.qubits r.qubits_high, c.words_for-w.ensures))

pub returns-then-bad_size : goal.returns-then-bad_size
returns-then-bad_size c =
    let a = c.args in
    let o = outs a.ox.now a.oz.now a.ophases.now a.ovacuum.now a.room.now in
    enumerated_size (lent a.set) a.vacuum.now a.map.now o (sym c.bad_size.ensures ∙ c.if-bad_size.true)

pub overflow_mul-rows : goal.overflow_mul-rows
overflow_mul-rows c = record { fits = omega (arith, (in_size _ _ (size_passes (goal.at.overflow_mul-rows c).Else-bad_size)).modes_high) }

pub overflow_mul-words : goal.overflow_mul-words
overflow_mul-words c = record { fits = omega (arith, small (goal.at.overflow_mul-words c).After-words_for-w) }

pub overflow_mul-words-2 : goal.overflow_mul-words-2
overflow_mul-words-2 c = record { fits = omega (arith, small (goal.at.overflow_mul-words-2 c).After-words_for-w) }

-- what the ten slices answer is what the definition says of them
lengths_told : (c : After-any_short) → c.any_short.result ≡ enumeration_short (lent c.args.set) c.args.vacuum.now c.args.map.now
    (let a = c.args in outs a.ox.now a.oz.now a.ophases.now a.ovacuum.now a.room.now)
unfolding enumeration_short
lengths_told c =
    let e : 2 * (2 * c.args.set.modes * c.words_for-w.result) ≡ 4 * c.args.set.modes * c.words_for-w.result = omega arith in
    rw (e, c.words_for-w.ensures) at c.any_short.ensures

pub returns-then-any_short : goal.returns-then-any_short
returns-then-any_short c =
    let a = c.args in
    let at = goal.at.returns-then-any_short c in
    let o = outs a.ox.now a.oz.now a.ophases.now a.ovacuum.now a.room.now in
    enumerated_short (lent a.set) a.vacuum.now a.map.now o (size_passes at.Else-bad_size) (sym (lengths_told at.After-any_short) ∙ c.if-any_short.true)

pub enumerate-requires : goal.enumerate-requires
enumerate-requires c =
    let at = goal.at.enumerate-requires c in
    record { size = size_passes at.Else-bad_size; long = sym (lengths_told at.After-any_short) ∙ c.if-any_short.false }
