-- `from_name` meets its contract: 1, 2, then the room cleared, 3, and the tree built.
use Prim.Native.Nat.{ℕ, ◌*◌, ◌≤◌, ◌<◌}
use native.Mathlib.Nat.{mul-le-mul}
use native.Mathlib.Omega.{arith}
use mathlib.Core.Path.{◌≡◌, sym, ◌∙◌}
use mathlib.Core.Bool.{Bool, false, ◌||◌}
use borrow.Author.Tests.{lt-ltb, le-ltb}
use Rattle.refusal.specs.Table.{short}
use Rattle.refusal.proofs.Bools.{or_left}
use Rattle.refusal.proofs.Rooms.{hold}
use Rattle.dense_block.specs.Words.{words_for}
use Rattle.tree_sizes.specs.Sizes.{outside, many_or_short}
use Rattle.ternarytree.specs.Building.{NamedInput, needed, asked}
use Rattle.tree_sizes.proofs.SizeLaws.{inside, few_short}
use Rattle.ternarytree.proofs.Answers.{named_size, named_lengths, named_qubits, named_task}
use Rattle.ternarytree.proofs.from_name.Goals as goal
use Rattle.ternarytree.proofs.from_name.Goals.{Else-either_outside, After-outputs_short}

-- past 1 there are 1 to 256 modes, so the words are few, and 2 is what the lengths tell
module _ (i : NamedInput) (pass : (outside i.n || outside i.q) ≡ false) where
  modes_in : (0 < i.n) × (i.n ≤ 256)
  modes_in = inside i.n (or_left (outside i.n) _ pass)

  module _ (w : ℕ) (e : w ≡ words_for i.n) where
    few : w ≤ 4
    few = omega (arith, modes_in.1)

    small : 4 * i.n * w ≤ 4096
    small = let h : 4 * i.n ≤ 1024 = omega (arith, modes_in.1) in mul-le-mul h few

    tested : {b c : Bool} → b ≡ many_or_short i.n w (needed i.n w i.out) → b ≡ c → short (needed i.n w i.out) ≡ c
    tested f g = sym (few_short i.n w (needed i.n w i.out) modes_in.1 few) ∙ sym f ∙ g

-- what is asked for past 1
abbrev input : Else-either_outside → NamedInput
input c = let a = c.args in asked a.tree a.modes a.qubits a.x.now a.z.now a.phases.now a.vacuum.now a.room.now

size_passes : (c : Else-either_outside) → (outside (input c).n || outside (input c).q) ≡ false
size_passes c = sym c.either_outside.ensures ∙ c.if-either_outside.false

pub returns-then-either_outside : goal.returns-then-either_outside
returns-then-either_outside c =
    let a = c.args in
    named_size (asked a.tree a.modes a.qubits a.x.now a.z.now a.phases.now a.vacuum.now a.room.now) (sym c.either_outside.ensures ∙ c.if-either_outside.true)

-- whether 2 refuses what is asked
short_is : (c : After-outputs_short) → c.outputs_short.result ≡ many_or_short c.args.modes c.words_for-w.result
    (needed c.args.modes c.words_for-w.result (asked c.args.tree c.args.modes c.args.qubits c.args.x.now c.args.z.now c.args.phases.now c.args.vacuum.now c.args.room.now).out)
short_is c = rw c.lengths.ensures at c.outputs_short.ensures

pub returns-then-outputs_short : goal.returns-then-outputs_short
returns-then-outputs_short c =
    let i = (goal.at.returns-then-outputs_short c).Else-either_outside in
    let w = c.words_for-w.ensures in
    named_lengths (input i) (size_passes i) (rw w at (tested (input i) (size_passes i) _ w (short_is (goal.at.returns-then-outputs_short c).After-outputs_short) c.if-outputs_short.true))

pub overflow_mul-modes : goal.overflow_mul-modes
overflow_mul-modes c =
    let i = (goal.at.overflow_mul-modes c).Else-either_outside in
    record { fits = omega (arith, (modes_in (input i) (size_passes i)).1) }

pub overflow_mul-modes-2 : goal.overflow_mul-modes-2
overflow_mul-modes-2 c =
    let i = (goal.at.overflow_mul-modes-2 c).Else-either_outside in
    record { fits = omega (arith, small (input i) (size_passes i) _ c.words_for-w.ensures) }

pub returns-then-qubits-modes : goal.returns-then-qubits-modes
returns-then-qubits-modes c =
    let i = (goal.at.returns-then-qubits-modes c).Else-either_outside in
    let w = c.words_for-w.ensures in
    let fit = rw w at (tested (input i) (size_passes i) _ w (short_is (goal.at.returns-then-qubits-modes c).After-outputs_short) c.if-outputs_short.false) in
    named_qubits (input i) (size_passes i) fit _ (rw w at c.clear.ensures) (lt-ltb _ _ c.if-qubits-modes.true)

pub build_named-requires : goal.build_named-requires
build_named-requires c =
    let i = (goal.at.build_named-requires c).Else-either_outside in
    let w = c.words_for-w.ensures in
    let n = modes_in (input i) (size_passes i) in
    let h = hold (needed c.args.modes c.words_for-w.result (input i).out) (tested (input i) (size_passes i) _ w (short_is (goal.at.build_named-requires c).After-outputs_short) c.if-outputs_short.false) in
    (n.1, n.0, w, h.0, h.1.0, h.1.1.0)

pub returns : goal.returns
returns c =
    let i = (goal.at.returns c).Else-either_outside in
    let w = c.words_for-w.ensures in
    let fit = rw w at (tested (input i) (size_passes i) _ w (short_is (goal.at.returns c).After-outputs_short) c.if-outputs_short.false) in
    named_task (input i) (size_passes i) fit _ (rw w at c.clear.ensures) (le-ltb _ _ c.if-qubits-modes.false) c.build_named.result _ _ _ _ (rw w at c.build_named.ensures)
