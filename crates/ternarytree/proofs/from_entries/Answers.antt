-- `from_entries` meets its contract: 1, 2, then the room cleared and the flatpack built.
use Prim.Native.Nat.{ℕ, ◌*◌, ◌≤◌, ◌<◌}
use native.Mathlib.Nat.{mul-le-mul}
use native.Mathlib.Omega.{arith}
use mathlib.Core.Path.{◌≡◌, sym, ◌∙◌}
use mathlib.Core.Bool.{Bool, false}
use mathlib.Core.List.{List, ◌∷◌}
use lib.ListN.{length}
use Rattle.refusal.specs.Table.{Lent, ◌of◌, short, first_of}
use Rattle.refusal.specs.Numbers.{Answer}
use Rattle.trees.specs.Trees.{Tree}
use Rattle.trees.specs.Leaves.{rows}
use Rattle.ternarytree.specs.Tables.{TreeBuilt}
use Rattle.refusal.proofs.Bools.{or_left, or_right}
use Rattle.refusal.proofs.Rooms.{hold}
use Rattle.dense_block.specs.Words.{words_for}
use Rattle.tree_sizes.specs.Sizes.{outside, many_or_short}
use Rattle.ternarytree.specs.Building.{Input, needed, given, tree_checks, bad_size, too_short}
use Rattle.tree_sizes.proofs.SizeLaws.{inside, few_short}
use Rattle.ternarytree.proofs.Answers.{qubits_lie, flat_size, flat_lengths, flat_qubits, flat_task_lem, read_past_two}
use Rattle.ternarytree.proofs.EntrySteps.{read_is}
use Rattle.ternarytree.proofs.from_entries.Goals as goal
use Rattle.ternarytree.proofs.from_entries.Goals.{Else-bad_size, After-flat_short}

-- the lengths that are tested
abbrev lent : Input → ℕ → List Lent
lent i w = (4 * i.n of length i.es) ∷ (3 * i.n of length i.fs) ∷ needed i.n w i.out

-- past 1 there are 1 to 256 modes and qubits, so the words are few, and 2 is what the lengths tell
module _ (i : Input) (pass : bad_size i ≡ false) where
  modes_in : (0 < i.n) × (i.n ≤ 256)
  unfolding bad_size
  modes_in = inside i.n (or_left (outside i.n) _ pass)

  qubits_in : (0 < i.q) × (i.q ≤ 256)
  unfolding bad_size
  qubits_in = inside i.q (or_left (outside i.q) _ (or_right (outside i.n) _ pass))

  module _ (w : ℕ) (e : w ≡ words_for i.q) where
    few : w ≤ 4
    few = omega (arith, qubits_in.1)

    small : 4 * i.n * w ≤ 4096
    small = let h : 4 * i.n ≤ 1024 = omega (arith, modes_in.1) in mul-le-mul h few

    tested : {b c : Bool} → b ≡ many_or_short i.n w (lent i w) → b ≡ c → short (lent i w) ≡ c
    tested f g = sym (few_short i.n w (lent i w) modes_in.1 few) ∙ sym f ∙ g

-- what is given past 1
abbrev input : Else-bad_size → Input
input c = let a = c.args in given a.leaves a.flat.modes a.qubits a.flat.entries.now a.flat.filled.now a.x.now a.z.now a.phases.now a.vacuum.now a.room.now

size_passes : (c : Else-bad_size) → bad_size (input c) ≡ false
unfolding bad_size
size_passes c = sym c.bad_size.ensures ∙ c.if-bad_size.false

pub returns-then-bad_size : goal.returns-then-bad_size
unfolding bad_size
returns-then-bad_size c =
    let a = c.args in
    flat_size (given a.leaves a.flat.modes a.qubits a.flat.entries.now a.flat.filled.now a.x.now a.z.now a.phases.now a.vacuum.now a.room.now)
    (sym c.bad_size.ensures ∙ c.if-bad_size.true)

-- whether 2 refuses what is given
short_is : (c : After-flat_short) → c.flat_short.result ≡ many_or_short c.args.flat.modes c.words_for-w.result
    (lent (given c.args.leaves c.args.flat.modes c.args.qubits c.args.flat.entries.now c.args.flat.filled.now c.args.x.now c.args.z.now c.args.phases.now c.args.vacuum.now c.args.room.now) c.words_for-w.result)
short_is c = rw c.lengths-out.ensures at c.flat_short.ensures

pub returns-then-flat_short : goal.returns-then-flat_short
unfolding too_short
returns-then-flat_short c =
    let i = (goal.at.returns-then-flat_short c).Else-bad_size in
    let w = c.words_for-w.ensures in
    flat_lengths (input i) (size_passes i) (rw w at (tested (input i) (size_passes i) _ w (short_is (goal.at.returns-then-flat_short c).After-flat_short) c.if-flat_short.true))

pub overflow_mul-flat : goal.overflow_mul-flat
overflow_mul-flat c =
    let i = (goal.at.overflow_mul-flat c).Else-bad_size in
    record { fits = omega (arith, (modes_in (input i) (size_passes i)).1) }

pub overflow_mul-flat-2 : goal.overflow_mul-flat-2
overflow_mul-flat-2 c =
    let i = (goal.at.overflow_mul-flat-2 c).Else-bad_size in
    record { fits = omega (arith, small (input i) (size_passes i) _ c.words_for-w.ensures) }

pub returns-then-bad_qubits : goal.returns-then-bad_qubits
unfolding too_short
returns-then-bad_qubits c =
    let i = (goal.at.returns-then-bad_qubits c).Else-bad_size in
    let w = c.words_for-w.ensures in
    let fit = rw w at (tested (input i) (size_passes i) _ w (short_is (goal.at.returns-then-bad_qubits c).After-flat_short) c.if-flat_short.false) in
    flat_qubits (input i) (size_passes i) fit (sym c.bad_qubits.ensures ∙ c.if-bad_qubits.true) _ (rw w at c.clear.ensures)

-- what is past 2
fits : (c : After-flat_short) → bad_size (given c.args.leaves c.args.flat.modes c.args.qubits c.args.flat.entries.now c.args.flat.filled.now c.args.x.now c.args.z.now c.args.phases.now c.args.vacuum.now c.args.room.now) ≡ false
    → c.flat_short.result ≡ false
    → too_short (given c.args.leaves c.args.flat.modes c.args.qubits c.args.flat.entries.now c.args.flat.filled.now c.args.x.now c.args.z.now c.args.phases.now c.args.vacuum.now c.args.room.now) ≡ false
unfolding too_short
fits c pass h = let w = c.words_for-w.ensures in rw w at (tested _ pass _ w (short_is c) h)

pub of-requires : goal.of-requires
of-requires c =
    let i = (goal.at.of-requires c).Else-bad_size in
    read_past_two (input i) (size_passes i) (fits (goal.at.of-requires c).After-flat_short (size_passes i) c.if-flat_short.false)

pub build_flat-requires : goal.build_flat-requires
build_flat-requires c =
    let a = c.args in
    let i = (goal.at.build_flat-requires c).Else-bad_size in
    let w = c.words_for-w.ensures in
    let y = c.of.ensures in
    let q = qubits_in (input i) (size_passes i) in
    let h = hold (lent (input i) c.words_for-w.result) (tested (input i) (size_passes i) _ w (short_is (goal.at.build_flat-requires c).After-flat_short) c.if-flat_short.false) in
    let lie = qubits_lie a.flat.entries.now a.flat.modes a.qubits c.words_for-w.result w (sym c.bad_qubits.ensures ∙ c.if-bad_qubits.false) in (
      omega (arith, q.1, w),
      λ j l. rw y.numbers (lie j (omega (arith, l, y.n))),
      rw y.n h.1.1.0,
      rw y.n h.1.1.1.0,
      rw y.n h.1.1.1.1.0,
    )

-- building what is read is building what is given
of_same : {l m : Bool} {t u : Tree} {w v : ℕ} {xs zs ps vs : List ℕ} {r : Answer} {xs' zs' ps' vs' : List ℕ} → l ≡ m → t ≡ u → w ≡ v
    → TreeBuilt (first_of (tree_checks l t)) w (rows l t) xs zs ps vs r xs' zs' ps' vs' → TreeBuilt (first_of (tree_checks m u)) v (rows m u) xs zs ps vs r xs' zs' ps' vs'
of_same a b c h = rw (← a, ← b, ← c) h

pub returns : goal.returns
returns c =
    let i = (goal.at.returns c).Else-bad_size in
    let w = c.words_for-w.ensures in
    let y = c.of.ensures in
    let fit = fits (goal.at.returns c).After-flat_short (size_passes i) c.if-flat_short.false in
    let built = of_same y.leaves (read_is c.of.result y.leaves y.n y.numbers y.filled) w c.build_flat.ensures in
    flat_task_lem (input i) (size_passes i) fit (sym c.bad_qubits.ensures ∙ c.if-bad_qubits.false) c.build_flat.result _ _ _ _ _ built (rw w at c.clear.ensures)
