-- The answers of building: which of 1, 2 and 3 refuses, what is left then, that past 1 and 2 the room is cleared whatever the answer, and that past 3 the tests of
-- the tree decide.
use Prim.Native.Nat.{ℕ, ◌*◌, ◌/◌, ◌<◌, ◌≤◌}
use native.Mathlib.Omega.{arith}
use mathlib.Core.Path.{◌≡◌, refl, sym, ◌∙◌}
use mathlib.Core.Logic.{◌≢◌}
use mathlib.Core.Bool.{Bool, true, false, ◌||◌}
use mathlib.Core.List.{List, [], ◌∷◌}
use borrow.Author.Tests.{ltb-true, le-ltb, leb-false, ne_eqb}
use lib.Dec.{leb, ltb}
use lib.ListN.{length}
use Rattle.refusal.specs.Numbers.{Answer}
use Rattle.std.specs.Prelude.{Err}
use Rattle.refusal.specs.declared.Refusal.TheVariants.{Size, Short, Qubits}
use Rattle.refusal.specs.Search.{pair, no_pair}
use Rattle.refusal.specs.Table.{Rule, ◌gives◌, ◌names◌, first_of, Lent, ◌of◌, short, past_two}
use Rattle.refusal.proofs.Bools.{or_left, or_right}
use Rattle.refusal.proofs.Rooms.{hold}
use Rattle.refusal.proofs.Searches.{none_at}
use Rattle.dense_block.specs.Words.{words_for, zeroed}
use Rattle.trees.specs.Trees.{Tree, first_fault}
use Rattle.trees.specs.Leaves.{rows}
use Rattle.trees.specs.Named.{named_tree}
use Rattle.tree_sizes.proofs.SizeLaws.{inside}
use Rattle.tree_sizes.specs.Sizes.{outside, qubit_at, reaches, unreadable}
use Rattle.ternarytree.specs.Building.{needed, tree_checks, Input, tree_of, bad_size, too_short, bad_qubits, answer, FlatBuilt, NamedInput, named_answer, NamedBuilt}
use Rattle.ternarytree.specs.Tables.{AtMost, flat_task, TreeBuilt}
use Rattle.ternarytree.proofs.Verdicts.{fault_number}

-- ---- sizes

-- a qubit that is below q lies in the words for q columns
pub qubits_lie : (es : List ℕ) (n q w : ℕ) → w ≡ words_for q → (ltb q n || reaches es n q) ≡ false → (i : ℕ) → i < n → qubit_at es i / 64 < w
unfolding reaches
qubits_lie es n q w e h i l =
    let low = leb-false q (qubit_at es i) (none_at n (λ k. leb q (qubit_at es k)) (or_right (ltb q n) _ h) i l) in
    omega (arith, e)

-- slots that can be read
pub readable : (n : ℕ) (es : List ℕ) (fs : List Bool) → unreadable n es fs ≡ false → (0 < n) × (n ≤ 256) × (4 * n ≤ length es) × (3 * n ≤ length fs) × AtMost n 255 (qubit_at es)
unfolding unreadable reaches
readable n es fs h =
    let lent : List Lent = (4 * n of length es) ∷ (3 * n of length fs) ∷ [] in
    let r = or_right (outside n) _ h in
    let l = hold lent (or_left (short lent) _ r) in
    let n_in = inside n (or_left (outside n) _ h) in
    (n_in.0, n_in.1, l.0, l.1.0, λ i g. let low = leb-false 256 (qubit_at es i) (none_at n (λ k. leb 256 (qubit_at es k)) (or_right (short lent) _ r) i g) in omega arith)

-- ---- past 1 and 2

-- a rule whose number is neither
abbrev Late : List Rule → Type 0
Late [] = Unit
Late ((b gives k) ∷ rules) = (b ≡ true → 2 < k) × Late rules
Late ((p names k) ∷ rules) = (2 < k) × Late rules

late_past : (rules : List Rule) → Late rules → (new old : List ℕ) → past_two (first_of rules) new old ≡ new
late_past [] h new old = refl
late_past ((true gives k) ∷ rules) h new old = let l = h.0 refl in rw (ne_eqb k 1 (λ e. omega arith), ne_eqb k 2 (λ e. omega arith))
late_past ((false gives k) ∷ rules) h new old = late_past rules h.1 new old
late_past ((pair i j names k) ∷ rules) h new old = let l = h.0 in rw (ne_eqb k 1 (λ e. omega arith), ne_eqb k 2 (λ e. omega arith))
late_past ((no_pair names k) ∷ rules) h new old = late_past rules h.1 new old

tree_late : (leaves : Bool) (t : Tree) → Late (tree_checks leaves t)
tree_late leaves t =
    (λ e. omega arith, (λ e. let l = ltb-true 0 (first_fault t) e in omega (arith, (fault_number t (λ z. omega arith)).0), (λ e. omega arith, (λ e. omega arith, (omega arith, (λ e. omega arith, (λ e. omega arith, tt)))))))

-- ---- flatpacks

module _ (i : Input) where
  pub flat_size : bad_size i ≡ true → FlatBuilt i (Err Size) i.out.xs i.out.zs i.out.ps i.out.vs i.out.room
  unfolding answer
  flat_size h = record { told = rw h; x_parts = rw h; z_parts = rw h; phases = rw h; vacuum = rw h; work = rw h }

  pub flat_lengths : bad_size i ≡ false → too_short i ≡ true → FlatBuilt i (Err Short) i.out.xs i.out.zs i.out.ps i.out.vs i.out.room
  unfolding answer
  flat_lengths h k = record { told = rw (h, k); x_parts = rw (h, k); z_parts = rw (h, k); phases = rw (h, k); vacuum = rw (h, k); work = rw (h, k) }

  flat_answer : bad_size i ≡ false → too_short i ≡ false → answer i ≡ flat_task i.leaves i.n i.q i.es i.fs
  unfolding answer bad_qubits
  flat_answer h k = rw (h, k)

  cleared : {room : List ℕ} → room ≡ zeroed (4 * i.n * words_for i.q) i.out.room → room ≡ past_two (flat_task i.leaves i.n i.q i.es i.fs) (zeroed (4 * i.n * words_for i.q) i.out.room) i.out.room
  cleared e = e ∙ sym (late_past ((ltb i.q i.n || reaches i.es i.n i.q gives 3) ∷ tree_checks i.leaves (tree_of i)) (λ e. omega arith, tree_late i.leaves (tree_of i)) _ _)

  pub flat_qubits : bad_size i ≡ false → too_short i ≡ false → (ltb i.q i.n || reaches i.es i.n i.q) ≡ true → (room : List ℕ)
      → room ≡ zeroed (4 * i.n * words_for i.q) i.out.room → FlatBuilt i (Err Qubits) i.out.xs i.out.zs i.out.ps i.out.vs room
  flat_qubits h k l room e =
      let work = cleared e in
      let work' = rw l at work in
      rw (flat_answer h k, l) (record { told = refl; x_parts = refl; z_parts = refl; phases = refl; vacuum = refl; work = work' })

  pub flat_task_lem : bad_size i ≡ false → too_short i ≡ false → (ltb i.q i.n || reaches i.es i.n i.q) ≡ false → (r : Answer) (xs zs ps vs room : List ℕ)
      → TreeBuilt (first_of (tree_checks i.leaves (tree_of i))) (words_for i.q) (rows i.leaves (tree_of i)) i.out.xs i.out.zs i.out.ps i.out.vs r xs zs ps vs
      → room ≡ zeroed (4 * i.n * words_for i.q) i.out.room
      → FlatBuilt i r xs zs ps vs room
  flat_task_lem h k l r xs zs ps vs room b e =
      let work = cleared e in
      let work' = rw l at work in
      rw (flat_answer h k, l) (record {
        told = b.told;
        x_parts = b.x_parts;
        z_parts = b.z_parts;
        phases = b.phases;
        vacuum = b.vacuum;
        work = work';
      })

  -- past 1 and 2 the slots can be read
  pub read_past_two : bad_size i ≡ false → too_short i ≡ false → unreadable i.n i.es i.fs ≡ false
  unfolding bad_size too_short unreadable
  read_past_two h k =
      let b = or_right (outside i.n) _ h in
      let l = hold ((4 * i.n of length i.es) ∷ (3 * i.n of length i.fs) ∷ needed i.n (words_for i.q) i.out) k in
      rw (or_left (outside i.n) _ h, le-ltb (length i.es) (4 * i.n) l.0, le-ltb (length i.fs) (3 * i.n) l.1.0) (or_right (outside i.q) _ b)

-- an answer that is none of 1, 2 and 3 is that of the tests of the tree
pub record Tested (i : Input) : Type 0 where
  pub size : bad_size i ≡ false
  pub long : too_short i ≡ false
  pub qubits : bad_qubits i ≡ false
  pub by_tree : answer i ≡ first_of (tree_checks i.leaves (tree_of i))

pub tested : (i : Input) → (answer i).number ≢ 1 → (answer i).number ≢ 2 → (answer i).number ≢ 3 → Tested i
unfolding answer
tested i = go (bad_size i) (too_short i) (bad_qubits i) refl refl refl
  where
    go : (a b c : Bool) → bad_size i ≡ a → too_short i ≡ b → bad_qubits i ≡ c → let p = first_of ((a gives 1) ∷ (b gives 2) ∷ (c gives 3) ∷ tree_checks i.leaves (tree_of i)) in
        p.number ≢ 1 → p.number ≢ 2 → p.number ≢ 3 → Tested i
    go true b c e f g one two three = absurd (one refl)
    go false true c e f g one two three = absurd (two refl)
    go false false true e f g one two three = absurd (three refl)
    go false false false e f g one two three = record { size = e; long = f; qubits = g; by_tree = rw (e, f, g) }

-- ---- named trees

module _ (i : NamedInput) where
  pub named_size : (outside i.n || outside i.q) ≡ true → NamedBuilt i (Err Size) i.out.xs i.out.zs i.out.ps i.out.vs i.out.room
  unfolding named_answer
  named_size h = record { told = rw h; x_parts = rw h; z_parts = rw h; phases = rw h; vacuum = rw h; work = rw h }

  module _ (h : (outside i.n || outside i.q) ≡ false) where
    pub named_lengths : short (needed i.n (words_for i.n) i.out) ≡ true → NamedBuilt i (Err Short) i.out.xs i.out.zs i.out.ps i.out.vs i.out.room
    unfolding named_answer
    named_lengths k = record { told = rw (h, k); x_parts = rw (h, k); z_parts = rw (h, k); phases = rw (h, k); vacuum = rw (h, k); work = rw (h, k) }

    module _ (k : short (needed i.n (words_for i.n) i.out) ≡ false) (room : List ℕ) (e : room ≡ zeroed (4 * i.n * words_for i.n) i.out.room) where
      pub named_qubits : ltb i.q i.n ≡ true → NamedBuilt i (Err Qubits) i.out.xs i.out.zs i.out.ps i.out.vs room
      unfolding named_answer
      named_qubits l = record { told = rw (h, k, l); x_parts = rw (h, k, l); z_parts = rw (h, k, l); phases = rw (h, k, l); vacuum = rw (h, k, l); work = rw (h, k, l) e }

      named_answer_lem : ltb i.q i.n ≡ false → named_answer i ≡ first_of (tree_checks false (named_tree i.tree i.n))
      unfolding named_answer
      named_answer_lem l = rw (h, k, l)

      pub named_task : ltb i.q i.n ≡ false → (r : Answer) (xs zs ps vs : List ℕ)
          → TreeBuilt (first_of (tree_checks false (named_tree i.tree i.n))) (words_for i.n) (rows false (named_tree i.tree i.n)) i.out.xs i.out.zs i.out.ps i.out.vs r xs zs ps vs
          → NamedBuilt i r xs zs ps vs room
      named_task l r xs zs ps vs b =
          let a = named_answer_lem l in
          rw a (record {
            told = b.told;
            x_parts = b.x_parts;
            z_parts = b.z_parts;
            phases = b.phases;
            vacuum = b.vacuum;
            work = e ∙ sym (late_past (tree_checks false (named_tree i.tree i.n)) (tree_late false (named_tree i.tree i.n)) _ _);
          })
