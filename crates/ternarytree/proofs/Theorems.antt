-- What the calls of this crate that build promise together. Below, a call is its contract: `FlatBuilt` of from_flatpack and from_flatpack_naive, `NamedBuilt` of
-- from_name, with the answer r and the slices as they are left.
--
-- In plain words: no input leaves two outcomes. A tree is never refused by 10 or 11, since its rows anticommute in pairs and so are independent; a naive tree is
-- never refused by 13 either; and a named tree of 1 to 256 nodes, asked for with at least as many qubits, is done. Where the answer is done, row k of the words and
-- phases that are written is row k of the tree. What find_fault promises is in Faults.
--
-- The theorems that these rest on, over trees of any size:
--   OneRoot     what refusal 8 means: `scattered` is false exactly if there is a root from which all nodes hang
--   Above       slots_anticommute: the rows of two slots that hold no node anticommute
--   WithLeaves  leaves_anticommute: the rows of a tree with leaves that passes its tests anticommute in pairs
--   Naive       naive_anticommute, naive_vacuum: the rows of a naive tree do so too, and meet the vacuum rule at zero
--   NamedTrees  named_passes: the four named trees pass the tests, for every n
--   Fit         naive_faithful, named_faithful, leaves_faithful: every occupation list encodes and decodes, on a tree with leaves if 13 is not given;
--               root_chain_empty: the Z chain of a naive tree's root ends empty
use Prim.Native.Nat.{ℕ, ◌*◌, ◌<◌, ◌≤◌}
use native.Mathlib.Nat.{lt_of_lt_of_le}
use native.Mathlib.Omega.{arith}
use native.Mathlib.Decide.{ℕ_discrete}
use mathlib.Core.Path.{◌≡◌, refl, sym, ap, ◌∙◌}
use mathlib.Core.Logic.{◌≢◌}
use mathlib.Core.Bool.{Bool, true, false, not}
use mathlib.Core.List.{List, [], ◌∷◌}
use borrow.Author.Tests.{ne_eqb, le-ltb, leb-false}
use lib.Dec.{leb, ltb}
use lib.ListN.{get_or, drop}
use lib.Pow.{pow_mono}
use Rattle.std.specs.Prelude.{Ok}
use Rattle.refusal.specs.Numbers.{Paper, bare, Answer, answered}
use Rattle.refusal.specs.Table.{◌gives◌, first_of, short}
use Rattle.refusal.proofs.Bools.{or_right}
use Rattle.refusal.proofs.Searches.{none_at}
use Rattle.refusal.proofs.Outcome.{one_outcome, answered_injective}
use Rattle.algebra.specs.Modes.{Modes, vacuum_rule, Majorana}
use Rattle.dense_block.specs.Words.{value, words_for, zeroed, term_of}
use Rattle.dense_block.specs.Blocks.{laid, listed}
use Rattle.dense_block.proofs.Values.{words_hold}
use Rattle.dense_block.proofs.Blocks.{row_laid, number_listed}
use Rattle.trees.specs.Trees.{Tree, Closed}
use Rattle.trees.specs.Leaves.{slot_of, rows}
use Rattle.trees.specs.declared.Named.{Named}
use Rattle.trees.specs.Named.{named_tree}
use Rattle.tree_sizes.specs.Sizes.{outside, qubit_at, reaches}
use Rattle.ternarytree.specs.Building.{Outputs, needed, Built, tree_checks, Input, pack_of, tree_of, bad_size, too_short, bad_qubits, answer, FlatBuilt, NamedInput, named_answer, NamedBuilt}
use Rattle.ternarytree.specs.Tables.{verdict}
use Rattle.trees.proofs.Sound.{sound}
use Rattle.trees.proofs.Naive.{naive_low}
use Rattle.trees.proofs.WithLeaves.{leaf_slot}
use Rattle.trees.proofs.Bounds.{Within, low_row}
use Rattle.trees.proofs.Flats.{flatpack_closed}
use Rattle.trees.proofs.NamedTrees.{named_passes}
use Rattle.trees.proofs.Fit.{naive_meets, named_closed, named_checked, named_meets}
use Rattle.ternarytree.proofs.Verdicts.{Passed, verdict_number, verdict_refuses, verdict_passes, passed_rows, passed_checked}
use Rattle.ternarytree.proofs.Answers.{tested}

-- ---- one outcome is left

pub record Same (r s : Answer) (xs zs ps vs room xs' zs' ps' vs' room' : List ℕ) : Type 0 where
  pub answers : r ≡ s
  pub x_parts : xs ≡ xs'
  pub z_parts : zs ≡ zs'
  pub phases : ps ≡ ps'
  pub vacuum : vs ≡ vs'
  pub work : room ≡ room'

one : (p : Paper) (w : ℕ) (m : Modes) (o : Outputs) (r s : Answer) (xs zs ps vs room xs' zs' ps' vs' room' : List ℕ)
    → Built p w m o r xs zs ps vs room → Built p w m o s xs' zs' ps' vs' room' → Same r s xs zs ps vs room xs' zs' ps' vs' room'
one p w m o r s xs zs ps vs room xs' zs' ps' vs' room' a b = record {
  answers = answered_injective (one_outcome a.told b.told);
  x_parts = one_outcome a.x_parts b.x_parts;
  z_parts = one_outcome a.z_parts b.z_parts;
  phases = one_outcome a.phases b.phases;
  vacuum = one_outcome a.vacuum b.vacuum;
  work = one_outcome a.work b.work;
}

pub flatpack_outcome : (i : Input) (r s : Answer) (xs zs ps vs room xs' zs' ps' vs' room' : List ℕ)
    → FlatBuilt i r xs zs ps vs room → FlatBuilt i s xs' zs' ps' vs' room' → Same r s xs zs ps vs room xs' zs' ps' vs' room'
flatpack_outcome i = one (answer i) (words_for i.q) (rows i.leaves (tree_of i)) i.out

pub named_outcome : (i : NamedInput) (r s : Answer) (xs zs ps vs room xs' zs' ps' vs' room' : List ℕ)
    → NamedBuilt i r xs zs ps vs room → NamedBuilt i s xs' zs' ps' vs' room' → Same r s xs zs ps vs room xs' zs' ps' vs' room'
named_outcome i = one (named_answer i) (words_for i.n) (rows false (named_tree i.tree i.n)) i.out

-- ---- never 10 or 11; naive never 13

-- the numbers that a tree can be answered with
abbrev NeverRows : ℕ → Type 0
NeverRows k = (k ≢ 10) × (k ≢ 11)

rows_number : (b : Bool) → NeverRows (first_of ((b gives 13) ∷ [])).number
rows_number true = (λ e. omega arith, λ e. omega arith)
rows_number false = (λ e. omega arith, λ e. omega arith)

module _ (leaves : Bool) (t : Tree) (shut : Closed t) where
  tree_number : NeverRows (first_of (tree_checks leaves t)).number
  tree_number = go (ℕ_discrete (verdict leaves t) 0)
    where
      go : Dec (verdict leaves t ≡ 0) → NeverRows (first_of (tree_checks leaves t)).number
      go (yes e) =
          let p = verdict_passes leaves t e in
          rw (passed_rows leaves t p (passed_checked leaves t shut p)) (rows_number (not (vacuum_rule (rows leaves t) 0)))
      go (no ne) =
          let k = verdict_number leaves t ne in
          rw (verdict_refuses leaves t ne) (λ e. omega arith, λ e. omega arith)

  naive_number : leaves ≡ false → (first_of (tree_checks leaves t)).number ≢ 13
  naive_number naive = go (ℕ_discrete (verdict leaves t) 0)
    where
      meets : Passed leaves t → vacuum_rule (rows leaves t) 0 ≡ true
      meets p = rw naive (naive_meets t p.passes shut)

      go : Dec (verdict leaves t ≡ 0) → (first_of (tree_checks leaves t)).number ≢ 13
      go (yes e) = let p = verdict_passes leaves t e in rw (passed_rows leaves t p (passed_checked leaves t shut p), meets p) (λ e. omega arith)
      go (no ne) = let k = verdict_number leaves t ne in rw (verdict_refuses leaves t ne) (λ e. omega arith)

-- past the tests 1, 2 and 3
flat_number : (P : ℕ → Type 0) (i : Input) → P 1 → P 2 → P 3 → P (first_of (tree_checks i.leaves (tree_of i))).number → P (answer i).number
unfolding answer
flat_number P i one two three rest = go (bad_size i) (too_short i) (bad_qubits i)
  where
    go : (a b c : Bool) → P (first_of ((a gives 1) ∷ (b gives 2) ∷ (c gives 3) ∷ tree_checks i.leaves (tree_of i))).number
    go true b c = one
    go false true c = two
    go false false true = three
    go false false false = rest

pub flatpack_never_10_11 : (i : Input) (r : Answer) (xs zs ps vs room : List ℕ) → FlatBuilt i r xs zs ps vs room → ((answered r).number ≢ 10) × ((answered r).number ≢ 11)
flatpack_never_10_11 i r xs zs ps vs room b =
    rw b.told
    (flat_number NeverRows i (λ e. omega arith, λ e. omega arith) (λ e. omega arith, λ e. omega arith) (λ e. omega arith, λ e. omega arith) (tree_number i.leaves (tree_of i) (flatpack_closed i.leaves (pack_of i))))

pub naive_never_13 : (i : Input) (r : Answer) (xs zs ps vs room : List ℕ) → i.leaves ≡ false → FlatBuilt i r xs zs ps vs room → (answered r).number ≢ 13
naive_never_13 i r xs zs ps vs room naive b =
    rw b.told (flat_number (λ k. k ≢ 13) i (λ e. omega arith) (λ e. omega arith) (λ e. omega arith) (naive_number i.leaves (tree_of i) (flatpack_closed i.leaves (pack_of i)) naive))

-- ---- named trees are done

in_range : (k : ℕ) → 0 < k → k ≤ 256 → outside k ≡ false
unfolding outside
in_range k h g = rw (ne_eqb k 0 (λ e. omega arith), le-ltb 256 k g)

named_none : (tree : Named) (n : ℕ) → first_of (tree_checks false (named_tree tree n)) ≡ bare 0
named_none tree n =
    let p : Passed false (named_tree tree n) = record { passes = named_passes tree n; whole = refl } in
    passed_rows false (named_tree tree n) p (named_checked tree n) ∙ rw (named_meets tree n)

named_zero : (i : NamedInput) → 0 < i.n → i.n ≤ i.q → i.q ≤ 256 → short (needed i.n (words_for i.n) i.out) ≡ false → named_answer i ≡ bare 0
unfolding named_answer
named_zero i h l g k = rw (in_range i.n h (omega arith), in_range i.q (omega arith) g, k, le-ltb i.q i.n l) (named_none i.tree i.n)

-- the answer is done, and the rows of the tree and the all-zero vacuum are written
pub record Grown (i : NamedInput) (r : Answer) (xs zs ps vs room : List ℕ) : Type 0 where
  pub answer : r ≡ Ok tt
  pub x_parts : xs ≡ laid (words_for i.n) (λ k. ((rows false (named_tree i.tree i.n)).row k).x) (2 * i.n) i.out.xs
  pub z_parts : zs ≡ laid (words_for i.n) (λ k. ((rows false (named_tree i.tree i.n)).row k).z) (2 * i.n) i.out.zs
  pub phases : ps ≡ listed (λ k. ((rows false (named_tree i.tree i.n)).row k).p) (2 * i.n) i.out.ps
  pub vacuum : vs ≡ zeroed (words_for i.n) i.out.vs
  pub work : room ≡ zeroed (4 * i.n * words_for i.n) i.out.room

pub named_done : (i : NamedInput) (r : Answer) (xs zs ps vs room : List ℕ) → 0 < i.n → i.n ≤ i.q → i.q ≤ 256 → short (needed i.n (words_for i.n) i.out) ≡ false
    → NamedBuilt i r xs zs ps vs room → Grown i r xs zs ps vs room
named_done i r xs zs ps vs room h l g k b =
    let z = named_zero i h l g k in
    let d = rw z at b in
    record {
      answer = answered_injective d.told;
      x_parts = d.x_parts;
      z_parts = d.z_parts;
      phases = d.phases;
      vacuum = d.vacuum;
      work = d.work;
    }

-- ---- done: the rows of the tree anticommute and have the all-zero vacuum, and row k of what is written is row k of the tree

-- the rows m of a tree that is done, on q columns
pub record Finished (m : Modes) (q : ℕ) : Type 0 where
  pub majorana : Majorana m
  pub rule : vacuum_rule m 0 ≡ true
  -- phases below 4, and no bit past the columns
  pub within : (k : ℕ) → k < 2 * m.n → Within q (m.row k)

slot_low : (leaves : Bool) (t : Tree) → Closed t → Passed leaves t → (m : ℕ) → m < 2 * t.n → slot_of leaves t m < 3 * t.n
unfolding slot_of
slot_low true t shut p m h = (leaf_slot t p.whole m h).1
slot_low false t shut p m h = naive_low t (sound t p.passes) shut m h

-- a tree whose columns are below q, if no test refuses it
finished : (leaves : Bool) (t : Tree) (q : ℕ) → Closed t → ((i : ℕ) → i < t.n → t.qubit i < q) → first_of (tree_checks leaves t) ≡ bare 0 → Finished (rows leaves t) q
finished leaves t q shut low e = go (ℕ_discrete (verdict leaves t) 0)
  where
    meets : (b : Bool) → (first_of ((not b gives 13) ∷ [])).number ≡ 0 → b ≡ true
    meets true h = refl
    meets false h = absurd (omega arith)

    go : Dec (verdict leaves t ≡ 0) → Finished (rows leaves t) q
    go (yes z) =
        let p = verdict_passes leaves t z in
        let c = passed_checked leaves t shut p in
        record {
          majorana = c.majorana;
          rule = meets _ (ap (λ (a : Paper). a.number) (sym (passed_rows leaves t p c) ∙ e));
          within = λ k h. low_row t q low (slot_of leaves t k) (slot_low leaves t shut p k h);
        }
    go (no ne) = absurd (ne (ap (λ (a : Paper). a.number) (sym (verdict_refuses leaves t ne) ∙ e)))

pub flatpack_finished : (i : Input) → answer i ≡ bare 0 → Finished (rows i.leaves (tree_of i)) i.q
unfolding bad_qubits reaches
flatpack_finished i e =
    let z : (answer i).number ≡ 0 = ap (λ (a : Paper). a.number) e in
    let t = tested i (λ h. omega arith) (λ h. omega arith) (λ h. omega arith) in
    finished i.leaves (tree_of i) i.q (flatpack_closed i.leaves (pack_of i))
    (λ j h. let low = leb-false i.q (qubit_at i.es j) (none_at i.n (λ k. leb i.q (qubit_at i.es k)) (or_right (ltb i.q i.n) _ t.qubits) j h) in omega arith)
    (sym t.by_tree ∙ e)

pub named_finished : (tree : Named) (n : ℕ) → Finished (rows false (named_tree tree n)) n
named_finished tree n = finished false (named_tree tree n) n (named_closed tree n) (λ i h. h) (named_none tree n)

pub record Stores (w : ℕ) (m : Modes) (xs zs ps : List ℕ) : Type 0 where
  pub x_part : (k : ℕ) → k < 2 * m.n → value (term_of w xs k) ≡ (m.row k).x
  pub z_part : (k : ℕ) → k < 2 * m.n → value (term_of w zs k) ≡ (m.row k).z
  pub phase : (k : ℕ) → k < 2 * m.n → get_or ps k 0 ≡ (m.row k).p

written : (q : ℕ) (m : Modes) (o : Outputs) (r : Answer) (xs zs ps vs room : List ℕ) → Finished m q → Built (bare 0) (words_for q) m o r xs zs ps vs room → Stores (words_for q) m xs zs ps
written q m o r xs zs ps vs room f b = record {
  x_part = λ k h. rw b.x_parts (row_laid (words_for q) (λ k. (m.row k).x) (2 * m.n) k o.xs h (lt_of_lt_of_le (f.within k h).x_low (pow_mono (words_hold q))));
  z_part = λ k h. rw b.z_parts (row_laid (words_for q) (λ k. (m.row k).z) (2 * m.n) k o.zs h (lt_of_lt_of_le (f.within k h).z_low (pow_mono (words_hold q))));
  phase = λ k h. rw b.phases (number_listed (λ k. (m.row k).p) (2 * m.n) k (drop (2 * m.n) o.ps) h);
}

pub flatpack_stored : (i : Input) (r : Answer) (xs zs ps vs room : List ℕ) → FlatBuilt i r xs zs ps vs room → r ≡ Ok tt → Stores (words_for i.q) (rows i.leaves (tree_of i)) xs zs ps
flatpack_stored i r xs zs ps vs room b done =
    let e : answer i ≡ bare 0 = sym b.told ∙ ap answered done in
    written i.q (rows i.leaves (tree_of i)) i.out r xs zs ps vs room (flatpack_finished i e) (rw e at b)

pub named_stored : (i : NamedInput) (r : Answer) (xs zs ps vs room : List ℕ) → NamedBuilt i r xs zs ps vs room → r ≡ Ok tt
    → Stores (words_for i.n) (rows false (named_tree i.tree i.n)) xs zs ps
named_stored i r xs zs ps vs room b done =
    let e : named_answer i ≡ bare 0 = sym b.told ∙ ap answered done in
    written i.n (rows false (named_tree i.tree i.n)) i.out r xs zs ps vs room (named_finished i.tree i.n) (rw e at b)
