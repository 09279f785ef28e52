-- What `locate` answers is the site of the text. A slot is named only past the tests of sizes and of repeated entries, and then test 3 has passed too: entries of different qubits, all below the
-- largest + 1, are no more than that (pigeonholes). So the first slot at fault is what decides the verdict. A slot's fault is 4, 5, 6 or 9, so entries that are refused before the slots are
-- looked at, by 1, 3 or 7, are refused for no slot.
use Prim.Native.Nat.{ℕ, suc, ◌+◌, ◌*◌, ◌/◌, ◌<◌, ◌≤◌, min}
use native.Mathlib.Omega.{arith}
use mathlib.Core.Path.{◌≡◌, refl, sym, ap, ◌∙◌}
use mathlib.Core.Logic.{◌⊎◌, inl, inr}
use mathlib.Core.List.{List, [], ◌∷◌}
use mathlib.Core.Bool.{Bool, true, false, cond, ◌&&◌, ◌||◌}
use lib.Dec.{eqb, ltb, leb}
use lib.ListN.{length, take}
use lib.Seq.{take_all}
use borrow.Author.Tests.{ltb-true, ltb-false, lt-ltb, le-ltb, leb-false, lt-leb, ne_eqb}
use Rattle.std.specs.Prelude.{Option, None}
use Rattle.refusal.specs.Numbers.{Paper}
use Rattle.refusal.specs.Search.{Least, found, none, least_below}
use Rattle.refusal.specs.Table.{◌gives◌, first_of, ◌of◌, short}
use Rattle.refusal.proofs.Bools.{never}
use Rattle.refusal.proofs.Searches.{none_at, none_of, least_missing}
use Rattle.dense_block.specs.Words.{copied}
use Rattle.trees.specs.declared.Child.{Child}
use Rattle.trees.specs.declared.Child.TheVariants.{Empty, Node, XLeaf, YLeaf, Low}
use Rattle.trees.specs.Trees.{Tree, some, parent_in, leaf_in, twice, leaf_fault, fault_of, fault, first_fault}
use Rattle.trees.proofs.Sound.{qubits_apart}
use Rattle.trees.proofs.Flats.{past_above, past_low}
use Rattle.trees.proofs.Faults.{first_at_fault}
use Rattle.trees.proofs.OneRoot.{pigeons}
use Rattle.tree_sizes.specs.Sizes.{outside, unreadable}
use Rattle.tree_sizes.proofs.SizeLaws.{inside}
use Rattle.ternarytree.specs.Building.{tree_of, tree_checks, fault_slot, fault_place}
use Rattle.flatpack_text.specs.Text.{lines, Entry, lines_of, Parsed, well_formed, malformed, is_empty, parse}
use Rattle.flatpack_text.specs.Machine.{most, told, numbers_of, kept}
use Rattle.report.specs.declared.locate.Site.{Site}
use Rattle.report.specs.Output.{pack, tree, qubits, reaching, verdict}
use Rattle.report.specs.Located.{located_at, RefusedFor, SiteOf, bad_line, bad_slot, no_slot}
use Rattle.report.specs.Replies.{fault_at, located}
use Rattle.report.proofs.Packs.{plain, full, plain_long, full_long}
use Rattle.report.proofs.Outputs.{i, reach_same, tree_same, outside_high, verdict_one}

-- ---- a slot's fault

-- 0, 4, 5, 6 or 9
abbrev slotted : ℕ → Bool
slotted v = eqb v 0 || (eqb v 4 || (eqb v 5 || (eqb v 6 || eqb v 9)))

leaf_slotted : (t : Tree) (k m : ℕ) → slotted (leaf_fault t k m) ≡ true
unfolding leaf_fault
leaf_slotted t k m = go (leb (2 * t.n) m) (some (leaf_in t k m))
  where
    go : (a b : Bool) → slotted (cond a 9 (cond b 9 0)) ≡ true
    go true b = refl
    go false true = refl
    go false false = refl

fault_slotted : (t : Tree) (k : ℕ) (c : Child) → slotted (fault_of t k c) ≡ true
unfolding fault_of
fault_slotted t k Empty = refl
fault_slotted t k (Node j) = go (eqb j (k / 3)) (some (parent_in t k j))
  where
    go : (a b : Bool) → slotted (cond a 5 (cond b 6 0)) ≡ true
    go true b = refl
    go false true = refl
    go false false = refl
fault_slotted t k (XLeaf i) = leaf_slotted t k (2 * i)
fault_slotted t k (YLeaf i) = leaf_slotted t k (2 * i + 1)
fault_slotted t k Low = refl

-- ---- the verdict

-- a repeated entry: 1, 3 or 7
early : (a b : Bool) (t : Tree) → twice t ≡ true → slotted (first_of ((a gives 1) ∷ (b gives 3) ∷ tree_checks true t)).number ≡ false
early true b t h = refl
early false true t h = refl
early false false t h = rw h

-- the slots decide
by_slot : {a b : Bool} (t : Tree) → a ≡ false → b ≡ false → twice t ≡ false → 0 < first_fault t → (first_of ((a gives 1) ∷ (b gives 3) ∷ tree_checks true t)).number ≡ first_fault t
by_slot t p q h l = rw (p, q, h, lt-ltb 0 (first_fault t) l)

module _ (es : List Entry) where
  -- 1
  abbrev sizes : Bool
  sizes = outside (length es) || (outside (qubits es) || reaching es 256)

  -- 3
  abbrev beyond : Bool
  beyond = ltb (qubits es) (length es) || reaching es (qubits es)

  -- the first slot that has a fault
  abbrev first : Least
  first = least_below (3 * length es) (λ k. ltb 0 (fault (tree es) k))

  -- refused for no slot
  not_for : slotted (verdict es).number ≡ false → (k : ℕ) → RefusedFor es k → ⊥
  not_for h k r = never (fault_slotted (tree es) k ((tree es).child k)) (ap slotted r.number ∙ h)

  sizes_one : sizes ≡ true → (verdict es).number ≡ 1
  unfolding verdict
  sizes_one h = rw h

  twice_early : twice (tree es) ≡ true → slotted (verdict es).number ≡ false
  unfolding verdict
  twice_early h = early sizes beyond (tree es) h

  within : twice (tree es) ≡ false → beyond ≡ false
  within h =
      let q = (pack es).qubit in
      let a : length es ≤ qubits es = pigeons (qubits es) (length es) q (past_above q (length es)) (qubits_apart (length es) q h) in
      rw (le-ltb (qubits es) (length es) a) (none_of (length es) (λ k. leb (qubits es) (q k)) (λ k l. lt-leb (qubits es) (q k) (past_above q (length es) k l)))

  -- the first slot at fault, past 1 and 7
  slot_for : sizes ≡ false → twice (tree es) ≡ false → (k : ℕ) → first ≡ found k → RefusedFor es k
  unfolding verdict
  slot_for a c k h =
      let f = first_at_fault (tree es) k h in
      let some_fault : 0 < first_fault (tree es) = omega (arith, f.at_fault, f.number) in
      let number : (verdict es).number ≡ first_fault (tree es) = by_slot (tree es) a (within c) c some_fault in
      record { first = f; number = sym (number ∙ f.number) }

  -- no slot is at fault
  no_fault : first ≡ none → (k : ℕ) → k < 3 * length es → fault (tree es) k ≡ 0
  no_fault h k l = omega (arith, ltb-false 0 (fault (tree es) k) (least_missing (3 * length es) (λ k. ltb 0 (fault (tree es) k)) h k l))

  site_slot : sizes ≡ false → SiteOf (well_formed es) (located_at (fault_slot (tree es)))
  unfolding fault_slot
  site_slot a = go (twice (tree es)) refl
    where
      at : twice (tree es) ≡ false → (o : Least) → first ≡ o → SiteOf (well_formed es) (located_at o)
      at c (found k) h = bad_slot (slot_for a c k h)
      at c none h = no_slot {es = es} (λ k r. r.first.at_fault (no_fault h k r.first.slot))

      go : (b : Bool) → twice (tree es) ≡ b → SiteOf (well_formed es) (located_at (cond b none first))
      go true e = no_slot (not_for (twice_early e))
      go false e = at e first refl

  -- refused for no slot: by 1, or a qubit has two entries, or no slot is at fault
  pub slotless : ((k : ℕ) → RefusedFor es k → ⊥) → ((verdict es).number ≡ 1) ⊎ ((twice (tree es) ≡ true) ⊎ ((k : ℕ) → k < 3 * length es → fault (tree es) k ≡ 0))
  slotless h = go sizes refl (twice (tree es)) refl first refl
    where
      go : (a : Bool) → sizes ≡ a → (c : Bool) → twice (tree es) ≡ c → (o : Least) → first ≡ o
          → ((verdict es).number ≡ 1) ⊎ ((twice (tree es) ≡ true) ⊎ ((k : ℕ) → k < 3 * length es → fault (tree es) k ≡ 0))
      go true e c f o g = inl (sizes_one e)
      go false e true f o g = inr (inl f)
      go false e false f (found k) g = absurd (h k (slot_for e f k g))
      go false e false f none g = inr (inr (no_fault g))

-- ---- from the tables

outside_low : (k : ℕ) → 0 < k → k ≤ 256 → outside k ≡ false
unfolding outside
outside_low k a b = let z : k ≡ 0 → ⊥ = λ e. omega arith in rw (ne_eqb k 0 z, le-ltb 256 k b)

or_true : (b : Bool) → (b || true) ≡ true
or_true true = refl
or_true false = refl

module _ (es : List Entry) (d table : List ℕ) (few : length es ≤ 256) (room : 1024 ≤ length d) (holds : table ≡ copied d (numbers_of es)) where
  abbrev n : ℕ
  n = length es

  abbrev numbers : List ℕ
  numbers = plain es d table few room holds

  abbrev flags : List Bool
  flags = full es d table few room holds

  long : short ((4 * n of length numbers) ∷ (3 * n of length flags) ∷ []) ≡ false
  long = rw (plain_long es d table few room holds, full_long es d table few room holds, le-ltb 1024 (4 * n) (omega arith), le-ltb 768 (3 * n) (omega arith))

  -- slots cannot be read exactly if the sizes are refused
  unread_same : unreadable n numbers flags ≡ sizes es
  unfolding unreadable
  unread_same = rw (long, reach_same es d table few room holds 256) (go (outside n) refl (reaching es 256) refl)
    where
      go : (a : Bool) → outside n ≡ a → (b : Bool) → reaching es 256 ≡ b → (a || b) ≡ (a || (outside (qubits es) || b))
      go true p b q = refl
      go false p true q = sym (or_true (outside (qubits es)))
      go false p false q =
          let some-entry = inside n p in
          let above : 0 < qubits es = omega (arith, past_above (pack es).qubit n 0 some-entry.0) in
          let below : qubits es ≤ 256 = past_low (pack es).qubit n 256 (λ k l. leb-false _ _ (none_at n (λ k. leb 256 ((pack es).qubit k)) q k l)) in
          rw (outside_low (qubits es) above below)

  few_site : SiteOf (well_formed es) (located_at (fault_at n table))
  unfolding fault_at fault_place
  few_site =
      let e : min n 256 ≡ n = omega arith in
      rw (e, unread_same) (go (sizes es) refl)
    where
      go : (b : Bool) → sizes es ≡ b → SiteOf (well_formed es) (located_at (cond b none (fault_slot (tree_of (i es d table few room holds)))))
      go true p = no_slot (not_for es (ap slotted (sizes_one es p)))
      go false p = rw (tree_same es d table few room holds) (site_slot es p)

-- more than 256 entries are refused by 1
many_site : (es : List Entry) (n : ℕ) (table : List ℕ) → 256 < n → 256 < length es → SiteOf (well_formed es) (located_at (fault_at n table))
unfolding fault_at fault_place unreadable
many_site es n table count many = rw (outside_high es n table count many n count) (no_slot (not_for es (ap (λ (p : Paper). slotted p.number) (verdict_one es n table count many))))

entries_site : (es : List Entry) (d table : List ℕ) → 1024 ≤ length d → table ≡ copied d (numbers_of (take 256 es)) → SiteOf (well_formed es) (located_at (fault_at (min (length es) most) table))
entries_site es d table room holds = go (ltb 256 (length es)) refl
  where
    go : (b : Bool) → ltb 256 (length es) ≡ b → SiteOf (well_formed es) (located_at (fault_at (min (length es) most) table))
    go true e = let h = ltb-true 256 (length es) e in many_site es (min (length es) most) table (omega arith) h
    go false e =
        let few = ltb-false 256 (length es) e in
        let count : min (length es) most ≡ length es = omega arith in
        rw count (few_site es d table few room (holds ∙ ap (λ (l : List Entry). copied d (numbers_of l)) (take_all 256 es few)))

-- ---- of a text

pub site_of : (t d table : List ℕ) → table ≡ kept t d → 1024 ≤ length d → SiteOf (parse t) (located (told (parse t)) table)
unfolding parse kept located
site_of t d table holds room = go ((lines_of (lines t).ended).all && is_empty (lines t).rest)
  where
    es : List Entry
    es = (lines_of (lines t).ended).entries

    parsed : Bool → Parsed
    parsed b = cond b (well_formed es) (malformed (suc (length es)))

    go : (b : Bool) → SiteOf (parsed b) (located (told (parsed b)) table)
    go true = entries_site es d table room holds
    go false = bad_line

-- no site
pub unnamed : {p : Parsed} {a : Option Site} {es : List Entry} → SiteOf p a → p ≡ well_formed es → a ≡ None → (k : ℕ) → RefusedFor es k → ⊥
unnamed {es = es} bad_line e z = absurd (cc)
unnamed {es = es} (bad_slot {k = k} r) e z = absurd (cc)
unnamed {es = es} (no_slot {es = fs} h) e z = let same : fs ≡ es = cc in rw same at h
