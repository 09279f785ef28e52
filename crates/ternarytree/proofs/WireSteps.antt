-- Steps of `wire`: the first fault decides, and the tables go on slot by slot.
use Prim.Native.Nat.{ℕ, ◌+◌, ◌*◌, ◌<◌, ◌≤◌}
use native.Mathlib.Omega.{arith}
use mathlib.Core.Path.{◌≡◌, refl, sym, ap, ◌∙◌}
use mathlib.Core.Logic.{◌≢◌}
use mathlib.Core.Bool.{false}
use mathlib.Core.List.{List}
use borrow.Author.Count.{below_more}
use borrow.Author.Tests.{lt-ltb}
use lib.Dec.{ltb}
use lib.ListN.{length, set}
use Rattle.refusal.specs.Search.{found, none, least_below}
use Rattle.refusal.proofs.Outcome.{refused_number}
use Rattle.refusal.proofs.Searches.{least_of, least_none}
use Rattle.trees.specs.declared.Child.{Child}
use Rattle.trees.specs.Trees.{node_of, Tree, parent_in, leaf_in, twice_in, fault_of, fault, first_fault, Closed}
use Rattle.std.specs.Prelude.{Option, None, Ok}
use Rattle.refusal.specs.declared.Refusal.{Refusal}
use Rattle.refusal.specs.Numbers.{Paper, Answer, bare, paper, answered}
use Rattle.trees.specs.Flatpacks.{entry_in, past}
use Rattle.tree_sizes.specs.Sizes.{qubit_at}
use Rattle.ternarytree.specs.declared.entries.Entries.{Entries}
use Rattle.ternarytree.specs.Building.{pack, slot_at, placed, fault_slot}
use Rattle.ternarytree.specs.Reading.{read}
use Rattle.ternarytree.specs.Tables.{Holds, Blank, child_in, NodeBelow, Children, Wired, slot_verdict}
use Rattle.ternarytree.proofs.Codes.{in_order}
use Rattle.ternarytree.proofs.EntrySteps.{child_is}
use Rattle.trees.proofs.Flats.{flatpack_closed}

-- ---- faults

module _ (t : Tree) (k : ℕ) (before : (j : ℕ) → j < k → fault t j ≡ 0) where
  fault_at_lem : k < 3 * t.n → fault t k ≢ 0 → least_below (3 * t.n) (λ k. ltb 0 (fault t k)) ≡ found k
  fault_at_lem h ne = least_of (3 * t.n) (λ k. ltb 0 (fault t k)) k h (lt-ltb 0 (fault t k) (omega (arith, ne))) (λ j l. rw (before j l))

  no_faults : k ≡ 3 * t.n → least_below (3 * t.n) (λ k. ltb 0 (fault t k)) ≡ none
  no_faults e = least_none (3 * t.n) (λ k. ltb 0 (fault t k)) (λ j l. rw (before j (omega arith)))

-- ---- at the start

pub wired_none : (t : Tree) (n : ℕ) (ps ls : List (Option ℕ)) → t.n ≡ n → n ≤ 256 → Blank 256 ps → Blank 512 ls → Wired t n 0 ps ls
unfolding parent_in leaf_in least_below
wired_none t n ps ls e h bp bl = record { size = e; parents = λ j l. ap placed (bp j (omega arith)); leaves = λ m l. ap placed (bl m (omega arith)) }

-- ---- the invariant

pub record Wiring (e : Entries) (table : List (Option ℕ)) (top : ℕ) (ps cs ls : List (Option ℕ)) (k : ℕ) : Type 0 where
  pub holds : Holds 256 (entry_in e.n (qubit_at e.numbers.now)) table
  pub top_is : top ≡ past (qubit_at e.numbers.now) e.n
  pub once : twice_in e.n (qubit_at e.numbers.now) ≡ false
  pub wired : Wired (read e) e.n k ps ls
  pub nodes : Holds k (λ s. node_of ((read e).child s)) cs
  pub before : (j : ℕ) → j < k → fault (read e) j ≡ 0

module _ (e : Entries) (table : List (Option ℕ)) (top : ℕ) (ps cs ls : List (Option ℕ)) (k : ℕ) (w : Wiring e table top ps cs ls k) where
  -- what the code finds in slot k
  pub wiring_child : length table ≡ 256 → (s : Option ℕ) (o : Child) → s ≡ slot_at e.numbers.now e.filled.now k → o ≡ child_in table top e.leaves s → (read e).child k ≡ o
  wiring_child len s o is f = sym (f ∙ rw (is, w.top_is) (child_is e.n e.numbers.now e.filled.now e.leaves table e.low len w.holds k))

  pub wiring_below : (o : Child) → (read e).child k ≡ o → NodeBelow e.n o
  unfolding Closed
  wiring_below o is j h = flatpack_closed e.leaves (pack e.n e.numbers.now e.filled.now) k j (ap node_of is ∙ h)

  pub wiring_fault : (o : Child) (r : Refusal) → k < 3 * e.n → (read e).child k ≡ o → paper r ≡ bare (fault_of (read e) k o)
      → (paper r ≡ bare (slot_verdict (read e))) × (found k ≡ fault_slot (read e))
  unfolding slot_verdict first_fault fault_slot
  wiring_fault o r h is er =
      let same : paper r ≡ bare (fault (read e) k) = er ∙ ap (λ (o : Child). bare (fault_of (read e) k o)) (sym is) in
      let at = fault_at_lem (read e) k w.before h (λ z. refused_number r (ap (λ (p : Paper). p.number) same ∙ z)) in
      (rw (w.once, at) same, rw (w.once, at))

  pub wiring_next : (o : Child) (r : Answer) (a : Option ℕ) (ps' ls' : List (Option ℕ)) → length cs ≡ 768 → k < 3 * e.n → (read e).child k ≡ o → placed a ≡ node_of o
      → answered r ≡ bare (fault_of (read e) k o) → r ≡ Ok tt
      → Wired (read e) e.n (k + 1) ps' ls' → Wiring e table top ps' (set cs k a) ls' (k + 1)
  wiring_next o r a ps' ls' len h is ea er z w' = record {
    holds = w.holds;
    top_is = w.top_is;
    once = w.once;
    wired = w';
    nodes = in_order None (λ s x. placed x ≡ node_of ((read e).child s)) cs k a w.nodes (omega (arith, len, e.some)) (ea ∙ ap node_of (sym is));
    before = below_more _ k w.before (ap (fault_of (read e) k) is ∙ sym (ap (λ (p : Paper). p.number) (ap answered (sym z) ∙ er)));
  }

  pub wiring_end : 3 * e.n ≡ k → (bare 0 ≡ bare (slot_verdict (read e))) × (none ≡ fault_slot (read e)) × Wired (read e) e.n (3 * e.n) ps ls × Children (read e) e.n (3 * e.n) cs
  unfolding slot_verdict first_fault fault_slot
  wiring_end h =
      let clean = no_faults (read e) k w.before (sym h) in
      (rw (w.once, clean), rw (w.once, clean), rw (sym h) at w.wired, record { size = refl; nodes = rw (sym h) at w.nodes })
