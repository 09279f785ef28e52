-- What a tree that passes 7, 5, 6 and 8 is known to be: columns differ, no node stands in two slots, and all climbs end at one node without a parent.
use Prim.Native.Nat.{ℕ, ◌*◌, ◌/◌, ◌<◌}
use native.Mathlib.Decide.{dec_lt}
use native.Mathlib.Omega.{arith}
use mathlib.Core.Path.{◌≡◌, refl, sym}
use mathlib.Core.Bool.{Bool, true, false, cond, not}
use lib.Dec.{eqb, ltb}
use borrow.Author.Tests.{ltb-false, eqb-true, eq-eqb, not-false}
use Rattle.refusal.specs.Search.{Least, found, none, some_below, least_below}
use Rattle.refusal.proofs.Bools.{or_left, or_right, never}
use Rattle.refusal.proofs.Searches.{none_at, least_found, least_missing}
use Rattle.trees.specs.Trees.{Child, empty, node, xLeaf, yLeaf, low, some, is, onward, Tree, node_of, parent_in, up, climb, twice_in, fault_of, fault, first_fault, scattered, Names, Passes}
use Rattle.trees.proofs.Findings.{not_some, is_found, found_is}

pub record Sound (t : Tree) : Type 0 where
  pub apart : (i j : ℕ) → i < t.n → j < t.n → t.qubit i ≡ t.qubit j → i ≡ j
  pub once : (k k' j : ℕ) → k < 3 * t.n → k' < 3 * t.n → Names t k j → Names t k' j → k ≡ k'
  pub hangs : (i : ℕ) → i < t.n → climb t t.n i ≡ climb t t.n 0
  pub parentless : up t (climb t t.n 0) ≡ none

pub parent_names : (t : Tree) (b i k : ℕ) → parent_in t b i ≡ found k → (k < b) × Names t k i
unfolding parent_in
parent_names t b i k h = let r = least_found b _ k h in (r.low, is_found i _ r.passes)

pub named_parent : (t : Tree) (b i k : ℕ) → parent_in t b i ≡ none → k < b → Names t k i → ⊥
unfolding parent_in
named_parent t b i k h g e = never (found_is i (node_of (t.child k)) e) (least_missing b (λ k. is i (node_of (t.child k))) h k g)

-- nothing is wrong with any slot
pub no_fault : (t : Tree) → first_fault t ≡ 0 → (k : ℕ) → k < 3 * t.n → fault t k ≡ 0
unfolding first_fault
no_fault t ok k h = go (least_below (3 * t.n) (λ k. ltb 0 (fault t k))) refl ok
  where
    go : (o : Least) → least_below (3 * t.n) (λ k. ltb 0 (fault t k)) ≡ o → onward o 0 (fault t) ≡ 0 → fault t k ≡ 0
    go (found j) e f = absurd (never (least_found _ _ j e).passes (rw f))
    go none e f = let z = ltb-false 0 (fault t k) (least_missing _ _ e k h) in omega arith

-- no qubit has two entries
pub qubits_apart : (n : ℕ) (qubit : ℕ → ℕ) → twice_in n qubit ≡ false → (i j : ℕ) → i < n → j < n → qubit i ≡ qubit j → i ≡ j
unfolding twice_in
qubits_apart n qubit once i j a b e = go (dec_lt i j) (dec_lt j i)
  where
    differ : (i j : ℕ) → i < j → j < n → qubit i ≡ qubit j → ⊥
    differ i j l b e =
        never (eq-eqb (qubit i) (qubit j) e)
        (none_at j (λ i. eqb (qubit i) (qubit j)) (none_at n (λ j. some_below j (λ i. eqb (qubit i) (qubit j))) once j b) i l)

    go : Dec (i < j) → Dec (j < i) → i ≡ j
    go (yes l) d = absurd (differ i j l b e)
    go (no l) (yes m) = absurd (differ j i m a (sym e))
    go (no l) (no m) = omega arith

module _ (t : Tree) (ok : Passes t) where
  -- a node in slot k stands in no slot before it
  node_fault : (k j : ℕ) (o : Child) → node_of o ≡ found j → fault_of t k o ≡ 0 → parent_in t k j ≡ none
  unfolding fault_of
  node_fault k j empty e f = cc
  node_fault k j (node i) e f = let s : i ≡ j = cc in rw s at (go (eqb i (k / 3)) (parent_in t k i) f)
    where
      go : (b : Bool) (o : Least) → ◌≡◌ {A = ℕ} (cond b 5 (cond (some o) 6 0)) 0 → o ≡ none
      go true o f = absurd (omega arith)
      go false (found k) f = absurd (omega arith)
      go false none f = refl
  node_fault k j (xLeaf i) e f = cc
  node_fault k j (yLeaf i) e f = cc
  node_fault k j low e f = cc

  earlier : (k k' j : ℕ) → k < k' → k' < 3 * t.n → Names t k j → Names t k' j → ⊥
  earlier k k' j l h e e' = named_parent t k' j k (node_fault k' j (t.child k') e' (no_fault t ok.faultless k' h)) l e

  one_slot : (k k' j : ℕ) → k < 3 * t.n → k' < 3 * t.n → Names t k j → Names t k' j → k ≡ k'
  one_slot k k' j h h' e e' = go (dec_lt k k') (dec_lt k' k)
    where
      go : Dec (k < k') → Dec (k' < k) → k ≡ k'
      go (yes l) d = absurd (earlier k k' j l h' e e')
      go (no l) (yes l') = absurd (earlier k' k j l' h e' e)
      go (no l) (no l') = omega arith

  hangs : (i : ℕ) → i < t.n → climb t t.n i ≡ climb t t.n 0
  unfolding scattered
  hangs i h = eqb-true _ _ (not-false _ (none_at t.n (λ i. not (eqb (climb t t.n i) (climb t t.n 0))) (or_left _ _ ok.together) i h))

  parentless : up t (climb t t.n 0) ≡ none
  unfolding scattered
  parentless = not_some _ (or_right (some_below t.n (λ i. not (eqb (climb t t.n i) (climb t t.n 0)))) _ ok.together)

  pub sound : Sound t
  sound = record { apart = qubits_apart t.n t.qubit ok.once; once = one_slot; hangs = hangs; parentless = parentless }
