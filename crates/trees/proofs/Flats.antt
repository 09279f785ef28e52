-- What the slots of a flatpack hold: a node there is one of the entries. And how far its qubits go.
use Prim.Native.Nat.{ℕ, zero, suc, ◌-◌, ◌/◌, ◌%◌, ◌<◌, ◌≤◌}
use Rattle.std.specs.Prelude.{Option, Some, None}
use native.Mathlib.Decide.{dec_lt}
use native.Mathlib.Omega.{arith}
use mathlib.Core.Path.{◌≡◌, refl, sym, ◌∙◌}
use mathlib.Core.Bool.{Bool, true, false, cond}
use lib.Dec.{eqb, leb}
use Rattle.refusal.specs.Search.{Least, found, none}
use Rattle.refusal.proofs.Searches.{least_found}
use Rattle.trees.specs.Trees.{Child, xLeaf, yLeaf, low, node_of, Closed}
use Rattle.trees.specs.Flatpacks.{Flatpack, entry_in, past, leaf_numbered, unnamed, named, child_of, flat_tree}

-- what is no entry's qubit is no node
unnamed_free : (leaves : Bool) (top q : ℕ) → node_of (unnamed leaves top q) ≡ none
unfolding leaf_numbered
unnamed_free false top q = refl
unnamed_free true top q = go (leb top q) (eqb ((q - top) % 2) 0)
  where
    go : (b e : Bool) → node_of (cond b (cond e (xLeaf ((q - top) / 2)) (yLeaf ((q - top - 1) / 2))) low) ≡ none
    go true true = refl
    go true false = refl
    go false e = refl

node_of_entry : (o : Least) (other : Child) → node_of other ≡ none → node_of (named o other) ≡ o
node_of_entry (found i) other e = refl
node_of_entry none other e = e

pub flatpack_closed : (leaves : Bool) (c : Flatpack) → Closed (flat_tree leaves c)
unfolding Closed child_of entry_in
flatpack_closed leaves c k j h = go (c.slot k) h
  where
    go : (s : Option ℕ) → node_of (child_of leaves c s) ≡ found j → j < c.n
    go None h = let z : ◌≡◌ {A = ℕ} 0 1 = cc in absurd (omega arith)
    go (Some q) h = (least_found c.n (λ i. eqb (c.qubit i) q) j (sym (node_of_entry _ _ (unnamed_free leaves (past c.qubit c.n) q)) ∙ h)).low

-- ---- one more than the largest qubit

pub past_above : (q : ℕ → ℕ) (n k : ℕ) → k < n → q k < past q n
unfolding past
past_above q zero k h = absurd (omega arith)
past_above q (suc n) k h = go (dec_lt k n) (past_above q n k)
  where
    go : Dec (k < n) → (k < n → q k < past q n) → q k < past q (suc n)
    go (yes l) before = omega (arith, before l)
    go (no l) before = let e : k ≡ n = omega arith in rw e (omega arith)

pub past_low : (q : ℕ → ℕ) (n b : ℕ) → ((k : ℕ) → k < n → q k < b) → past q n ≤ b
unfolding past
past_low q zero b h = omega arith
past_low q (suc n) b h = omega (arith, past_low q n b (λ k l. h k (omega arith)), h n (omega arith))
