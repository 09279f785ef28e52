-- Steps along a Z chain, by the table of the nodes in the slots, and where each row's leaf is.
use Prim.Native.Nat.{ℕ, zero, suc, ◌+◌, ◌-◌, ◌*◌, ◌<◌}
use native.Mathlib.Omega.{arith}
use mathlib.Core.Path.{◌≡◌, refl, sym, ap, ◌∙◌}
use mathlib.Core.Bool.{true, false}
use mathlib.Core.List.{List}
use Rattle.refusal.specs.Search.{found, none}
use Rattle.trees.specs.Trees.{onward, node_of, Tree, leaf_in, missing, Closed}
use Rattle.trees.specs.Leaves.{z_end, chain_end, slot_of}
use Rattle.ternarytree.specs.Tables.{AllBelow, Children, Wired, Slots}
use Rattle.std.specs.Prelude.{Option}
use Rattle.ternarytree.specs.Building.{placed}
use Rattle.ternarytree.proofs.Codes.{placed_found}
use Rattle.trees.proofs.WithLeaves.{leaf_slot}

-- the end of the chain from slot s with l steps left
abbrev pub end_from : Tree → ℕ → ℕ → ℕ
end_from t zero s = s
end_from t (suc l) s = onward (node_of (t.child s)) s (λ i. z_end t l i)

z_end_lem : (t : Tree) (l j : ℕ) → z_end t l j ≡ end_from t l (3 * j + 2)
unfolding z_end
z_end_lem t zero j = refl
z_end_lem t (suc l) j = refl

pub chain_none : (t : Tree) (k : ℕ) → node_of (t.child k) ≡ none → chain_end t k ≡ k
unfolding chain_end
chain_none t k h = rw h

pub chain_some : (t : Tree) (k j n : ℕ) → t.n ≡ n → node_of (t.child k) ≡ found j → chain_end t k ≡ end_from t n (3 * j + 2)
unfolding chain_end
chain_some t k j n size h = rw h (z_end_lem t t.n j ∙ ap (λ (m : ℕ). end_from t m (3 * j + 2)) size)

pub end_stop : (t : Tree) (l s : ℕ) → node_of (t.child s) ≡ none → end_from t l s ≡ s
end_stop t zero s h = refl
end_stop t (suc l) s h = rw h

pub end_none : (t : Tree) (l s : ℕ) → l ≡ 0 → end_from t l s ≡ s
end_none t zero s h = refl
end_none t (suc l) s h = absurd (omega arith)

pub end_step : (t : Tree) (l s j : ℕ) → node_of (t.child s) ≡ found j → 0 < l → end_from t l s ≡ end_from t (l - 1) (3 * j + 2)
end_step t zero s j h p = absurd (omega arith)
end_step t (suc l) s j h p =
    let e : suc l - 1 ≡ l = omega arith in
    rw (e, h) (z_end_lem t l j)

-- every node in a slot is one of n
pub children_within : (t : Tree) (n : ℕ) (cs : List (Option ℕ)) → Closed t → Children t n (3 * n) cs → AllBelow (3 * n) n cs
unfolding Closed
children_within t n cs closed c k j h e = omega (arith, closed k j (sym (c.nodes k h) ∙ ap placed e), c.size)

-- ---- the slots of the leaves

pub named_slots : (t : Tree) (n : ℕ) (ps ls : List (Option ℕ)) → Wired t n (3 * n) ps ls → missing t ≡ false → Slots (slot_of true t) n ls
unfolding slot_of
named_slots t n ps ls w whole m h =
    let r = leaf_slot t whole m (omega (arith, w.size)) in
    (placed_found _ _ (w.leaves m h ∙ ap (λ (b : ℕ). leaf_in t (3 * b) m) (sym w.size) ∙ r.0), omega (arith, r.1, w.size))
