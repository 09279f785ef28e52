-- The named trees pass the tests, whatever their size: every node stands under a node of a smaller number, and no two in one slot.
use Prim.Native.Nat.{ℕ, zero, suc, ◌+◌, ◌-◌, ◌*◌, ◌/◌, ◌%◌, ◌<◌, ◌≤◌}
use native.Mathlib.Decide.{dec_lt, ℕ_discrete}
use native.Mathlib.Omega.{arith}
use mathlib.Core.Path.{◌≡◌, refl, ap, ◌∙◌, sym}
use mathlib.Core.Bool.{false, cond, not, ◌&&◌}
use lib.Dec.{eqb, ltb}
use borrow.Author.Tests.{ltb-true, lt-ltb, le-ltb, eqb-true, eq-eqb, ne_eqb}
use Rattle.refusal.specs.Search.{Least, found, none, some_below, least_below}
use Rattle.refusal.proofs.Bools.{and_left, and_right, both, is_false}
use Rattle.refusal.proofs.Searches.{none_of, least_found, least_none}
use Rattle.trees.specs.Trees.{empty, onward, node_of, parent_in, up, climb, twice, twice_in, fault_of, fault, first_fault, scattered, Names, Closed, Passes}
use Rattle.trees.specs.Flatpacks.{named}
use Rattle.trees.specs.Named.{Named, jordanWigner, parity, bravyiKitaev, jkmn, x_of, y_of, z_of, under, grown, named_tree}
use Rattle.trees.proofs.Findings.{found_some, is_found}
use Rattle.trees.proofs.Sound.{parent_names, named_parent}

pub node_of_named : (o : Least) → node_of (named o empty) ≡ o
node_of_named (found j) = refl
node_of_named none = refl

-- every node is under a node of a smaller number, and no two in one slot
pub record Growing (stands : ℕ → ℕ) : Type 0 where
  pub smaller : (j : ℕ) → 0 < j → stands j / 3 < j
  pub alone : (i j : ℕ) → 0 < i → 0 < j → stands i ≡ stands j → i ≡ j

module _ (stands : ℕ → ℕ) (g : Growing stands) (n : ℕ) where
  names : (k j : ℕ) → Names (grown stands n) k j → (j < n) × (0 < j) × (stands j ≡ k)
  names k j h =
      let r = least_found n (λ j. ltb 0 j && eqb (stands j) k) j (sym (node_of_named _) ∙ h) in
      (r.low, ltb-true 0 j (and_left (ltb 0 j) _ r.passes), eqb-true (stands j) k (and_right (ltb 0 j) _ r.passes))

  pub closed : Closed (grown stands n)
  unfolding Closed
  closed k j h = (names k j h).0

  stands_names : (j : ℕ) → 0 < j → j < n → Names (grown stands n) (stands j) j
  stands_names j h l =
      let (i, e, low, q) = found_some n (λ i. ltb 0 i && eqb (stands i) (stands j)) j l (both (lt-ltb 0 j h) (eq-eqb (stands j) (stands j) refl)) in
      let same = g.alone i j (ltb-true 0 i (and_left (ltb 0 i) _ q)) h (eqb-true (stands i) (stands j) (and_right (ltb 0 i) _ q)) in
      node_of_named _ ∙ e ∙ ap found same

  -- ---- the parents

  pub stands_low : (j : ℕ) → 0 < j → j < n → stands j < 3 * n
  stands_low j p h = omega (arith, g.smaller j p)

  pub root_up : up (grown stands n) 0 ≡ none
  unfolding parent_in
  root_up = least_none (3 * n) _ (λ k h. is_false _ (λ e. omega (arith, (names k 0 (is_found 0 _ e)).1)))

  pub grown_up : (j : ℕ) → 0 < j → j < n → up (grown stands n) j ≡ found (stands j)
  grown_up j p h = go (up (grown stands n) j) refl
    where
      go : (o : Least) → up (grown stands n) j ≡ o → up (grown stands n) j ≡ found (stands j)
      go (found k) e = e ∙ ap found (sym (names k j (parent_names (grown stands n) (3 * n) j k e).1).2)
      go none e = absurd (named_parent (grown stands n) (3 * n) j (stands j) e (stands_low j p h) (stands_names j p h))

  -- ---- the tests

  no_twice : twice (grown stands n) ≡ false
  unfolding twice_in
  no_twice = none_of n (λ j. some_below j (λ i. eqb i j)) (λ j h. none_of j (λ i. eqb i j) (λ i l. ne_eqb i j (omega arith)))

  no_parent_before : (k j : ℕ) → stands j ≡ k → parent_in (grown stands n) k j ≡ none
  unfolding parent_in
  no_parent_before k j e = least_none k _ (λ k' l. is_false _ (λ h. omega (arith, (names k' j (is_found j _ h)).2)))

  sound_slot : (k : ℕ) → fault (grown stands n) k ≡ 0
  unfolding fault_of
  sound_slot k = go (least_below n (λ j. ltb 0 j && eqb (stands j) k)) refl
    where
      go : (o : Least) → least_below n (λ j. ltb 0 j && eqb (stands j) k) ≡ o → fault_of (grown stands n) k (named o empty) ≡ 0
      go (found j) e =
          let (l, p, q) = names k j (node_of_named _ ∙ e) in
          let s = g.smaller j p in
          rw (ne_eqb j (k / 3) (λ r. omega (arith, ap (λ (k : ℕ). k / 3) q)), no_parent_before k j q)
      go none e = refl

  no_faults : first_fault (grown stands n) ≡ 0
  unfolding first_fault
  no_faults = rw (least_none (3 * n) (λ k. ltb 0 (fault (grown stands n) k)) (λ k h. rw (sound_slot k)))

  to_root : (f i : ℕ) → i ≤ f → i < n → climb (grown stands n) f i ≡ 0
  unfolding climb
  to_root zero i l h = omega arith
  to_root (suc f) i l h = go (ℕ_discrete i 0) (λ k e. to_root f (k / 3) e)
    where
      go : Dec (i ≡ 0) → ((k : ℕ) → k / 3 ≤ f → k / 3 < n → climb (grown stands n) f (k / 3) ≡ 0) → onward (up (grown stands n) i) i (λ k. climb (grown stands n) f (k / 3)) ≡ 0
      go (yes e) rest = rw (e, root_up)
      go (no e) rest =
          let p : 0 < i = omega (arith, e) in
          let s = g.smaller i p in
          rw (grown_up i p h) (rest (stands i) (omega arith) (omega arith))

  root_stays : (f : ℕ) → climb (grown stands n) f 0 ≡ 0
  unfolding climb
  root_stays zero = refl
  root_stays (suc f) = rw root_up

  one_tree : scattered (grown stands n) ≡ false
  unfolding scattered
  one_tree = rw (root_stays n, root_up, none_of n (λ i. not (eqb (climb (grown stands n) n i) 0)) (λ i h. rw (to_root n i (omega arith) h)))

  pub grown_passes : Passes (grown stands n)
  grown_passes = record { once = no_twice; faultless = no_faults; together = one_tree }

-- ---- the four

bravyi_kitaev_first : (k : ℕ) → k < 2 → under bravyiKitaev k ≡ 0
unfolding under
bravyi_kitaev_first k h = rw (lt-ltb k 2 h)

bravyi_kitaev_slot : (k : ℕ) → 2 ≤ k → under bravyiKitaev k ≡ 3 * (k / 2) + 2 * (k % 2)
unfolding under
bravyi_kitaev_slot k h = rw (le-ltb k 2 h) (go (ℕ_discrete (k % 2) 0))
  where
    go : Dec (k % 2 ≡ 0) → cond (eqb (k % 2) 0) (x_of (k / 2)) (z_of (k / 2)) ≡ 3 * (k / 2) + 2 * (k % 2)
    go (yes e) = rw (eq-eqb (k % 2) 0 e) (omega arith)
    go (no e) = rw (ne_eqb (k % 2) 0 e) (omega (arith, e))

-- its slots are filled one after another
pub jkmn_slot : (k : ℕ) → under jkmn k ≡ k - 1
unfolding under
jkmn_slot k = go (ℕ_discrete ((k - 1) % 3) 0) (ℕ_discrete ((k - 1) % 3) 1)
  where
    go : Dec ((k - 1) % 3 ≡ 0) → Dec ((k - 1) % 3 ≡ 1)
        → cond (eqb ((k - 1) % 3) 0) (x_of ((k - 1) / 3)) (cond (eqb ((k - 1) % 3) 1) (y_of ((k - 1) / 3)) (z_of ((k - 1) / 3))) ≡ k - 1
    go (yes e) d = rw (eq-eqb ((k - 1) % 3) 0 e) (omega arith)
    go (no e) (yes f) = rw (ne_eqb ((k - 1) % 3) 0 e, eq-eqb ((k - 1) % 3) 1 f) (omega arith)
    go (no e) (no f) = rw (ne_eqb ((k - 1) % 3) 0 e, ne_eqb ((k - 1) % 3) 1 f) (omega (arith, e, f))

bravyi_kitaev_growing : Growing (under bravyiKitaev)
bravyi_kitaev_growing = record { smaller = λ j h. low j h (dec_lt j 2); alone = λ i j h h' e. same i j h h' e (dec_lt i 2) (dec_lt j 2) }
  where
    low : (j : ℕ) → 0 < j → Dec (j < 2) → under bravyiKitaev j / 3 < j
    low j h (yes l) = rw (bravyi_kitaev_first j l) (omega arith)
    low j h (no l) = rw (bravyi_kitaev_slot j (omega (arith, l))) (omega (arith, l))

    same : (i j : ℕ) → 0 < i → 0 < j → under bravyiKitaev i ≡ under bravyiKitaev j → Dec (i < 2) → Dec (j < 2) → i ≡ j
    same i j h h' e (yes l) (yes l') = omega arith
    same i j h h' e (yes l) (no l') = absurd (omega (arith, l', bravyi_kitaev_first i l, bravyi_kitaev_slot j (omega (arith, l'))))
    same i j h h' e (no l) (yes l') = absurd (omega (arith, l, bravyi_kitaev_first j l', bravyi_kitaev_slot i (omega (arith, l))))
    same i j h h' e (no l) (no l') = omega (arith, bravyi_kitaev_slot i (omega (arith, l)), bravyi_kitaev_slot j (omega (arith, l')))

pub growing : (tree : Named) → Growing (under tree)
unfolding under
growing jordanWigner = record { smaller = λ j h. omega arith; alone = λ i j h h' e. omega arith }
growing parity = record { smaller = λ j h. omega arith; alone = λ i j h h' e. omega arith }
growing bravyiKitaev = bravyi_kitaev_growing
growing jkmn = record { smaller = λ j h. rw (jkmn_slot j) (omega arith); alone = λ i j h h' e. omega (arith, jkmn_slot i, jkmn_slot j) }

-- the four named trees pass the tests for every n
pub named_passes : (tree : Named) (n : ℕ) → Passes (named_tree tree n)
named_passes tree n = grown_passes (under tree) (growing tree) n
