-- Steps of the climbs, and what the tables tell of the tests of a whole tree.
use Prim.Native.Nat.{ℕ, zero, suc, ◌-◌, ◌*◌, ◌<◌}
use native.Mathlib.Omega.{arith}
use mathlib.Core.Path.{◌≡◌, refl, sym, ap, ◌∙◌}
use mathlib.Core.Logic.{◌≢◌}
use mathlib.Core.Bool.{Bool, true, false, cond, not, ◌&&◌, ◌||◌}
use mathlib.Core.List.{List}
use borrow.Author.Tests.{eq-eqb, ne_eqb, lt-ltb}
use lib.Dec.{eqb}
use Rattle.std.specs.Prelude.{Option, Some, None}
use Rattle.std.specs.Option.{is_some}
use Rattle.ternarytree.specs.Building.{placed}
use Rattle.ternarytree.specs.declared.climbing.Way.{Way}
use Rattle.refusal.specs.Search.{none, some_below}
use Rattle.refusal.proofs.Searches.{some_of, none_of}
use Rattle.trees.specs.Hanging.{Hangs, itself, below}
use Rattle.trees.proofs.OneRoot.{hangs_climb, hangs_through, to_root}
use Rattle.trees.specs.Trees.{some, Tree, up, climb, parent_in, leaf_in, scattered, missing}
use Rattle.ternarytree.specs.Tables.{at, AllBelow, Parents, link_of, way_at, Links, Ways, Wired, slot_verdict, verdict}
use Rattle.ternarytree.proofs.Codes.{held_some, held_none, placed_found, link_none, link_some}
use Rattle.trees.proofs.Sound.{parent_names}

-- ---- climbs

pub climb_stop : (t : Tree) (l i : ℕ) → link_of (up t i) ≡ None → climb t l i ≡ i
unfolding climb
climb_stop t zero i h = refl
climb_stop t (suc l) i h = rw (link_none (up t i) h)

pub climb_step : (t : Tree) (l i : ℕ) (w : Way) → link_of (up t i) ≡ Some w → 0 < l → climb t l i ≡ climb t (l - 1) w.node
unfolding climb
climb_step t zero i w h p = absurd (omega arith)
climb_step t (suc l) i w h p =
    let e : suc l - 1 ≡ l = omega arith in
    let (k, is, node, letter) = link_some (up t i) w h in
    rw (e, is, node)

pub climb_none : (t : Tree) (l i : ℕ) → l ≡ 0 → climb t l i ≡ i
unfolding climb
climb_none t zero i h = refl
climb_none t (suc l) i h = absurd (omega arith)

-- a node hangs from the one above it
pub hangs_step : (t : Tree) (i : ℕ) (w : Way) → link_of (up t i) ≡ Some w → Hangs t w.node i
hangs_step t i w h = let (k, is, node, letter) = link_some (up t i) w h in below is (itself node)

-- ---- one root

or_true : (a b : Bool) → b ≡ true → (a || b) ≡ true
or_true true b h = refl
or_true false b h = h

module _ (t : Tree) where
  pub root_has_parent : some (up t (climb t t.n 0)) ≡ true → scattered t ≡ true
  unfolding scattered
  root_has_parent h = or_true (some_below t.n (λ i. not (eqb (climb t t.n i) (climb t t.n 0)))) (some (up t (climb t t.n 0))) h

  pub another_root : (i : ℕ) → i < t.n → climb t t.n i ≢ climb t t.n 0 → scattered t ≡ true
  unfolding scattered
  another_root i h ne = rw (some_of t.n (λ i. not (eqb (climb t t.n i) (climb t t.n 0))) i h (rw (ne_eqb (climb t t.n i) (climb t t.n 0) ne)))

  pub all_hang : up t (climb t t.n 0) ≡ none → ((i : ℕ) → i < t.n → climb t t.n i ≡ climb t t.n 0) → scattered t ≡ false
  unfolding scattered
  all_hang h all =
      rw (
        none_of t.n (λ i. not (eqb (climb t t.n i) (climb t t.n 0))) (λ i l. rw (eq-eqb (climb t t.n i) (climb t t.n 0) (all i l))),
        h,
      )

-- the same, by the table
module _ (t : Tree) (n : ℕ) (l : List (Option ℕ)) (p : Parents t n l) where
  pub top_has_parent : (top : ℕ) → top < n → top ≡ climb t n 0 → is_some (at l top) ≡ true → true ≡ scattered t
  top_has_parent top h e g =
      let above = held_some _ (up t top) (p.ups top h) g in
      let above' = rw (e, ← p.size) at above in
      sym (root_has_parent t above')

  -- a node that hangs from one from which the root is reached
  pub on_the_way : (top i r : ℕ) → top < n → is_some (at l top) ≡ false → i < n → Hangs t r i → climb t n r ≡ top → climb t n i ≡ top
  on_the_way top i r h z low g e =
      let root : up t top ≡ none = held_none _ (up t top) (p.ups top h) z in
      let g' : Hangs t top i = hangs_through t g (rw e at (hangs_climb t n r)) in
      ap (λ (m : ℕ). climb t m i) (sym p.size) ∙ to_root t top i (rw (← p.size) at low) root g'

  pub another_top : (top i r : ℕ) → i < n → top ≡ climb t n 0 → r ≡ climb t n i → r ≢ top → true ≡ scattered t
  another_top top i r h e e' ne =
      let far : climb t n i ≢ climb t n 0 = λ z. ne (e' ∙ z ∙ sym e) in
      sym (another_root t i (rw (← p.size) at h) (rw (← p.size) at far))

  pub all_to_top : (top : ℕ) → top < n → top ≡ climb t n 0 → is_some (at l top) ≡ false → ((j : ℕ) → j < n → climb t n j ≡ top) → false ≡ scattered t
  all_to_top top h e z all =
      let root : up t (climb t n 0) ≡ none = rw (← e) (held_none _ (up t top) (p.ups top h) z) in
      let all_n : (j : ℕ) → j < n → climb t n j ≡ climb t n 0 = λ j g. all j g ∙ e in
      sym (all_hang t (rw (← p.size) at root) (rw (← p.size) at all_n))

-- ---- the tables

-- links made from parents
module _ (n : ℕ) (ps : List (Option ℕ)) (ls : List (Option Way)) (e : (i : ℕ) → i < n → way_at ls i ≡ link_of (placed (at ps i))) where
  pub linked_ways : AllBelow n (3 * n) ps → Ways n ls
  linked_ways low i w h is =
      let (k, from, node, letter) = link_some (placed (at ps i)) w (sym (e i h) ∙ is) in
      let l = low i k h (placed_found (at ps i) k from) in
      (omega (arith, l, node), omega (arith, letter))

  pub linked : (t : Tree) → Parents t n ps → Links t n ls
  linked t p = record { size = p.size; ups = λ i h. e i h ∙ ap link_of (p.ups i h) }

pub parents_within : (t : Tree) (n : ℕ) (ps : List (Option ℕ)) → Parents t n ps → AllBelow n (3 * n) ps
parents_within t n ps p j k h e = omega (arith, (parent_names t (3 * t.n) j k (sym (p.ups j h) ∙ ap placed e)).0, p.size)

module _ (t : Tree) (n : ℕ) (ps ls : List (Option ℕ)) (w : Wired t n (3 * n) ps ls) where
  pub wired_parents : Parents t n ps
  wired_parents = record { size = w.size; ups = λ j h. w.parents j h ∙ ap (λ (b : ℕ). parent_in t (3 * b) j) (sym w.size) }

  pub leaf_missing : (m : ℕ) → m < 2 * n → is_some (at ls m) ≡ false → missing t ≡ true
  unfolding missing
  leaf_missing m h z =
      let gone = held_none _ (leaf_in t (3 * n) m) (w.leaves m h) z in
      let gone' = rw (← w.size) at gone in
      some_of (2 * t.n) (λ m. not (some (leaf_in t (3 * t.n) m))) m (omega (arith, w.size)) (rw gone')

  pub none_missing : ((m : ℕ) → m < 2 * n → is_some (at ls m) ≡ true) → missing t ≡ false
  unfolding missing
  none_missing h =
      none_of (2 * t.n) (λ m. not (some (leaf_in t (3 * t.n) m)))
      (λ m g. let l : m < 2 * n = omega (arith, w.size) in
      let f = held_some _ (leaf_in t (3 * n) m) (w.leaves m l) (h m l) in
      let f' = rw (← w.size) at f in
      rw f')

-- ---- the first test that fails

module _ (leaves : Bool) (t : Tree) (r : ℕ) (e : r ≡ slot_verdict t) where
  pub verdict_slot : r ≢ 0 → r ≡ verdict leaves t
  unfolding verdict
  verdict_slot ne = rw (← e, lt-ltb 0 r (omega (arith, ne)))

  pub verdict_scattered : r ≡ 0 → scattered t ≡ true → 8 ≡ verdict leaves t
  unfolding verdict
  verdict_scattered z s = rw (← e, z, s)

  pub verdict_missing : r ≡ 0 → scattered t ≡ false → leaves ≡ true → missing t ≡ true → 9 ≡ verdict leaves t
  unfolding verdict
  verdict_missing z s l m = rw (← e, z, s, l, m)

  pub verdict_whole : r ≡ 0 → scattered t ≡ false → missing t ≡ false → 0 ≡ verdict leaves t
  unfolding verdict
  verdict_whole z s m = rw (← e, z, s, m) (go leaves)
    where
      go : (b : Bool) → ◌≡◌ {A = ℕ} 0 (cond (b && false) 9 0)
      go true = refl
      go false = refl

  pub verdict_naive : r ≡ 0 → scattered t ≡ false → leaves ≡ false → 0 ≡ verdict leaves t
  unfolding verdict
  verdict_naive z s l = rw (← e, z, s, l)
