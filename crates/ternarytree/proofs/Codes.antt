-- Tables of searches: what was found, filled as the searches go on.
use Prim.Native.Nat.{ℕ, ◌+◌, ◌/◌, ◌%◌, ◌<◌}
use native.Mathlib.Decide.{ℕ_discrete}
use native.Mathlib.Numerals.{add-one}
use native.Mathlib.Omega.{arith}
use mathlib.Core.Path.{◌≡◌, refl, sym, ap, ◌∙◌}
use mathlib.Core.Logic.{◌≢◌}
use mathlib.Core.Bool.{Bool, true, false}
use mathlib.Core.List.{List}
use lib.ListN.{get_or, set, length}
use lib.Seq.{get_or-set_same, get_or-set_other}
use Rattle.std.specs.Prelude.{Option, Some, None}
use Rattle.std.specs.Option.{is_some}
use Rattle.refusal.specs.Search.{Least, found, none, or_else, least_below}
use Rattle.refusal.proofs.Bools.{never}
use Rattle.trees.specs.Trees.{some}
use Rattle.ternarytree.specs.declared.climbing.Way.{Way}
use Rattle.ternarytree.specs.Building.{placed}
use Rattle.ternarytree.specs.Tables.{at, link_of, Holds}

-- ---- what a place holds is what was found

pub held_some : (o : Option ℕ) (s : Least) → placed o ≡ s → is_some o ≡ true → some s ≡ true
held_some (Some k) s e h = ap some (sym e)
held_some None s e h = absurd (never h refl)

pub held_none : (o : Option ℕ) (s : Least) → placed o ≡ s → is_some o ≡ false → s ≡ none
held_none (Some k) s e h = absurd (never refl h)
held_none None s e h = sym e

pub no_place : (o : Option ℕ) → placed o ≡ none → is_some o ≡ false
no_place (Some k) h = absurd (never refl (ap some h))
no_place None h = refl

abbrev chosen : Least → Option ℕ
chosen (found k) = Some k
chosen none = None

chosen_placed : (o : Option ℕ) → chosen (placed o) ≡ o
chosen_placed (Some k) = refl
chosen_placed None = refl

pub placed_found : (o : Option ℕ) (k : ℕ) → placed o ≡ found k → o ≡ Some k
placed_found o k h = sym (chosen_placed o) ∙ ap chosen h

value_of : Option ℕ → ℕ
value_of (Some k) = k
value_of None = 0

pub some_same : {a b : ℕ} → Some a ≡ Some b → a ≡ b
unfolding value_of
some_same h = ap value_of h

-- ---- ways up

pub link_none : (o : Least) → link_of o ≡ None → o ≡ none
link_none (found k) h = absurd (never refl (ap is_some h))
link_none none h = refl

abbrev node_in : Option Way → ℕ
node_in (Some w) = w.node
node_in None = 0

abbrev letter_in : Option Way → ℕ
letter_in (Some w) = w.letter
letter_in None = 0

pub link_some : (o : Least) (w : Way) → link_of o ≡ Some w → (k : ℕ) × (o ≡ found k) × (k / 3 ≡ w.node) × (k % 3 ≡ w.letter)
link_some (found k) w h = (k, refl, ap node_in h, ap letter_in h)
link_some none w h = absurd (never refl (ap is_some (sym h)))

-- ---- one step more of a search

or_else_none : (o : Least) → or_else o none ≡ o
or_else_none (found i) = refl
or_else_none none = refl

pub least_same : (i : ℕ) (test : ℕ → Bool) → test i ≡ false → least_below (i + 1) test ≡ least_below i test
unfolding least_below
least_same i test h = rw (add-one i, h) (or_else_none (least_below i test))

pub least_new : (i : ℕ) (test : ℕ → Bool) → least_below i test ≡ none → test i ≡ true → least_below (i + 1) test ≡ found i
unfolding least_below
least_new i test h e = rw (add-one i, h, e)

-- test q i: step i answers the search for q
module _ (m : ℕ) (test : ℕ → ℕ → Bool) (l : List (Option ℕ)) (i : ℕ) (holds : Holds m (λ q. least_below i (test q)) l) where
  -- step i answers no search
  pub skip : ((q : ℕ) → test q i ≡ false) → Holds m (λ q. least_below (i + 1) (test q)) l
  skip never q h = rw (least_same i (test q) (never q)) (holds q h)

  -- step i answers the search for a alone, which had no answer yet
  pub mark : (a : ℕ) → a < m → a < length l → is_some (at l a) ≡ false → test a i ≡ true → ((q : ℕ) → q ≢ a → test q i ≡ false)
      → Holds m (λ q. least_below (i + 1) (test q)) (set l a (Some i))
  mark a h g z at_a at-q q k = go (ℕ_discrete q a)
    where
      go : Dec (q ≡ a) → placed (get_or (set l a (Some i)) q None) ≡ least_below (i + 1) (test q)
      go (yes e) = rw (e, get_or-set_same l a (Some i) None g, least_new i (test a) (held_none _ _ (holds a h) z) at_a)
      go (no e) = rw (get_or-set_other l a q (Some i) None e, least_same i (test q) (at-q q e)) (holds q k)

-- ---- a table filled in order: P j of what place j holds

pub in_order : {A : Type 0} (d : A) (P : ℕ → A → Type 0) (l : List A) (i : ℕ) (v : A) → ((j : ℕ) → j < i → P j (get_or l j d)) → i < length l → P i v
    → (j : ℕ) → j < i + 1 → P j (get_or (set l i v) j d)
in_order d P l i v before h e j k = go (ℕ_discrete j i)
  where
    go : Dec (j ≡ i) → P j (get_or (set l i v) j d)
    go (yes q) = rw (q, get_or-set_same l i v d h) e
    go (no q) = rw (get_or-set_other l i j v d q) (before j (omega (arith, q)))
