-- 8 is not given exactly if all nodes hang from one root: n steps are enough, since the nodes on a climb differ.
use Prim.Native.Nat.{ℕ, zero, suc, ◌-◌, ◌/◌, ◌<◌, ◌≤◌}
use native.Mathlib.Decide.{ℕ_discrete}
use native.Mathlib.Nat.{suc-sub-suc, sub-zero}
use native.Mathlib.Omega.{arith}
use mathlib.Core.Path.{◌≡◌, refl, ◌∙◌, sym}
use mathlib.Core.Logic.{◌≢◌, ◌↔◌}
use mathlib.Core.Bool.{false, not}
use lib.Dec.{eqb}
use borrow.Author.Tests.{eqb-true, eq-eqb, not-false}
use Rattle.refusal.specs.Search.{Least, found, none, some_below}
use Rattle.refusal.proofs.Bools.{or_left, or_right}
use Rattle.refusal.proofs.Searches.{none_at, none_of}
use Rattle.algebra.specs.Rows.{Row, identity}
use Rattle.trees.specs.Trees.{onward, Tree, up, climb, scattered}
use Rattle.trees.specs.Paths.{join, letter}
use Rattle.trees.specs.Hanging.{Hangs, itself, below, OneRoot}
use Rattle.trees.proofs.Findings.{not_some}
use Rattle.trees.proofs.Sound.{parent_names}
use Rattle.trees.proofs.Above.{Above, root, step, unique}

-- ---- pigeonholes

-- n in the place of the last
swap : (n last a : ℕ) → Dec (a ≡ n) → ℕ
swap n last a (yes e) = last
swap n last a (no e) = a

pub pigeons : (n m : ℕ) (f : ℕ → ℕ) → ((i : ℕ) → i < m → f i < n) → ((i j : ℕ) → i < m → j < m → f i ≡ f j → i ≡ j) → m ≤ n
unfolding swap
pigeons n zero f low apart = omega arith
pigeons zero (suc m) f low apart = absurd (omega (arith, low 0 (omega arith)))
pigeons (suc n) (suc m) f low apart =
    let rest : m ≤ n = pigeons n m (λ i. swap n (f m) (f i) (ℕ_discrete (f i) n)) (λ i h. fits i h (ℕ_discrete (f i) n))
    (λ i j h h' e. same i j h h' (ℕ_discrete (f i) n) (ℕ_discrete (f j) n) e) in
    omega arith
  where
    fits : (i : ℕ) → i < m → (d : Dec (f i ≡ n)) → swap n (f m) (f i) d < n
    fits i h (yes e) =
        let ne : f m ≢ n = λ z. omega (arith, apart i m (omega arith) (omega arith) (e ∙ sym z)) in
        omega (arith, low m (omega arith))
    fits i h (no e) = omega (arith, low i (omega arith))

    same : (i j : ℕ) → i < m → j < m → (d : Dec (f i ≡ n)) (d' : Dec (f j ≡ n)) → swap n (f m) (f i) d ≡ swap n (f m) (f j) d' → i ≡ j
    same i j h h' (yes p) (yes q) e = apart i j (omega arith) (omega arith) (p ∙ sym q)
    same i j h h' (yes p) (no q) e = absurd (omega (arith, apart m j (omega arith) (omega arith) e))
    same i j h h' (no p) (yes q) e = absurd (omega (arith, apart i m (omega arith) (omega arith) e))
    same i j h h' (no p) (no q) e = apart i j (omega arith) (omega arith) e

module _ (t : Tree) where
  -- ---- steps up

  climb_here : (f i k : ℕ) → up t i ≡ found k → climb t (suc f) i ≡ climb t f (k / 3)
  unfolding climb
  climb_here f i k e = rw e

  climb_top : (f i : ℕ) → up t i ≡ none → climb t f i ≡ i
  unfolding climb
  climb_top zero i e = refl
  climb_top (suc f) i e = rw e

  climb_zero : (i : ℕ) → climb t 0 i ≡ i
  unfolding climb
  climb_zero i = refl

  climb_low : (f i : ℕ) → i < t.n → climb t f i < t.n
  unfolding climb
  climb_low zero i h = h
  climb_low (suc f) i h = go (up t i) refl (λ k g. climb_low f (k / 3) g)
    where
      go : (o : Least) → up t i ≡ o → ((k : ℕ) → k / 3 < t.n → climb t f (k / 3) < t.n) → onward o i (λ k. climb t f (k / 3)) < t.n
      go (found k) e rest = let p = parent_names t _ _ k e in rest k (omega arith)
      go none e rest = h

  pub hangs_climb : (f i : ℕ) → Hangs t (climb t f i) i
  unfolding climb
  hangs_climb zero i = itself refl
  hangs_climb (suc f) i = go (up t i) refl (λ k. hangs_climb f (k / 3))
    where
      go : (o : Least) → up t i ≡ o → ((k : ℕ) → Hangs t (climb t f (k / 3)) (k / 3)) → Hangs t (onward o i (λ k. climb t f (k / 3))) i
      go (found k) e rest = below e (rest k)
      go none e rest = itself refl

  -- what hangs from a node hangs from all that the node hangs from
  pub hangs_through : {a r i : ℕ} → Hangs t a i → Hangs t r a → Hangs t r i
  hangs_through (itself e) g = rw e g
  hangs_through (below e h) g = below e (hangs_through h g)

  -- ---- a node that hangs from a root is fewer than n steps below it

  part_way : (j i d : ℕ) {r : Row} → Above t i d r → j ≤ d → (s : Row) × Above t (climb t j i) (d - j) s
  part_way zero i d {r = r} a h = (r, rw (climb_zero i, sub-zero) a)
  part_way (suc j) i zero (root e) h = absurd (omega arith)
  part_way (suc j) i (suc d) (step {k = k} e a) h = rw (climb_here j i k e, suc-sub-suc) (part_way j (k / 3) d a (omega arith))

  pub steps_few : {i d : ℕ} {r : Row} → i < t.n → Above t i d r → d < t.n
  steps_few {i = i} {d = d} h a =
      pigeons t.n (suc d) (λ j. climb t j i) (λ j g. climb_low j i h)
      (λ j j' g g' e. omega (arith, (unique (part_way j i d a (omega arith)).1 (part_way j' i d a (omega arith)).1 e).0))

  more_steps : (f : ℕ) {i d : ℕ} {r : Row} → Above t i d r → d ≤ f → climb t f i ≡ climb t d i
  more_steps f {i = i} (root e) h = climb_top f i e ∙ sym (climb_zero i)
  more_steps zero (step e a) h = absurd (omega arith)
  more_steps (suc f) {i = i} (step {d = d} {k = k} e a) h = climb_here f i k e ∙ more_steps f a (omega arith) ∙ sym (climb_here d i k e)

  depth : {r i : ℕ} → up t r ≡ none → Hangs t r i → (d : ℕ) × (s : Row) × Above t i d s × (climb t d i ≡ r)
  depth {i = i} h (itself e) = (0, identity, root {i = i} (rw e h), climb_zero i ∙ e)
  depth {i = i} h (below {k = k} e g) = let (d, s, a, c) = depth h g in (suc d, join (letter t k) s, step e a, climb_here d i k e ∙ c)

  -- n steps lead to the root
  pub to_root : (r i : ℕ) → i < t.n → up t r ≡ none → Hangs t r i → climb t t.n i ≡ r
  to_root r i h e g = let (d, s, a, c) = depth e g in more_steps t.n a (omega (arith, steps_few h a)) ∙ c

  pub one_root : 0 < t.n → (scattered t ≡ false) ↔ OneRoot t
  unfolding scattered
  one_root pos = (
    λ h. record {
      root = climb t t.n 0;
      node = climb_low t.n 0 pos;
      parentless = not_some _ (or_right (some_below t.n (λ i. not (eqb (climb t t.n i) (climb t t.n 0)))) _ h);
      all_hang = λ i l.
          let same : climb t t.n i ≡ climb t t.n 0 = eqb-true _ _ (not-false _ (none_at t.n (λ i. not (eqb (climb t t.n i) (climb t t.n 0))) (or_left _ _ h) i l)) in
          rw same at (hangs_climb t.n i);
    },
    λ o.
        let top = to_root o.root 0 pos o.parentless (o.all_hang 0 pos) in
        rw (
          top,
          o.parentless,
          none_of t.n (λ i. not (eqb (climb t t.n i) o.root)) (λ i l. rw (eq-eqb (climb t t.n i) o.root (to_root o.root i l o.parentless (o.all_hang i l)))),
        ),
  )
