-- The tree theorem: the rows of two different slots that hold no node anticommute. A letter below depth d does not clash with the edges above a node at
-- depth d; of two slots the deeper one's path is dropped to the other's level; where they meet the letters differ. No column is looked at.
use Prim.Native.Nat.{ℕ, zero, suc, ◌+◌, ◌*◌, ◌/◌, ◌%◌, ◌^◌, ◌<◌, ◌≤◌}
use native.Mathlib.Decide.{dec_le, ℕ_discrete}
use native.Mathlib.Omega.{arith}
use mathlib.Core.Path.{◌≡◌, refl, ap, ◌∙◌, sym}
use mathlib.Core.Logic.{◌≢◌}
use Rattle.refusal.specs.Search.{Least, found, none}
use Rattle.algebra.specs.Rows.{Row, identity, clash}
use Rattle.algebra.proofs.RowLaws.{clash_comm, clash_self}
use Rattle.trees.specs.Trees.{onward, node_of, Tree, up, climb, Names}
use Rattle.trees.specs.Paths.{join, letter, above, row_at}
use Rattle.trees.proofs.Letters.{clash_identity, clash_l, clash_r, dot_own, dot_other, same_column, other_column}
use Rattle.trees.proofs.Sound.{Sound, parent_names}

-- node i is d steps below the root, and r is the row of the edges between
pub data Above (t : Tree) : ℕ → ℕ → Row → Type 0 where
  root : {i : ℕ} → up t i ≡ none → Above t i 0 identity
  step : {i d k : ℕ} {r : Row} → up t i ≡ found k → Above t (k / 3) d r → Above t i (suc d) (join (letter t k) r)

pub reach : (t : Tree) (f i : ℕ) → up t (climb t f i) ≡ none → (d : ℕ) × (d ≤ f) × Above t i d (above t f i)
unfolding climb above
reach t zero i h = (0, omega arith, root h)
reach t (suc f) i h = go (up t i) refl (λ k. reach t f (k / 3)) h
  where
    go : (o : Least) → up t i ≡ o → ((k : ℕ) → up t (climb t f (k / 3)) ≡ none → (d : ℕ) × (d ≤ f) × Above t (k / 3) d (above t f (k / 3)))
        → up t (onward o i (λ k. climb t f (k / 3))) ≡ none → (d : ℕ) × (d ≤ suc f) × Above t i d (onward o identity (λ k. join (letter t k) (above t f (k / 3))))
    go (found k) e rest h = let a = rest k h in (suc a.0, omega arith, step e a.2)
    go none e rest h = (0, omega arith, root e)

pub unique : {t : Tree} {i i' d d' : ℕ} {r r' : Row} → Above t i d r → Above t i' d' r' → i ≡ i' → (d ≡ d') × (r ≡ r')
unique (root e) (root e') s = (refl, refl)
unique (root e) (step e' a') s = ((cc), (cc))
unique (step e a) (root e') s = ((cc), (cc))
unique (step {k = k} e a) (step {k = k'} e' a') s =
    let q : k ≡ k' = cc in
    let u = unique a a' (ap (λ (k : ℕ). k / 3) q) in
    (ap suc u.0, cc)

module _ (t : Tree) (ok : Sound t) where
  letters_same : (k k' : ℕ) → k / 3 ≡ k' / 3 → k ≢ k' → clash (letter t k) (letter t k') ≡ 1
  unfolding letter
  letters_same k k' e ne = rw (← e) (same_column (k % 3) (k' % 3) (2 ^ t.qubit (k / 3)) (omega arith) (omega arith) (omega arith) (dot_own (t.qubit (k / 3))))

  letters_other : (k k' : ℕ) → k / 3 < t.n → k' / 3 < t.n → k / 3 ≢ k' / 3 → clash (letter t k) (letter t k') ≡ 0
  unfolding letter
  letters_other k k' h h' ne = other_column (k % 3) (k' % 3) _ _ (dot_other (t.qubit (k / 3)) (t.qubit (k' / 3)) (λ e. ne (ok.apart (k / 3) (k' / 3) h h' e)))

  -- the edges above a node that is not below node k / 3 are not at its column
  fresh : (k : ℕ) {j d e : ℕ} {r s : Row} → k / 3 < t.n → Above t (k / 3) d r → Above t j e s → e ≤ d → clash (letter t k) s ≡ 0
  fresh k h a (root g) l = clash_identity (letter t k)
  fresh k h a (step {d = e} {k = k'} {r = s} g b) l =
      let p = parent_names t _ _ k' g in
      let far : k / 3 ≢ k' / 3 = λ q. omega (arith, (unique a b q).0) in
      rw (clash_r (letter t k) (letter t k') s, letters_other k k' h (omega arith) far, fresh k h a b (omega arith))

  -- two slots at the same depth
  level : (k k' : ℕ) {d d' : ℕ} {r r' : Row} → k ≢ k' → k < 3 * t.n → k' < 3 * t.n → Above t (k / 3) d r → Above t (k' / 3) d' r' → d ≡ d'
      → (k / 3 ≢ k' / 3 → clash r r' ≡ 1) → clash (join (letter t k) r) (join (letter t k') r') ≡ 1
  level k k' {r = r} {r' = r'} ne h h' a a' e rest =
      rw (
        clash_l (letter t k) r (join (letter t k') r'),
        clash_r (letter t k) (letter t k') r',
        clash_r r (letter t k') r',
        fresh k (omega arith) a a' (omega arith),
        clash_comm r (letter t k'),
        fresh k' (omega arith) a' a (omega arith),
      )
      (go (ℕ_discrete (k / 3) (k' / 3)))
    where
      go : Dec (k / 3 ≡ k' / 3) → ((clash (letter t k) (letter t k') + 0) % 2 + (0 + clash r r') % 2) % 2 ≡ 1
      go (yes q) = rw (letters_same k k' q ne, (unique a a' q).1, clash_self r')
      go (no q) = rw (letters_other k k' (omega arith) (omega arith) q, rest q)

  -- the root is one
  stays : (f i : ℕ) → up t i ≡ none → climb t f i ≡ i
  unfolding climb
  stays zero i h = refl
  stays (suc f) i h = rw h

  one_root : (i i' : ℕ) → i < t.n → i' < t.n → up t i ≡ none → up t i' ≡ none → i ≡ i'
  one_root i i' h h' e e' = sym (stays t.n i e) ∙ ok.hangs i h ∙ sym (ok.hangs i' h') ∙ stays t.n i' e'

  -- the edges above two different nodes at the same depth
  inner : {i i' d d' : ℕ} {r r' : Row} → Above t i d r → Above t i' d' r' → d ≡ d' → i < t.n → i' < t.n → i ≢ i' → clash r r' ≡ 1
  inner {i = i} {i' = i'} (root e) (root e') q h h' ne = absurd (ne (one_root i i' h h' e e'))
  inner (root e) (step e' a') q h h' ne = absurd (omega arith)
  inner (step e a) (root e') q h h' ne = absurd (omega arith)
  inner {i = i} {i' = i'} (step {k = k} e a) (step {k = k'} e' a') q h h' ne =
      let p = parent_names t _ _ k e in
      let p' = parent_names t _ _ k' e' in
      let far : k ≢ k' = λ s. ne (cc (p.1, p'.1)) in
      level k k' far p.0 p'.0 a a' (omega arith) (λ ne. inner a a' (omega arith) (omega arith) (omega arith) ne)

  flat : (k k' : ℕ) {d d' : ℕ} {r r' : Row} → k ≢ k' → k < 3 * t.n → k' < 3 * t.n → Above t (k / 3) d r → Above t (k' / 3) d' r' → d ≡ d'
      → clash (join (letter t k) r) (join (letter t k') r') ≡ 1
  flat k k' ne h h' a a' q = level k k' ne h h' a a' q (λ far. inner a a' q (omega arith) (omega arith) far)

  -- two slots, of which the first names no node and is not below the second
  lower : (k k' : ℕ) {d i d' : ℕ} {r r' : Row} → k ≢ k' → k < 3 * t.n → k' < 3 * t.n → node_of (t.child k) ≡ none
      → Above t (k / 3) d r → Above t i d' r' → i ≡ k' / 3 → d ≤ d' → clash (join (letter t k) r) (join (letter t k') r') ≡ 1
  lower k k' ne h h' free a (root e) s l =
      let below : Above t (k' / 3) 0 identity = rw (← s) (root e) in
      flat k k' ne h h' a below (omega arith)
  lower k k' {d = d} {i = i} {r = r} ne h h' free a (step {d = d'} {k = k''} {r = r'} e b) s l =
      let p = parent_names t _ _ k'' e in
      let below : Above t (k' / 3) (suc d') (join (letter t k'') r') = rw (← s) (step e b) in
      go p.0 p.1 below (λ far l'. lower k k'' far h p.0 free a b refl l') (ℕ_discrete d (suc d'))
    where
      go : k'' < 3 * t.n → Names t k'' i → Above t (k' / 3) (suc d') (join (letter t k'') r')
          → (k ≢ k'' → d ≤ d' → clash (join (letter t k) r) (join (letter t k'') r') ≡ 1) → Dec (d ≡ suc d')
          → clash (join (letter t k) r) (join (letter t k') (join (letter t k'') r')) ≡ 1
      go g nm below rest (yes q) = flat k k' ne h h' a below q
      go g nm below rest (no q) =
          let far : k ≢ k'' = λ s. let z : ◌≡◌ {A = ℕ} 0 1 = cc in omega arith in
          rw (
            clash_r (join (letter t k) r) (letter t k') (join (letter t k'') r'),
            rest far (omega arith),
            clash_l (letter t k) r (letter t k'),
            letters_other k k' (omega arith) (omega arith) (λ s. q (unique a below s).0),
            clash_comm r (letter t k'),
            fresh k' (omega arith) below a (omega arith),
          )

  -- every slot has its row
  pub slot_row : (k : ℕ) → k < 3 * t.n → (d : ℕ) × (d ≤ t.n) × Above t (k / 3) d (above t t.n (k / 3))
  slot_row k h = reach t t.n (k / 3) (rw (ok.hangs (k / 3) (omega arith)) ok.parentless)

  pub slots_anticommute : (k k' : ℕ) → k < 3 * t.n → k' < 3 * t.n → node_of (t.child k) ≡ none → node_of (t.child k') ≡ none → k ≢ k'
      → clash (row_at t k) (row_at t k') ≡ 1
  unfolding row_at
  slots_anticommute k k' h h' free free' ne = go (slot_row k h) (slot_row k' h')
    where
      go : (d : ℕ) × (d ≤ t.n) × Above t (k / 3) d (above t t.n (k / 3)) → (d : ℕ) × (d ≤ t.n) × Above t (k' / 3) d (above t t.n (k' / 3))
          → clash (join (letter t k) (above t t.n (k / 3))) (join (letter t k') (above t t.n (k' / 3))) ≡ 1
      go a a' = by (dec_le a.0 a'.0)
        where
          by : Dec (a.0 ≤ a'.0) → clash (join (letter t k) (above t t.n (k / 3))) (join (letter t k') (above t t.n (k' / 3))) ≡ 1
          by (yes l) = lower k k' ne h h' free a.2 a'.2 refl l
          by (no l) = clash_comm (join (letter t k) (above t t.n (k / 3))) (join (letter t k') (above t t.n (k' / 3)))
              ∙ lower k' k (λ e. ne (sym e)) h' h free' a'.2 a.2 refl (omega arith)
