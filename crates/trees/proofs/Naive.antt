-- A naive tree that passes 7, 5, 6 and 8 has rows that anticommute and meet the vacuum rule at zero: its leaves end Z chains, and down a chain the x part and the
-- phase stay. The Z chain of the root ends empty: no other chain meets it.
use Prim.Native.Nat.{ℕ, zero, suc, ◌+◌, ◌-◌, ◌*◌, ◌/◌, ◌%◌, ◌^◌, ◌<◌, ◌≤◌}
use native.Mathlib.Omega.{arith}
use mathlib.Core.Path.{◌≡◌, refl, ap, ◌∙◌, sym}
use mathlib.Core.Logic.{◌≢◌}
use mathlib.Core.Bool.{true, false}
use lib.Bits.{bit_xor, xor_zero_l}
use borrow.Author.Tests.{eq-eqb}
use Rattle.refusal.specs.Search.{Least, found, none}
use Rattle.refusal.proofs.Bools.{both}
use Rattle.refusal.proofs.Searches.{all_of}
use Rattle.algebra.specs.Rows.{Row}
use Rattle.algebra.specs.Modes.{lo, hi, e, d, paired, empty, vacuum_rule, Majorana}
use Rattle.algebra.proofs.Dots.{dot_zero_r}
use Rattle.trees.specs.Trees.{onward, node_of, Tree, up, Names, Closed}
use Rattle.trees.specs.Paths.{join, letter, above, row_at}
use Rattle.trees.specs.Leaves.{z_end, chain_end, naive_slot, slot_of, EndsEmpty, rows}
use Rattle.trees.proofs.Sound.{Sound, parent_names, named_parent}
use Rattle.trees.proofs.Above.{Above, root, step, unique, slot_row, slots_anticommute}
use Rattle.trees.proofs.OneRoot.{steps_few}

-- slot k is reached from slot s by Z alone
data Chain (t : Tree) (s : ℕ) : ℕ → Type 0 where
  start : {k : ℕ} → s ≡ k → Chain t s k
  down : {k j k' : ℕ} → Chain t s k → Names t k j → k' ≡ 3 * j + 2 → Chain t s k'

chain_end_lem : (t : Tree) (s f j k : ℕ) → Chain t s k → Names t k j → Chain t s (z_end t f j)
unfolding z_end
chain_end_lem t s zero j k c h = down c h refl
chain_end_lem t s (suc f) j k c h = go (node_of (t.child (3 * j + 2))) refl (λ i g. chain_end_lem t s f i (3 * j + 2) (down c h refl) g)
  where
    go : (o : Least) → node_of (t.child (3 * j + 2)) ≡ o → ((i : ℕ) → Names t (3 * j + 2) i → Chain t s (z_end t f i)) → Chain t s (onward o (3 * j + 2) (λ i. z_end t f i))
    go (found i) e rest = rest i e
    go none e rest = down c h refl

chain_all : (t : Tree) (s : ℕ) → Chain t s (chain_end t s)
unfolding chain_end
chain_all t s = go (node_of (t.child s)) refl
  where
    go : (o : Least) → node_of (t.child s) ≡ o → Chain t s (onward o s (λ j. z_end t t.n j))
    go (found j) e = chain_end_lem t s t.n j s (start refl) e
    go none e = start refl

module _ (t : Tree) (ok : Sound t) (closed : Closed t) where
  chain_low : {s k : ℕ} → s < 3 * t.n → Chain t s k → k < 3 * t.n
  unfolding Closed
  chain_low h (start e) = omega arith
  chain_low h (down {k = k} {j = j} c g e) = omega (arith, closed k j g)

  -- two chains from slots that are not Z do not meet
  chain_apart : {s s' k k' : ℕ} → s < 3 * t.n → s' < 3 * t.n → s % 3 ≢ 2 → s' % 3 ≢ 2 → Chain t s k → Chain t s' k' → k ≡ k' → s ≡ s'
  chain_apart l l' h h' (start e) (start e') q = omega arith
  chain_apart l l' h h' (start e) (down c g e') q = absurd (omega arith)
  chain_apart l l' h h' (down c g e) (start e') q = absurd (omega arith)
  chain_apart l l' h h' (down {k = k} {j = j} c g e) (down {k = k'} {j = j'} c' g' e') q =
      let same : j ≡ j' = omega arith in
      chain_apart l l' h h' c c' (ok.once k k' j' (chain_low l c) (chain_low l' c') (rw same at g) g')

  -- the slot that names node j is its parent
  parent : (k j : ℕ) → k < 3 * t.n → Names t k j → up t j ≡ found k
  parent k j h g = go (up t j) refl
    where
      go : (o : Least) → up t j ≡ o → up t j ≡ found k
      go (found k') e = let p = parent_names t _ _ k' e in e ∙ ap found (ok.once k' k j p.0 h p.1 g)
      go none e = absurd (named_parent t _ j k e h g)

  -- a Z letter has no x part and no quarter turn
  z_letter : (k j : ℕ) → k ≡ 3 * j + 2 → ((letter t k).x ≡ 0) × ((letter t k).p ≡ 0)
  unfolding letter
  z_letter k j e = let l : k % 3 ≡ 2 = omega arith in ((rw l), (rw l))

  -- the edges above the node that slot k names
  under : {k j d : ℕ} {r : Row} → k < 3 * t.n → Names t k j → Above t (k / 3) d r → (i : ℕ) → i ≡ j → Above t i (suc d) (join (letter t k) r)
  under {k = k} {j = j} h g a i e = rw e (step (parent k j h g) a)

  -- down a chain the x part and the phase stay
  chain_row : {s k d : ℕ} {r : Row} → s < 3 * t.n → Chain t s k → Above t (s / 3) d r
      → (d' : ℕ) × (r' : Row) × Above t (k / 3) d' r' × ((join (letter t k) r').x ≡ (join (letter t s) r).x) × ((join (letter t k) r').p ≡ (join (letter t s) r).p)
  chain_row {s = s} {d = d} {r = r} h (start e) a = (d, r, rw e at a, (rw e), (rw e))
  chain_row {s = s} h (down {k = k} {j = j} {k' = k'} c g e) a =
      let (d, r, b, x, p) = chain_row h c a in
      let l = z_letter k' j e in
      (suc d, join (letter t k) r, under (chain_low h c) g b (k' / 3) (omega arith), rw (l.0, xor_zero_l (bit_xor (letter t k).x r.x)) x, rw l.1 (omega (arith, p)))

  -- a chain ends in a slot that names no node
  ends : (f j : ℕ) {d : ℕ} {r : Row} → j < t.n → Above t j d r → t.n ≤ d + f → node_of (t.child (z_end t f j)) ≡ none
  unfolding z_end Closed
  ends zero j h a l = absurd (omega (arith, steps_few t h a))
  ends (suc f) j {d = d} {r = r} h a l = go (node_of (t.child (3 * j + 2))) refl (λ i b g. ends f i b g (omega arith))
    where
      go : (o : Least) → node_of (t.child (3 * j + 2)) ≡ o
          → ((i : ℕ) → i < t.n → Above t i (suc d) (join (letter t (3 * j + 2)) r) → node_of (t.child (z_end t f i)) ≡ none)
          → node_of (t.child (onward o (3 * j + 2) (λ i. z_end t f i))) ≡ none
      go (found i) e rest =
          let here_j : (3 * j + 2) / 3 ≡ j = omega arith in
          let up_j : Above t ((3 * j + 2) / 3) d r = rw here_j a in
          rest i (closed (3 * j + 2) i e) (under (omega arith) e up_j i refl)
      go none e rest = e

  chain_leaf : (s : ℕ) → s < 3 * t.n → node_of (t.child (chain_end t s)) ≡ none
  unfolding chain_end Closed
  chain_leaf s h = go (node_of (t.child s)) refl
    where
      go : (o : Least) → node_of (t.child s) ≡ o → node_of (t.child (onward o s (λ j. z_end t t.n j))) ≡ none
      go (found j) e = ends t.n j (closed s j e) (under h e (slot_row t ok s h).2 j refl) (omega arith)
      go none e = e

  -- the row at the end of a chain, from the row of its start
  end_row : (s : ℕ) → s < 3 * t.n → ((row_at t (chain_end t s)).x ≡ (row_at t s).x) × ((row_at t (chain_end t s)).p ≡ (row_at t s).p)
  unfolding row_at
  end_row s h =
      let c = chain_all t s in
      let (d, r, b, x, p) = chain_row h c (slot_row t ok s h).2 in
      let same = (unique (slot_row t ok (chain_end t s) (chain_low h c)).2 b refl).1 in
      (rw same x, rw same p)

  -- the slot of a leaf is one of the tree's
  pub naive_low : (m : ℕ) → m < 2 * t.n → slot_of false t m < 3 * t.n
  unfolding slot_of
  naive_low m h = let l : 3 * (m / 2) + m % 2 < 3 * t.n = omega arith in chain_low l (chain_all t (3 * (m / 2) + m % 2))

  pub naive_anticommute : Majorana (rows false t)
  unfolding Majorana slot_of
  naive_anticommute j k hj hk ne =
      let s = 3 * (j / 2) + j % 2 in
      let s' = 3 * (k / 2) + k % 2 in
      let h : s < 3 * t.n = omega arith in
      let h' : s' < 3 * t.n = omega arith in
      slots_anticommute t ok (naive_slot t j) (naive_slot t k) (chain_low h (chain_all t s)) (chain_low h' (chain_all t s')) (chain_leaf s h) (chain_leaf s' h')
      (λ e. absurd (apart j k ne (chain_apart h h' (omega arith) (omega arith) (chain_all t s) (chain_all t s') e)))
    where
      apart : (j k : ℕ) → j ≢ k → 3 * (j / 2) + j % 2 ≡ 3 * (k / 2) + k % 2 → ⊥
      apart j k ne e = omega arith

  -- ---- the root's chain

  -- a chain from a slot that is not Z does not meet that of a node that stands in no slot
  root_apart : {s r k k' : ℕ} → s < 3 * t.n → s % 3 ≢ 2 → r < t.n → up t r ≡ none → Chain t s k → Chain t (3 * r + 2) k' → k ≢ k'
  root_apart l h n top (start e) (start e') q = omega arith
  root_apart l h n top (start e) (down c g e') q = omega arith
  root_apart {r = r} l h n top (down {k = k} {j = j} c g e) (start e') q =
      let same : j ≡ r = omega arith in
      named_parent t _ r k top (chain_low l c) (rw same at g)
  root_apart {r = r} l h n top (down {k = k} {j = j} c g e) (down {k = k'} {j = j'} c' g' e') q =
      let same : j ≡ j' = omega arith in
      let low : 3 * r + 2 < 3 * t.n = omega arith in
      root_apart l h n top c c' (ok.once k k' j' (chain_low l c) (chain_low low c') (rw same at g) g')

  chain_from : (r f : ℕ) → Chain t (3 * r + 2) (z_end t f r)
  unfolding z_end
  chain_from r zero = start refl
  chain_from r (suc f) = go (node_of (t.child (3 * r + 2))) refl
    where
      go : (o : Least) → node_of (t.child (3 * r + 2)) ≡ o → Chain t (3 * r + 2) (onward o (3 * r + 2) (λ i. z_end t f i))
      go (found i) e = chain_end_lem t (3 * r + 2) f i (3 * r + 2) (start refl) e
      go none e = start refl

  pub root_ends_empty : (r : ℕ) → r < t.n → up t r ≡ none → EndsEmpty t r
  unfolding slot_of
  root_ends_empty r n top =
      let low : 3 * r + 2 < 3 * t.n = omega arith in
      record {
        slot = chain_low low (chain_from r t.n);
        no_node = ends t.n r n (root top) (omega arith);
        no_leaf = λ m h. let l : 3 * (m / 2) + m % 2 < 3 * t.n = omega arith in root_apart l (omega arith) n top (chain_all t (3 * (m / 2) + m % 2)) (chain_from r t.n);
      }

  -- ---- the vacuum

  x_row : (i : ℕ) → ((row_at t (3 * i)).x ≡ bit_xor (2 ^ t.qubit i) (above t t.n i).x) × ((row_at t (3 * i)).p ≡ (0 + (above t t.n i).p) % 4)
  unfolding row_at letter
  x_row i =
      let n : 3 * i / 3 ≡ i = omega arith in
      let l : 3 * i % 3 ≡ 0 = omega arith in
      (rw (n, l), rw (n, l))

  y_row : (i : ℕ) → ((row_at t (3 * i + 1)).x ≡ bit_xor (2 ^ t.qubit i) (above t t.n i).x) × ((row_at t (3 * i + 1)).p ≡ (1 + (above t t.n i).p) % 4)
  unfolding row_at letter
  y_row i =
      let n : (3 * i + 1) / 3 ≡ i = omega arith in
      let l : (3 * i + 1) % 3 ≡ 1 = omega arith in
      (rw (n, l), rw (n, l))

  lo_row : (i : ℕ) → i < t.n → ((lo (rows false t) i).x ≡ bit_xor (2 ^ t.qubit i) (above t t.n i).x) × ((lo (rows false t) i).p ≡ (0 + (above t t.n i).p) % 4)
  unfolding slot_of
  lo_row i h =
      let s : 3 * (2 * i / 2) + 2 * i % 2 ≡ 3 * i = omega arith in
      let q = end_row (3 * i) (omega arith) in
      let r = x_row i in
      (rw s (q.0 ∙ r.0), rw s (q.1 ∙ r.1))

  hi_row : (i : ℕ) → i < t.n → ((hi (rows false t) i).x ≡ bit_xor (2 ^ t.qubit i) (above t t.n i).x) × ((hi (rows false t) i).p ≡ (1 + (above t t.n i).p) % 4)
  unfolding slot_of
  hi_row i h =
      let s : 3 * ((2 * i + 1) / 2) + (2 * i + 1) % 2 ≡ 3 * i + 1 = omega arith in
      let q = end_row (3 * i + 1) (omega arith) in
      let r = y_row i in
      (rw s (q.0 ∙ r.0), rw s (q.1 ∙ r.1))

  turns : (p : ℕ) → ((1 + p) % 4 + 4 - (0 + p) % 4 + 3) % 4 ≡ 0
  turns p = omega arith

  no_turns : (i : ℕ) → i < t.n → d (rows false t) i ≡ 0
  unfolding d
  no_turns i h = rw ((lo_row i h).1, (hi_row i h).1, turns (above t t.n i).p)

  pub naive_vacuum : vacuum_rule (rows false t) 0 ≡ true
  unfolding vacuum_rule empty paired
  naive_vacuum = all_of t.n _ (λ i h. both (both (eq-eqb _ _ ((lo_row i h).0 ∙ sym (hi_row i h).0)) (rw (no_turns i h))) (rw (no_turns i h, dot_zero_r (e (rows false t) i))))
