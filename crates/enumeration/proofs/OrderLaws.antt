-- A map that passes the test, step by step, and where the rows of the new order lie. By induction on the number of rows.
use Prim.Native.Nat.{ℕ, zero, suc, ◌+◌, ◌-◌, ◌*◌, ◌/◌, ◌%◌, ◌≤◌, ◌<◌}
use native.Mathlib.Nat.{add-mul, one-mul, mul-one, min-eq_left}
use native.Mathlib.Numerals.{add-one}
use native.Mathlib.Decide.{ℕ_discrete}
use native.Mathlib.Omega.{arith}
use mathlib.Core.Path.{◌≡◌, refl, sym, ap, ◌∙◌}
use mathlib.Core.Logic.{◌≢◌}
use mathlib.Core.List.{List, [], ◌∷◌, ◌++◌, append_assoc}
use mathlib.Core.Bool.{Bool, true, false, not, ◌&&◌, ◌||◌}
use borrow.Author.Tests.{eq-eqb, ne_eqb, lt-ltb, le-ltb, ltb-true, not-true}
use lib.Dec.{eqb, ltb}
use borrow.Rule.Slice.PartMut.{put_mid}
use Rattle.std.proofs.lemmas.List.{length-replicate, get_or-replicate, get_or-set_same, get_or-set_other}
use lib.ListN.{length, get_or, take, drop, set, replicate, length-append, length-set, length-take, length-drop}
use lib.Seq.{take-add, drop-cons, take_at, drop_at, drop-drop, get_or-take, get_or-drop}
use Rattle.refusal.specs.Search.{some_below, all_below}
use Rattle.refusal.proofs.Bools.{and_left, and_right, both, never}
use Rattle.refusal.proofs.Searches.{some_of, all_at, not_all}
use Rattle.dense_block.specs.Words.{term_of}
use Rattle.dense_block.proofs.Terms.{length_term, row_within}
use Rattle.majorana.specs.Sets.{row_at}
use Rattle.majorana.specs.Held.{Fits}
use Rattle.enumeration.specs.Orders.{among, new_number, permutation, old_row, joined, enumerated_words, enumerated_phases, enumerated_blocks}
use Rattle.enumeration.specs.Lent.{Maps}

-- ---- the map

module _ (n : ℕ) (ms : List ℕ) where
  pub number_high : (i : ℕ) → n ≤ get_or ms i 0 → new_number n ms i ≡ false
  unfolding new_number
  number_high i h = rw (le-ltb (get_or ms i 0) n h)

  pub number_again : (i : ℕ) → among i ms (get_or ms i 0) ≡ true → new_number n ms i ≡ false
  unfolding new_number
  number_again i h = rw h (and_false (ltb (get_or ms i 0) n))
    where
      and_false : (b : Bool) → (b && false) ≡ false
      and_false true = refl
      and_false false = refl

  pub number_new : (i : ℕ) → get_or ms i 0 < n → among i ms (get_or ms i 0) ≡ false → new_number n ms i ≡ true
  unfolding new_number
  number_new i h k = rw (lt-ltb (get_or ms i 0) n h, k)

  -- one number that is not new decides
  pub no_permutation : (i : ℕ) → i < n → new_number n ms i ≡ false → permutation n ms ≡ false
  unfolding permutation
  no_permutation i h k = not_all n (new_number n ms) i h k

  pub passed_none : all_below 0 (new_number n ms) ≡ true
  unfolding all_below
  passed_none = refl

  pub passed_one : (i : ℕ) → all_below i (new_number n ms) ≡ true → new_number n ms i ≡ true → all_below (i + 1) (new_number n ms) ≡ true
  unfolding all_below
  passed_one i h k = rw add-one (both k h)

  pub passed_all : all_below n (new_number n ms) ≡ true → permutation n ms ≡ true
  unfolding permutation
  passed_all h = h

  module _ (h : permutation n ms ≡ true) where
    each : (i : ℕ) → i < n → new_number n ms i ≡ true
    unfolding permutation
    each = all_at n (new_number n ms) h

    -- each number is below n
    pub number_below : (i : ℕ) → i < n → get_or ms i 0 < n
    unfolding new_number
    number_below i l = ltb-true (get_or ms i 0) n (and_left (ltb (get_or ms i 0) n) (not (among i ms (get_or ms i 0))) (each i l))

    -- no two are equal
    pub numbers_differ : (i j : ℕ) → i < n → j < i → get_or ms j 0 ≢ get_or ms i 0
    unfolding new_number among
    numbers_differ i j l k e =
        never (some_of i (λ j. eqb (get_or ms j 0) (get_or ms i 0)) j k (eq-eqb (get_or ms j 0) (get_or ms i 0) e))
        (not-true (among i ms (get_or ms i 0)) (and_right (ltb (get_or ms i 0) n) (not (among i ms (get_or ms i 0))) (each i l)))

    pub maps_of : n ≤ 256 → n ≤ length ms → Maps n ms
    maps_of a b = record { few = a; long = b; within = number_below }

-- ---- the marks: k is marked if it is among the numbers passed

abbrev pub Marked : ℕ → List ℕ → List Bool → Type 0
Marked i ms met = (length met ≡ 256) × ((k : ℕ) → k < 256 → get_or met k false ≡ among i ms k)

pub marked_none : (ms : List ℕ) → Marked 0 ms (replicate 256 false)
unfolding among some_below
marked_none ms = (length-replicate 256 false, λ k l. get_or-replicate 256 k false false l)

pub marked_one : (ms : List ℕ) (met : List Bool) (i : ℕ) → get_or ms i 0 < 256 → Marked i ms met → Marked (i + 1) ms (set met (get_or ms i 0) true)
unfolding among some_below
marked_one ms met i h m = (length-set met (get_or ms i 0) true ∙ m.0, λ k l. rw add-one (go k l (ℕ_discrete k (get_or ms i 0))))
  where
    go : (k : ℕ) → k < 256 → Dec (k ≡ get_or ms i 0) → get_or (set met (get_or ms i 0) true) k false ≡ (eqb (get_or ms i 0) k || some_below i (λ j. eqb (get_or ms j 0) k))
    go k l (yes e) = rw (e, get_or-set_same met (get_or ms i 0) true false (omega (arith, h, m.0)), eq-eqb (get_or ms i 0) (get_or ms i 0) refl)
    go k l (no e) = rw (get_or-set_other met (get_or ms i 0) k true false e, ne_eqb (get_or ms i 0) k (λ g. e (sym g))) (m.1 k l)

-- ---- blocks joined

module _ {A : Type 0} (w : ℕ) (f : ℕ → List A) where
  pub length_joined : (n : ℕ) → ((k : ℕ) → k < n → length (f k) ≡ w) → length (joined n f) ≡ n * w
  length_joined zero h = omega arith
  length_joined (suc n) h =
      let ih = length_joined n (λ k l. h k (omega arith)) in
      rw (length-append, ih, h n (omega arith)) (omega (arith, add-mul n 1 w, one-mul w))

  -- block k of n blocks, whatever stands behind them
  pub block_joined : (n : ℕ) → ((k : ℕ) → k < n → length (f k) ≡ w) → (k : ℕ) → k < n → (rest : List A) → take w (drop (k * w) (joined n f ++ rest)) ≡ f k
  block_joined zero h k l rest = absurd (omega arith)
  block_joined (suc n) h k l rest = go (ℕ_discrete k n) (block_joined n (λ k l. h k (omega arith)) k)
    where
      len : length (joined n f) ≡ n * w
      len = length_joined n (λ k l. h k (omega arith))

      go : Dec (k ≡ n) → (k < n → (rest : List A) → take w (drop (k * w) (joined n f ++ rest)) ≡ f k) → take w (drop (k * w) ((joined n f ++ f n) ++ rest)) ≡ f k
      go (yes e) before = rw (e, append_assoc, drop_at (joined n f) (f n ++ rest) (n * w) len) (take_at (f n) rest w (h n (omega arith)))
      go (no e) before = rw append_assoc (before (omega (arith, e)) (f n ++ rest))

-- the same blocks, joined
pub joined_same : {A : Type 0} (n : ℕ) (f g : ℕ → List A) → ((k : ℕ) → k < n → f k ≡ g k) → joined n f ≡ joined n g
joined_same zero f g h = refl
joined_same (suc n) f g h = rw (h n (omega arith), joined_same n f g (λ k l. h k (omega arith)))

-- blocks in pairs
pub joined_pairs : {A : Type 0} (n : ℕ) (f g : ℕ → List A) → ((i : ℕ) → i < n → f i ≡ g (2 * i) ++ g (2 * i + 1)) → joined n f ≡ joined (2 * n) g
joined_pairs zero f g h = refl
joined_pairs (suc n) f g h =
    let e : 2 * suc n ≡ suc (suc (2 * n)) = omega arith in
    rw (e, h n (omega arith), joined_pairs n f g (λ i l. h i (omega arith)), append_assoc, add-one)

-- a block written behind those so far
module _ {A : Type 0} (f : ℕ → List A) (i w : ℕ) (out first new : List A) (len : length (joined i f) ≡ i * w) (h : out ≡ joined i f ++ drop (i * w) first) where
  pub next_block : new ≡ f i → put_mid (i * w) (i * w + w - i * w) out new ≡ joined (i + 1) f ++ drop ((i + 1) * w) first
  next_block e =
      let k : i * w + w - i * w ≡ w = omega arith in
      let n : suc i * w ≡ i * w + w = omega (arith, add-mul i 1 w, one-mul w) in
      rw (k, e, h, take_at (joined i f) (drop (i * w) first) (i * w) len, drop_at (joined i f) (drop (i * w) first) (i * w) len, drop-drop w (i * w) first, add-one, n, append_assoc)

-- ---- the rows of the new order

module _ (ms : List ℕ) (i : ℕ) where
  pub old_row_even : old_row ms (2 * i) ≡ 2 * get_or ms i 0
  old_row_even = let e : 2 * i / 2 ≡ i = omega arith in ap (λ (k : ℕ). 2 * get_or ms k 0 + 2 * i % 2) e ∙ omega arith

  pub old_row_odd : old_row ms (2 * i + 1) ≡ 2 * get_or ms i 0 + 1
  old_row_odd = let e : (2 * i + 1) / 2 ≡ i = omega arith in ap (λ (k : ℕ). 2 * get_or ms k 0 + (2 * i + 1) % 2) e ∙ omega arith

module _ {n : ℕ} {ms : List ℕ} (maps : Maps n ms) (k : ℕ) (low : k < 2 * n) where
  pub old_row_low : old_row ms k < 2 * n
  old_row_low = omega (arith, maps.within (k / 2) (omega arith))

module _ (n w : ℕ) (ms : List ℕ) (maps : Maps n ms) (xs : List ℕ) (long : 2 * n * w ≤ length xs) where
  pub old_row_within : (k : ℕ) → k < 2 * n → old_row ms k * w + w ≤ length xs
  old_row_within k low = row_within (old_row ms k) (2 * n) w (length xs) (old_row_low maps k low) long

  length_old : (k : ℕ) → k < 2 * n → length (term_of w xs (old_row ms k)) ≡ w
  length_old k low = length_term w xs (old_row ms k) (old_row_within k low)

  -- the first rows of them
  pub length_first : (k : ℕ) → k ≤ 2 * n → length (joined k (λ j. term_of w xs (old_row ms j))) ≡ k * w
  length_first k l = length_joined w (λ j. term_of w xs (old_row ms j)) k (λ j h. length_old j (omega arith))

  pub length_enumerated : length (enumerated_words w n ms xs) ≡ 2 * n * w
  unfolding enumerated_words
  length_enumerated = length_first (2 * n) (omega arith)

  pub term_enumerated : (k : ℕ) → k < 2 * n → (rest : List ℕ) → term_of w (enumerated_words w n ms xs ++ rest) k ≡ term_of w xs (old_row ms k)
  unfolding enumerated_words
  term_enumerated k low rest = block_joined w (λ k. term_of w xs (old_row ms k)) (2 * n) length_old k low rest

module _ (n : ℕ) (ms ps : List ℕ) where
  pub length_phases : length (enumerated_phases n ms ps) ≡ 2 * n
  unfolding enumerated_phases
  length_phases = length_joined 1 (λ k. get_or ps (old_row ms k) 0 ∷ []) (2 * n) (λ k l. refl) ∙ mul-one (2 * n)

  pub phase_enumerated : (k : ℕ) → k < 2 * n → (rest : List ℕ) → get_or (enumerated_phases n ms ps ++ rest) k 0 ≡ get_or ps (old_row ms k) 0
  unfolding enumerated_phases
  phase_enumerated k low rest =
      let l = joined (2 * n) (λ k. get_or ps (old_row ms k) 0 ∷ []) ++ rest in
      let e : k * 1 + 0 ≡ k = omega arith in
      let one : get_or (term_of 1 l k) 0 0 ≡ get_or l k 0 = get_or-take 1 (drop (k * 1) l) 0 0 (omega arith) ∙ get_or-drop (k * 1) l 0 0 ∙ ap (λ (i : ℕ). get_or l i 0) e in
      sym one ∙ ap (λ (r : List ℕ). get_or r 0 0) (block_joined 1 (λ k. get_or ps (old_row ms k) 0 ∷ []) (2 * n) (λ k low. refl) k low rest)

-- ---- the blocks that are written

module _ {n : ℕ} {ms : List ℕ} (maps : Maps n ms) (size : ℕ) where
  -- block i, and the one that it is
  pub blocks_within : (i : ℕ) → i < n → (get_or ms i 0 * size + size ≤ n * size) × (i * size + size ≤ n * size)
  blocks_within i l = (row_within (get_or ms i 0) n size (n * size) (maps.within i l) (omega arith), row_within i n size (n * size) l (omega arith))

  -- the first blocks of them
  pub length_blocks : {A : Type 0} (xs : List A) → n * size ≤ length xs → (i : ℕ) → i ≤ n → length (enumerated_blocks size i ms xs) ≡ i * size
  length_blocks xs long i l = length_joined size (λ j. take size (drop (get_or ms j 0 * size) xs)) i (λ j h. one j (omega arith))
    where
      one : (j : ℕ) → j < n → length (take size (drop (get_or ms j 0 * size) xs)) ≡ size
      one j h = rw (length-take, length-drop) (min-eq_left (omega (arith, (blocks_within j h).0)))

-- the words of a mode are those of its two rows
module _ (n w : ℕ) (ms xs : List ℕ) where
  blocks_words : enumerated_blocks (2 * w) n ms xs ≡ enumerated_words w n ms xs
  unfolding enumerated_words
  blocks_words = joined_pairs n _ (λ k. term_of w xs (old_row ms k)) (λ i l. rw (old_row_even ms i, old_row_odd ms i) (two_rows (get_or ms i 0)))
    where
      two_rows : (m : ℕ) → take (2 * w) (drop (m * (2 * w)) xs) ≡ take w (drop (2 * m * w) xs) ++ take w (drop ((2 * m + 1) * w) xs)
      two_rows m =
          let a : m * (2 * w) ≡ 2 * m * w = omega arith in
          let b : 2 * w ≡ w + w = omega arith in
          let c : (2 * m + 1) * w ≡ 2 * m * w + w = omega (arith, add-mul (2 * m) 1 w, one-mul w) in
          rw (a, b, take-add w w (drop (2 * m * w) xs), drop-drop w (2 * m * w) xs, c)

  pub words_written : (old : List ℕ) {new : List ℕ} → new ≡ enumerated_blocks (2 * w) n ms xs ++ drop (n * (2 * w)) old → new ≡ enumerated_words w n ms xs ++ drop (2 * n * w) old
  words_written old e =
      let a : n * (2 * w) ≡ 2 * n * w = omega arith in
      e ∙ ap (λ (l : List ℕ). l ++ drop (n * (2 * w)) old) blocks_words ∙ ap (λ (k : ℕ). enumerated_words w n ms xs ++ drop k old) a

-- and so are its phases
module _ (n : ℕ) (ms ps : List ℕ) (maps : Maps n ms) (long : 2 * n ≤ length ps) where
  blocks_phases : enumerated_blocks 2 n ms ps ≡ enumerated_phases n ms ps
  unfolding enumerated_words enumerated_phases
  blocks_phases =
      blocks_words n 1 ms ps
      ∙ joined_same (2 * n) (λ k. term_of 1 ps (old_row ms k)) (λ k. get_or ps (old_row ms k) 0 ∷ []) (λ k l. one (old_row ms k) (omega (arith, old_row_low maps k l, long)))
    where
      one : (r : ℕ) → r < length ps → take 1 (drop (r * 1) ps) ≡ get_or ps r 0 ∷ []
      one r l = rw (mul-one r, drop-cons ps r 0)

  pub phases_written : (old : List ℕ) {new : List ℕ} → new ≡ enumerated_blocks 2 n ms ps ++ drop (n * 2) old → new ≡ enumerated_phases n ms ps ++ drop (2 * n) old
  phases_written old e =
      let a : n * 2 ≡ 2 * n = omega arith in
      e ∙ ap (λ (l : List ℕ). l ++ drop (n * 2) old) blocks_phases ∙ ap (λ (k : ℕ). enumerated_phases n ms ps ++ drop k old) a

-- new row k is the old row
module _ {n w : ℕ} {ms xs zs ps : List ℕ} (maps : Maps n ms) (fits : Fits n w xs zs ps) where
  pub row_enumerated : (k : ℕ) → k < 2 * n → (restx restz restp : List ℕ)
      → row_at w (enumerated_words w n ms xs ++ restx) (enumerated_words w n ms zs ++ restz) (enumerated_phases n ms ps ++ restp) k ≡ row_at w xs zs ps (old_row ms k)
  row_enumerated k low restx restz restp =
      rw (term_enumerated n w ms maps xs fits.x_rows k low restx, term_enumerated n w ms maps zs fits.z_rows k low restz, phase_enumerated n ms ps k low restp)
