-- A permutation meets every number below n: as many numbers, all below n and no two equal, leave none out. By induction on n, with the last number put in the place of n.
use Prim.Native.Nat.{ℕ, zero, suc, ◌<◌}
use native.Mathlib.Decide.{dec_lt, ℕ_discrete}
use native.Mathlib.Omega.{arith}
use mathlib.Core.Path.{◌≡◌, sym, ap, ◌∙◌}
use mathlib.Core.List.{List}
use mathlib.Core.Bool.{true}
use mathlib.Core.Logic.{◌≢◌}
use borrow.Author.Tests.{eq-eqb, ne_eqb, eqb-true}
use lib.Dec.{eqb}
use lib.ListN.{get_or}
use Rattle.refusal.specs.Search.{Least, found, none, least_below}
use Rattle.refusal.proofs.Bools.{never}
use Rattle.refusal.proofs.Searches.{some_of, some_at, none_of, all_of, Searched, hit, miss, searched}
use Rattle.enumeration.specs.Orders.{among, new_number, permutation}
use Rattle.enumeration.proofs.OrderLaws.{number_new, number_below, numbers_differ}

-- ---- numbers all below n and no two equal

abbrev Below : ℕ → (ℕ → ℕ) → Type 0
Below n f = (i : ℕ) → i < n → f i < n

abbrev Differ : ℕ → (ℕ → ℕ) → Type 0
Differ n f = (i j : ℕ) → i < n → j < n → f i ≡ f j → i ≡ j

abbrev Met : ℕ → (ℕ → ℕ) → ℕ → Type 0
Met n f k = (i : ℕ) × (i < n) × (f i ≡ k)

-- the last number b in the place of n
abbrev instead : {n a : ℕ} → ℕ → Dec (a ≡ n) → ℕ
instead b (yes e) = b
instead {a = a} b (no e) = a

module _ (n : ℕ) (f : ℕ → ℕ) (low : Below (suc n) f) (differ : Differ (suc n) f) where
  moved : ℕ → ℕ
  moved i = instead (f n) (ℕ_discrete (f i) n)

  other : (i : ℕ) → i < n → f i ≢ f n
  other i h e = omega (arith, differ i n (omega arith) (omega arith) e)

  last_low : f n ≢ n → f n < n
  last_low h = omega (arith, low n (omega arith), h)

  moved_low : Below n moved
  unfolding moved
  moved_low i h = go (ℕ_discrete (f i) n)
    where
      go : (d : Dec (f i ≡ n)) → instead (f n) d < n
      go (yes e) = last_low (λ g. other i h (e ∙ sym g))
      go (no e) = omega (arith, low i (omega arith), e)

  moved_differ : Differ n moved
  unfolding moved
  moved_differ i j h k = go (ℕ_discrete (f i) n) (ℕ_discrete (f j) n)
    where
      go : (d : Dec (f i ≡ n)) (g : Dec (f j ≡ n)) → instead (f n) d ≡ instead (f n) g → i ≡ j
      go (yes a) (yes b) e = differ i j (omega arith) (omega arith) (a ∙ sym b)
      go (yes a) (no b) e = absurd (other j k (sym e))
      go (no a) (yes b) e = absurd (other i h e)
      go (no a) (no b) e = differ i j (omega arith) (omega arith) e

  -- where the moved numbers meet every number below n, the numbers themselves meet every number up to n
  met_last : ((k : ℕ) → k < n → Met n moved k) → (k : ℕ) → k < suc n → Met (suc n) f k
  unfolding moved
  met_last rest k h = go (ℕ_discrete (f n) k) (ℕ_discrete k n)
    where
      top : (j : ℕ) → j < n → k ≡ n → (d : Dec (f j ≡ n)) → instead (f n) d ≡ f n → Met (suc n) f k
      top j l q (yes a) m = (j, omega arith, a ∙ sym q)
      top j l q (no a) m = absurd (other j l m)

      below : (j : ℕ) → j < n → f n ≢ k → (d : Dec (f j ≡ n)) → instead (f n) d ≡ k → Met (suc n) f k
      below j l q (yes a) m = absurd (q m)
      below j l q (no a) m = (j, omega arith, m)

      go : Dec (f n ≡ k) → Dec (k ≡ n) → Met (suc n) f k
      go (yes e) d = (n, omega arith, e)
      go (no e) (yes q) = let r = rest (f n) (last_low (λ g. e (g ∙ sym q))) in top r.0 r.1 q (ℕ_discrete (f r.0) n) r.2
      go (no e) (no q) = let r = rest k (omega (arith, q)) in below r.0 r.1 e (ℕ_discrete (f r.0) n) r.2

all_met : (n : ℕ) (f : ℕ → ℕ) → Below n f → Differ n f → (k : ℕ) → k < n → Met n f k
all_met zero f low differ k h = absurd (omega arith)
all_met (suc n) f low differ k h =
    met_last n f low differ (all_met n (moved n f low differ) (moved_low n f low differ) (moved_differ n f low differ)) k h

-- ---- the map

module _ (n : ℕ) (ms : List ℕ) where
  -- a permutation: every number below n is among them
  pub permutation_all : permutation n ms ≡ true → (k : ℕ) → k < n → among n ms k ≡ true
  unfolding among
  permutation_all h k l =
      let r = all_met n (λ i. get_or ms i 0) (number_below n ms h) differ k l in
      some_of n (λ j. eqb (get_or ms j 0) k) r.0 r.1 (eq-eqb (get_or ms r.0 0) k r.2)
    where
      differ : Differ n (λ i. get_or ms i 0)
      differ i j a b e = go (dec_lt i j) (dec_lt j i)
        where
          go : Dec (i < j) → Dec (j < i) → i ≡ j
          go (yes u) v = absurd (numbers_differ n ms h j i b u e)
          go (no u) (yes v) = absurd (numbers_differ n ms h i j a v (sym e))
          go (no u) (no v) = omega (arith, u, v)

  -- and the other way: where every number below n is among them, they are a permutation
  module _ (h : (k : ℕ) → k < n → among n ms k ≡ true) where
    -- a place of number k
    place : ℕ → ℕ
    place k = go (least_below n (λ j. eqb (get_or ms j 0) k))
      where
        go : Least → ℕ
        go (found v) = v
        go none = 0

    placed : (k : ℕ) → k < n → (place k < n) × (get_or ms (place k) 0 ≡ k)
    unfolding place among
    placed k l = go (searched n (λ j. eqb (get_or ms j 0) k))
      where
        go : Searched n (λ j. eqb (get_or ms j 0) k) → (place k < n) × (get_or ms (place k) 0 ≡ k)
        go (hit v q e) = rw e (q.low, eqb-true (get_or ms v 0) k q.passes)
        go (miss f e) = let s = some_at n (λ j. eqb (get_or ms j 0) k) (h k l) in absurd (never s.2 (f s.0 s.1))

    from_place : (i : ℕ) → i < n → (k : ℕ) × (k < n) × (place k ≡ i)
    from_place i l = all_met n place (λ k a. (placed k a).0) differ i l
      where
        differ : Differ n place
        differ i j a b e = sym (placed i a).1 ∙ ap (λ (p : ℕ). get_or ms p 0) e ∙ (placed j b).1

    -- the number at place i is one whose place is i
    number_at : (i : ℕ) (l : i < n) → get_or ms i 0 ≡ (from_place i l).0
    number_at i l = let r = from_place i l in ap (λ (p : ℕ). get_or ms p 0) (sym r.2) ∙ (placed r.0 r.1).1

    pub all_permutation : permutation n ms ≡ true
    unfolding permutation among
    all_permutation = all_of n (new_number n ms) (λ i l. number_new n ms i (low i l) (none_of i (λ j. eqb (get_or ms j 0) (get_or ms i 0)) (λ j k. ne_eqb (get_or ms j 0) (get_or ms i 0) (apart i j l k))))
      where
        low : (i : ℕ) → i < n → get_or ms i 0 < n
        low i l = omega (arith, number_at i l, (from_place i l).1)

        apart : (i j : ℕ) → i < n → j < i → get_or ms j 0 ≢ get_or ms i 0
        apart i j l k e =
            let m : j < n = omega arith in
            let same : j ≡ i = sym (from_place j m).2 ∙ ap place (sym (number_at j m) ∙ e ∙ number_at i l) ∙ (from_place i l).2 in
            omega arith
