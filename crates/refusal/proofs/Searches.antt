-- The searches of specs/Search.antt, as "there is" and "for all", and step by step as loops use them. By induction on the bound.
use Prim.Native.Nat.{ℕ, zero, suc, ◌+◌, ◌-◌, ◌≤◌, ◌<◌}
use native.Mathlib.Nat.{eq-or-lt_of_le, le_of_suc-le-suc}
use native.Mathlib.Numerals.{add-one}
use native.Mathlib.Decide.{dec_lt}
use native.Mathlib.Omega.{arith}
use mathlib.Core.Path.{◌≡◌, refl, sym, ap, ◌∙◌}
use mathlib.Core.Logic.{◌⊎◌, inl, inr}
use mathlib.Core.Bool.{Bool, true, false, cond, ◌&&◌, ◌||◌}
use borrow.Author.Tests.{lt-ltb, ltb-true}
use lib.Dec.{ltb}
use Rattle.refusal.specs.Search.{some_below, all_below, found, none, or_else, least_below, Pair, pair, no_pair, first_pair}
use Rattle.refusal.proofs.Bools.{and_left, and_right, both, never}

-- ---- some number passes

-- the two ways for a number below suc n
abbrev Split : ℕ → ℕ → Type 0
Split k n = (k ≡ n) ⊎ (k < n)

split : {k n : ℕ} → k < suc n → Split k n
split h = eq-or-lt_of_le (le_of_suc-le-suc h)

pub some_of : (n : ℕ) (test : ℕ → Bool) (k : ℕ) → k < n → test k ≡ true → some_below n test ≡ true
unfolding some_below
some_of zero test k h t = absurd (omega arith)
some_of (suc n) test k h t = go (split h) (λ l. some_of n test k l t)
  where
    or_true : (b : Bool) → (b || true) ≡ true
    or_true true = refl
    or_true false = refl

    go : Split k n → (k < n → some_below n test ≡ true) → (test n || some_below n test) ≡ true
    go (inl e) rest = rw (← e, t)
    go (inr l) rest = rw (rest l) (or_true (test n))

pub some_at : (n : ℕ) (test : ℕ → Bool) → some_below n test ≡ true → (k : ℕ) × (k < n) × (test k ≡ true)
unfolding some_below
some_at zero test h = absurd (never h refl)
some_at (suc n) test h = go (test n) refl h (some_at n test)
  where
    go : (b : Bool) → test n ≡ b → (b || some_below n test) ≡ true → (some_below n test ≡ true → (k : ℕ) × (k < n) × (test k ≡ true)) → (k : ℕ) × (k < suc n) × (test k ≡ true)
    go true e p rest = (n, omega arith, e)
    go false e p rest = let r = rest p in (r.0, omega (arith, r.1), r.2)

pub none_at : (n : ℕ) (test : ℕ → Bool) → some_below n test ≡ false → (k : ℕ) → k < n → test k ≡ false
none_at n test h k l = go (test k) refl
  where
    go : (b : Bool) → test k ≡ b → test k ≡ false
    go true e = absurd (never (some_of n test k l e) h)
    go false e = e

pub none_of : (n : ℕ) (test : ℕ → Bool) → ((k : ℕ) → k < n → test k ≡ false) → some_below n test ≡ false
unfolding some_below
none_of zero test h = refl
none_of (suc n) test h = rw (h n (omega arith)) (none_of n test (λ k l. h k (omega arith)))

-- the same tests give the same answer
pub some_same : (n : ℕ) (f g : ℕ → Bool) → ((k : ℕ) → k < n → f k ≡ g k) → some_below n f ≡ some_below n g
unfolding some_below
some_same zero f g h = refl
some_same (suc n) f g h = rw (h n (omega arith), some_same n f g (λ k l. h k (omega arith)))

-- two tests at once
pub some_or : (n : ℕ) (f g : ℕ → Bool) → some_below n (λ k. f k || g k) ≡ (some_below n f || some_below n g)
unfolding some_below
some_or zero f g = refl
some_or (suc n) f g = rw (some_or n f g) (swap (f n) (g n) (some_below n f) (some_below n g))
  where
    swap : (a b c d : Bool) → ((a || b) || (c || d)) ≡ ((a || c) || (b || d))
    swap true b c d = refl
    swap false true true d = refl
    swap false true false d = refl
    swap false false c d = refl

-- a loop that counts up
pub some_next : (k : ℕ) (test : ℕ → Bool) → some_below (k + 1) test ≡ (test k || some_below k test)
unfolding some_below
some_next k test = rw (add-one k)

pub none_next : (k : ℕ) (test : ℕ → Bool) → some_below k test ≡ false → test k ≡ false → some_below (k + 1) test ≡ false
none_next k test h e = rw (some_next k test, e, h)

-- no number from k on passes
pub some_past : (n k : ℕ) (test : ℕ → Bool) → k ≤ n → ((j : ℕ) → k ≤ j → test j ≡ false) → some_below n test ≡ some_below k test
some_past n k test l above = go (some_below k test) refl
  where
    side : (j : ℕ) → some_below k test ≡ false → Dec (j < k) → test j ≡ false
    side j e (yes p) = none_at k test e j p
    side j e (no p) = above j (omega (arith, p))

    go : (b : Bool) → some_below k test ≡ b → some_below n test ≡ b
    go true e = let s = some_at k test e in some_of n test s.0 (omega (arith, s.1)) s.2
    go false e = none_of n test (λ j h. side j e (dec_lt j k))

-- no number but k can pass
pub some_only : (n : ℕ) (test : ℕ → Bool) (k : ℕ) → k < n → ((j : ℕ) → j < k → test j ≡ false) → ((j : ℕ) → k < j → test j ≡ false) → some_below n test ≡ test k
some_only n test k l below above = go (test k) refl
  where
    side : (j : ℕ) → test k ≡ false → Dec (j < k) → Dec (k < j) → test j ≡ false
    side j e (yes p) q = below j p
    side j e (no p) (yes q) = above j q
    side j e (no p) (no q) = let s : j ≡ k = omega (arith, p, q) in ap test s ∙ e

    go : (b : Bool) → test k ≡ b → some_below n test ≡ b
    go true e = some_of n test k l e
    go false e = none_of n test (λ j h. side j e (dec_lt j k) (dec_lt k j))

-- a loop that counts down
some_step : (k : ℕ) (test : ℕ → Bool) → 0 < k → some_below k test ≡ (test (k - 1) || some_below (k - 1) test)
unfolding some_below
some_step k test h = go k (k - 1) (omega arith)
  where
    go : (k j : ℕ) → k ≡ suc j → some_below k test ≡ (test j || some_below j test)
    go k j e = rw e

pub some_here : (k : ℕ) (test : ℕ → Bool) → 0 < k → test (k - 1) ≡ true → some_below k test ≡ true
some_here k test h e = rw (some_step k test h, e)

pub some_below_lem : (k : ℕ) (test : ℕ → Bool) → 0 < k → test (k - 1) ≡ false → some_below k test ≡ some_below (k - 1) test
some_below_lem k test h e = rw (some_step k test h, e)

pub some_none : (k : ℕ) (test : ℕ → Bool) → k ≤ 0 → some_below k test ≡ false
unfolding some_below
some_none k test h = let e : k ≡ 0 = omega arith in rw e

-- ---- every number passes

pub all_at : (n : ℕ) (test : ℕ → Bool) → all_below n test ≡ true → (k : ℕ) → k < n → test k ≡ true
unfolding all_below
all_at zero test h k g = absurd (omega arith)
all_at (suc n) test h k g = go (split g) (all_at n test (and_right (test n) (all_below n test) h))
  where
    go : Split k n → ((k : ℕ) → k < n → test k ≡ true) → test k ≡ true
    go (inl e) rest = rw e (and_left (test n) (all_below n test) h)
    go (inr l) rest = rest k l

pub all_of : (n : ℕ) (test : ℕ → Bool) → ((k : ℕ) → k < n → test k ≡ true) → all_below n test ≡ true
unfolding all_below
all_of zero test h = refl
all_of (suc n) test h = both (h n (omega arith)) (all_of n test (λ k l. h k (omega arith)))

-- a loop that counts down
all_step : (k : ℕ) (test : ℕ → Bool) → 0 < k → all_below k test ≡ (test (k - 1) && all_below (k - 1) test)
unfolding all_below
all_step k test h = go k (k - 1) (omega arith)
  where
    go : (k j : ℕ) → k ≡ suc j → all_below k test ≡ (test j && all_below j test)
    go k j e = rw e

pub all_here : (k : ℕ) (test : ℕ → Bool) → 0 < k → test (k - 1) ≡ false → all_below k test ≡ false
all_here k test h e = rw (all_step k test h, e)

pub all_below_lem : (k : ℕ) (test : ℕ → Bool) → 0 < k → test (k - 1) ≡ true → all_below k test ≡ all_below (k - 1) test
all_below_lem k test h e = rw (all_step k test h, e)

pub all_none : (k : ℕ) (test : ℕ → Bool) → k ≤ 0 → all_below k test ≡ true
unfolding all_below
all_none k test h = let e : k ≡ 0 = omega arith in rw e

-- the same tests give the same answer
pub all_same : (n : ℕ) (f g : ℕ → Bool) → ((k : ℕ) → k < n → f k ≡ g k) → all_below n f ≡ all_below n g
unfolding all_below
all_same zero f g h = refl
all_same (suc n) f g h = rw (h n (omega arith), all_same n f g (λ k l. h k (omega arith)))

-- one number that fails
pub not_all : (n : ℕ) (test : ℕ → Bool) (k : ℕ) → k < n → test k ≡ false → all_below n test ≡ false
not_all n test k l h = go (all_below n test) refl
  where
    go : (b : Bool) → all_below n test ≡ b → all_below n test ≡ false
    go true e = absurd (never (all_at n test e k l) h)
    go false e = e

-- ---- the least number that passes

pub least_none : (n : ℕ) (test : ℕ → Bool) → ((k : ℕ) → k < n → test k ≡ false) → least_below n test ≡ none
unfolding least_below
least_none zero test h = refl
least_none (suc n) test h = rw (least_none n test (λ k l. h k (omega arith)), h n (omega arith))

pub least_of : (n : ℕ) (test : ℕ → Bool) (v : ℕ) → v < n → test v ≡ true → ((k : ℕ) → k < v → test k ≡ false) → least_below n test ≡ found v
unfolding least_below
least_of zero test v h t b = absurd (omega arith)
least_of (suc n) test v h t b = go (split h) (λ l. least_of n test v l t b)
  where
    go : Split v n → (v < n → least_below n test ≡ found v) → or_else (least_below n test) (cond (test n) (found n) none) ≡ found v
    go (inl e) rest =
        let u : test n ≡ true = rw e at t in
        rw (least_none n test (λ k l. b k (omega arith)), u) (ap found (sym e))
    go (inr l) rest = rw (rest l)

-- the same tests give the same answer
pub least_same : (n : ℕ) (f g : ℕ → Bool) → ((k : ℕ) → k < n → f k ≡ g k) → least_below n f ≡ least_below n g
unfolding least_below
least_same zero f g h = refl
least_same (suc n) f g h = rw (h n (omega arith), least_same n f g (λ k l. h k (omega arith)))

pub record Is-least (n : ℕ) (test : ℕ → Bool) (v : ℕ) : Type 0 where
  pub low : v < n
  pub passes : test v ≡ true
  pub first : (k : ℕ) → k < v → test k ≡ false

-- what a search below n comes to
pub data Searched (n : ℕ) (test : ℕ → Bool) : Type 0 where
  hit : (v : ℕ) → Is-least n test v → least_below n test ≡ found v → Searched n test
  miss : ((k : ℕ) → k < n → test k ≡ false) → least_below n test ≡ none → Searched n test

pub searched : (n : ℕ) (test : ℕ → Bool) → Searched n test
searched zero test = miss (λ k h. absurd (omega arith)) (least_none zero test (λ k h. absurd (omega arith)))
searched (suc n) test = go (searched n test) (test n) refl
  where
    here : (b : Bool) → test n ≡ b → ((k : ℕ) → k < n → test k ≡ false) → Searched (suc n) test
    here true e f = hit n (record { low = omega arith; passes = e; first = f }) (least_of (suc n) test n (omega arith) e f)
    here false e f = let all = last in miss all (least_none (suc n) test all)
      where
        last : (k : ℕ) → k < suc n → test k ≡ false
        last k h = at (split h)
          where
            at : Split k n → test k ≡ false
            at (inl q) = rw q e
            at (inr l) = f k l

    go : Searched n test → (b : Bool) → test n ≡ b → Searched (suc n) test
    go (hit v l e) b t = hit v (record { low = omega (arith, l.low); passes = l.passes; first = l.first }) (least_of (suc n) test v (omega (arith, l.low)) l.passes l.first)
    go (miss f e) b t = here b t f

pub least_found : (n : ℕ) (test : ℕ → Bool) (v : ℕ) → least_below n test ≡ found v → Is-least n test v
least_found n test v h = go (searched n test)
  where
    go : Searched n test → Is-least n test v
    go (hit w l e) = let same : w ≡ v = cc in rw same at l
    go (miss f e) = let z : ◌≡◌ {A = ℕ} 0 1 = cc in absurd (omega arith)

pub least_missing : (n : ℕ) (test : ℕ → Bool) → least_below n test ≡ none → (k : ℕ) → k < n → test k ≡ false
least_missing n test h = go (searched n test)
  where
    go : Searched n test → (k : ℕ) → k < n → test k ≡ false
    go (hit w l e) k g = cc
    go (miss f e) k g = f k g

-- ---- the first pair in row order

pub record Is-first (n : ℕ) (test : ℕ → ℕ → Bool) (i j : ℕ) : Type 0 where
  pub above : i < j
  pub low : j < n
  pub passes : test i j ≡ true
  -- no pair with a smaller first number passes, and none with the same first and a smaller second
  pub first : (c d : ℕ) → c < d → d < n → (c < i) ⊎ ((c ≡ i) × (d < j)) → test c d ≡ false

module _ (n : ℕ) (test : ℕ → ℕ → Bool) where
  partner : ℕ → ℕ → Bool
  partner i j = ltb i j && test i j

  not_above : (i j : ℕ) → (i < j → test i j ≡ false) → partner i j ≡ false
  unfolding partner
  not_above i j h = go (ltb i j) refl
    where
      go : (b : Bool) → ltb i j ≡ b → (b && test i j) ≡ false
      go true e = h (ltb-true i j e)
      go false e = refl

  pub pair_of_lem : (i j : ℕ) → i < j → j < n → test i j ≡ true
      → ((c d : ℕ) → c < i → c < d → d < n → test c d ≡ false)
      → ((d : ℕ) → i < d → d < j → test i d ≡ false)
      → first_pair n test ≡ pair i j
  unfolding first_pair partner
  pair_of_lem i j h l t before within =
      let here : partner i j ≡ true = both (lt-ltb i j h) t in
      rw (
        least_of n (λ i. some_below n (partner i)) i (omega arith) (some_of n (partner i) j l here) (λ c g. none_of n (partner c) (λ d k. not_above c d (λ m. before c d g m k))),
        least_of n (partner i) j l here (λ d g. not_above i d (λ m. within d m g)),
      )

  pub pair_none : ((c d : ℕ) → c < d → d < n → test c d ≡ false) → first_pair n test ≡ no_pair
  unfolding first_pair partner
  pair_none f = rw (least_none n (λ i. some_below n (partner i)) (λ c g. none_of n (partner c) (λ d k. not_above c d (λ m. f c d m k))))

  -- no pair was found: none passes
  pub pair_missing : first_pair n test ≡ no_pair → (c d : ℕ) → c < d → d < n → test c d ≡ false
  unfolding first_pair partner
  pair_missing h c d m l = go (searched n (λ i. some_below n (partner i)))
    where
      go : Searched n (λ i. some_below n (partner i)) → test c d ≡ false
      go (miss f e) = rw (lt-ltb c d m) at (none_at n (partner c) (f c (omega arith)) d l)
      go (hit i q e) = with_partner (searched n (partner i))
        where
          with_partner : Searched n (partner i) → test c d ≡ false
          with_partner (hit j r k) = let z : ◌≡◌ {A = Pair} (pair i j) no_pair = sym (rw (e, k)) ∙ h in cc
          with_partner (miss f k) =
              let s = some_at n (partner i) q.passes in
              absurd (never s.2 (f s.0 s.1))

  -- the pair that was found is the first that passes
  pub pair_found : (i j : ℕ) → first_pair n test ≡ pair i j → Is-first n test i j
  unfolding first_pair partner
  pair_found i j h = go (searched n (λ i. some_below n (partner i)))
    where
      failed : (c d : ℕ) → c < d → partner c d ≡ false → test c d ≡ false
      failed c d m e = rw (lt-ltb c d m) at e

      go : Searched n (λ i. some_below n (partner i)) → Is-first n test i j
      go (miss f e) = let z : ◌≡◌ {A = Pair} no_pair (pair i j) = sym (rw e) ∙ h in let o : ◌≡◌ {A = ℕ} 0 1 = cc in absurd (omega arith)
      go (hit k q e) = with_partner (searched n (partner k))
        where
          with_partner : Searched n (partner k) → Is-first n test i j
          with_partner (miss f g) =
              let s = some_at n (partner k) q.passes in
              absurd (never s.2 (f s.0 s.1))
          with_partner (hit l r g) =
              let z : ◌≡◌ {A = Pair} (pair k l) (pair i j) = sym (rw (e, g)) ∙ h in
              let a : k ≡ i = cc in
              let b : l ≡ j = cc in
              rw (a, b) at here
            where
              before : (c d : ℕ) → c < d → d < n → (c < k) ⊎ ((c ≡ k) × (d < l)) → test c d ≡ false
              before c d m u (inl p) = failed c d m (none_at n (partner c) (q.first c p) d u)
              before c d m u (inr p) = failed c d m (rw p.0 (r.first d p.1))

              here : Is-first n test k l
              here = record {
                above = ltb-true k l (and_left (ltb k l) (test k l) r.passes);
                low = r.low;
                passes = and_right (ltb k l) (test k l) r.passes;
                first = before;
              }
