-- Searches below a bound. They compute on small cases and are exact on all: proofs/Searches.antt turns them into "there is" and "for all".
use Rattle.std.specs.Prelude.{ℕ, zero, suc, Bool, true, false, cond, ◌&&◌, ◌||◌, ltb}

-- some number below n passes
unfoldable pub some_below : ℕ → (ℕ → Bool) → Bool
some_below zero test = false
some_below (suc k) test = test k || some_below k test

-- every number below n passes
unfoldable pub all_below : ℕ → (ℕ → Bool) → Bool
all_below zero test = true
all_below (suc k) test = test k && all_below k test

pub data Least : Type 0 where
  found : ℕ → Least
  none : Least

abbrev pub or_else : Least → Least → Least
or_else (found k) other = found k
or_else none other = other

-- the least number below n that passes
unfoldable pub least_below : ℕ → (ℕ → Bool) → Least
least_below zero test = none
least_below (suc k) test = or_else (least_below k test) (cond (test k) (found k) none)

pub data Pair : Type 0 where
  pair : ℕ → ℕ → Pair
  no_pair : Pair

abbrev pub with_second : ℕ → Least → Pair
with_second i (found j) = pair i j
with_second i none = no_pair

abbrev pub with_first : Least → (ℕ → Least) → Pair
with_first (found i) second = with_second i (second i)
with_first none second = no_pair

-- the first pair i < j below n that passes, in row order: the least i that has a partner, with its least partner
unfoldable pub first_pair : ℕ → (ℕ → ℕ → Bool) → Pair
first_pair n test = with_first (least_below n (λ i. some_below n (λ j. ltb i j && test i j))) (λ i. least_below n (λ j. ltb i j && test i j))
