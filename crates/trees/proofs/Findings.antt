-- What a search for a slot found, as facts.
use Prim.Native.Nat.{ℕ, ◌<◌}
use native.Mathlib.Omega.{arith}
use mathlib.Core.Path.{◌≡◌, refl}
use mathlib.Core.Bool.{Bool, true, false}
use borrow.Author.Tests.{eqb-true, eq-eqb}
use Rattle.refusal.specs.Search.{Least, found, none, least_below}
use Rattle.refusal.proofs.Searches.{Searched, hit, miss, searched}
use Rattle.refusal.proofs.Bools.{never}
use Rattle.trees.specs.Trees.{some, is}

-- something passes, so something is found
pub found_some : (n : ℕ) (test : ℕ → Bool) (i : ℕ) → i < n → test i ≡ true → (j : ℕ) × (least_below n test ≡ found j) × (j < n) × (test j ≡ true)
found_some n test i h e = go (searched n test)
  where
    go : Searched n test → (j : ℕ) × (least_below n test ≡ found j) × (j < n) × (test j ≡ true)
    go (hit j l q) = (j, q, l.low, l.passes)
    go (miss f q) = absurd (never e (f i h))

pub not_some : (o : Least) → some o ≡ false → o ≡ none
not_some (found i) h = cc
not_some none h = refl

pub is_found : (i : ℕ) (o : Least) → is i o ≡ true → o ≡ found i
is_found i (found j) h = rw (eqb-true i j h)
is_found i none h = cc

pub found_is : (i : ℕ) (o : Least) → o ≡ found i → is i o ≡ true
found_is i o h = rw h (eq-eqb i i refl)

-- found is not none
pub found_none : {o : Least} {i : ℕ} → o ≡ found i → o ≡ none → ⊥
found_none h k = let z : ◌≡◌ {A = ℕ} 0 1 = cc in omega arith
