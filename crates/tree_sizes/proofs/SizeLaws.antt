-- What a size that is not refused is, and that of sizes that pass 1 the test of the lengths is that of the slices alone: the tests read one by one.
use Prim.Native.Nat.{ℕ, ◌<◌, ◌≤◌}
use native.Mathlib.Omega.{arith}
use mathlib.Core.Path.{◌≡◌}
use mathlib.Core.Bool.{false}
use mathlib.Core.List.{List}
use borrow.Author.Tests.{le-ltb, ltb-false, eqb-false}
use lib.Dec.{eqb, ltb}
use Rattle.refusal.specs.Table.{Lent, short}
use Rattle.refusal.proofs.Bools.{or_left, or_right}
use Rattle.tree_sizes.specs.Sizes.{outside, many_or_short}

-- not outside: 1 to 256
pub inside : (k : ℕ) → outside k ≡ false → (0 < k) × (k ≤ 256)
unfolding outside
inside k h =
    let ne = eqb-false k 0 (or_left (eqb k 0) (ltb 256 k) h) in
    (omega (arith, ne), ltb-false 256 k (or_right (eqb k 0) (ltb 256 k) h))

-- of sizes that pass 1 the public test of the lengths is just that
pub few_short : (n w : ℕ) (lent : List Lent) → n ≤ 256 → w ≤ 4 → many_or_short n w lent ≡ short lent
unfolding many_or_short
few_short n w lent a b = rw (le-ltb 256 n a, le-ltb 4 w b)
