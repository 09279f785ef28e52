-- The solution of n equations e i · v = b i that is zero in each column equal to a xor of some columns before it.
use Rattle.std.specs.Prelude.{ℕ, ◌^◌, Bool, not, ◌&&◌, eqb}
use Rattle.refusal.specs.Search.{some_below, all_below, Least, least_below}
use Rattle.algebra.specs.Rows.{bit, dot}

unfoldable pub solves : ℕ → (ℕ → ℕ) → (ℕ → ℕ) → ℕ → Bool
solves n e b v = all_below n (λ i. eqb (dot (e i) v) (b i))

-- column j is the xor of the columns that u has; the empty xor is the zero column
unfoldable pub spans_in : ℕ → (ℕ → ℕ) → ℕ → ℕ → Bool
spans_in n e j u = all_below n (λ i. eqb (dot (e i) u) (bit (e i) j))

-- it is a xor of some columns before it
unfoldable pub dependent_in : ℕ → (ℕ → ℕ) → ℕ → Bool
dependent_in n e j = some_below (2 ^ j) (spans_in n e j)

-- v is zero in each such column of the q
unfoldable pub plain_in : ℕ → (ℕ → ℕ) → ℕ → ℕ → Bool
plain_in n e q v = all_below q (λ j. not (dependent_in n e j && eqb (bit v j) 1))

unfoldable pub solution : ℕ → (ℕ → ℕ) → (ℕ → ℕ) → ℕ → Least
solution n e b q = least_below (2 ^ q) (λ v. solves n e b v && plain_in n e q v)
