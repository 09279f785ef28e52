-- For the private functions, and needs no belief: what elimination makes of k rows, each a number, by their first n columns.
use Rattle.std.specs.Prelude.{ℕ, ◌/◌, ◌%◌, ◌^◌, ◌≤◌, ◌<◌, ◌≡◌, Bool, true, false}
use Rattle.std.specs.Int.Bits.{bit_xor}
use Rattle.algebra.specs.Rows.{bit, dot}
use Rattle.algebra.specs.Choices.{pick, combo}

-- p is the lowest of the first n columns that x has; n if it has none
pub record Lowest (n x p : ℕ) : Type 0 where
  pub within : p ≤ n
  pub has : p < n → bit x p ≡ 1
  pub below : x % 2 ^ p ≡ 0

-- row s is added to each later row that has column p
pub record Swept (k s p : ℕ) (g h : ℕ → ℕ) : Type 0 where
  pub kept : (i : ℕ) → i ≤ s → i < k → h i ≡ g i
  pub added : (r : ℕ) → s < r → r < k → h r ≡ bit_xor (g r) (pick (bit (g r) p) (g s))

-- x is a choice of the first rows f: row r, and no row after it
pub record Near (k : ℕ) (f : ℕ → ℕ) (x r : ℕ) : Type 0 where
  pub mask : ℕ
  pub own : mask / 2 ^ r ≡ 1
  pub is : x ≡ combo f k mask

-- row t has none of the first n columns, or no later row has its lowest column
pub data Settled (n k : ℕ) (g : ℕ → ℕ) (t : ℕ) : Type 0 where
  dead : g t % 2 ^ n ≡ 0 → Settled n k g t
  live : (p : ℕ) → p < n → bit (g t) p ≡ 1 → g t % 2 ^ p ≡ 0 → ((r : ℕ) → t < r → r < k → bit (g r) p ≡ 0) → Settled n k g t

-- the rows f have become g, and the first s rows are settled
pub record Eliminated (n k : ℕ) (f g : ℕ → ℕ) (s : ℕ) : Type 0 where
  pub near : (r : ℕ) → r < k → Near k f (g r) r
  pub settled : (t : ℕ) → t < s → Settled n k g t

-- ---- substituting back, in rows whose column n is the right side

-- j is the lowest column of a row from r on
pub record Pivot (k : ℕ) (g : ℕ → ℕ) (r j : ℕ) : Type 0 where
  pub row : ℕ
  pub from : r ≤ row
  pub within : row < k
  pub has : bit (g row) j ≡ 1
  pub below : g row % 2 ^ j ≡ 0

-- u has column n, meets the rows from r on, and has of the first n columns only lowest columns of these rows
pub record Met (n k : ℕ) (g : ℕ → ℕ) (r u : ℕ) : Type 0 where
  pub marked : u / 2 ^ n ≡ 1
  pub even : (t : ℕ) → r ≤ t → t < k → dot (g t) u ≡ 0
  pub pivots : (j : ℕ) → j < n → bit u j ≡ 1 → Pivot k g r j

-- u meets every row; or some row has column n and none of the first n
pub data Substituted (n k : ℕ) (g : ℕ → ℕ) : Bool → ℕ → Type 0 where
  met : {u : ℕ} → Met n k g 0 u → Substituted n k g true u
  unmet : {u : ℕ} (t : ℕ) → t < k → g t % 2 ^ n ≡ 0 → bit (g t) n ≡ 1 → Substituted n k g false u
