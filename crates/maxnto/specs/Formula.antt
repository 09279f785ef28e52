-- The MaxNTO rows by their formula, column by column, for n modes on n columns.
use Rattle.std.specs.Prelude.{ℕ, zero, suc, ◌+◌, ◌*◌, ◌/◌, ◌%◌, ◌^◌, Bool, cond, not, eqb, leb, ltb}
use Rattle.algebra.specs.Rows.{common, Row}
use Rattle.dense_block.specs.Words.{digit}

-- the number that has a 1 in each column below n that passes
unfoldable pub columns : ℕ → (ℕ → Bool) → ℕ
columns zero test = 0
columns (suc k) test = columns k test + digit (test k) * 2 ^ k

-- x is 1 off column i
abbrev pub x_at : ℕ → ℕ → Bool
x_at i j = not (eqb j i)

-- row 2i: z is 1 at j ≤ i for even i, at j > i for odd i
abbrev pub z_at : ℕ → ℕ → Bool
z_at i j = cond (eqb (i % 2) 0) (leb j i) (ltb i j)

-- row 2i + 1: z flipped off column i, kept at i
abbrev pub z_flipped : ℕ → ℕ → Bool
z_flipped i j = cond (eqb j i) (z_at i j) (not (z_at i j))

unfoldable pub x_part : ℕ → ℕ → ℕ
x_part n m = columns n (x_at (m / 2))

unfoldable pub z_part : ℕ → ℕ → ℕ
z_part n m = cond (eqb (m % 2) 0) (columns n (z_at (m / 2))) (columns n (z_flipped (m / 2)))

-- phase: columns with both bits, mod 4
unfoldable pub phase_of : ℕ → ℕ → ℕ
phase_of n m = common (x_part n m) (z_part n m) % 4

abbrev pub maxnto_row : ℕ → ℕ → Row
maxnto_row n m = record { p = phase_of n m; x = x_part n m; z = z_part n m }
