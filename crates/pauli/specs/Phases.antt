-- The letter power of a row: a signed difference whose remainder is never negative.
use Rattle.std.specs.Prelude.{ℕ, ◌-◌, ◌%◌, ℤ, pos, negsuc, ◌-ℤ◌}
use Rattle.algebra.specs.Rows.{Row, common}

-- the remainder of a whole number by 4, never negative; negsuc n is -(n + 1)
abbrev pub mod_four : ℤ → ℕ
mod_four (pos n) = n % 4
mod_four (negsuc n) = 3 - n % 4

-- p minus a number of columns, mod 4
unfoldable pub letter_power : ℕ → ℕ → ℕ
letter_power p ys = mod_four (pos p -ℤ pos ys)

-- the letter power of a row is p minus its number of Y columns, which have both bits set
abbrev pub row_power : Row → ℕ
row_power r = letter_power r.p (common r.x r.z)
