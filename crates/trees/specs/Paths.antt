-- The row of a slot: each node on the path has the letter of the edge that leaves it, the last node that of the slot; p is the number of Y letters mod 4.
use Rattle.std.specs.Prelude.{ℕ, zero, suc, ◌+◌, ◌/◌, ◌%◌, ◌^◌}
use Rattle.std.specs.Int.Bits.{bit_xor}
use Rattle.algebra.specs.Rows.{Row, identity}
use Rattle.trees.specs.Trees.{Tree, up, onward}

-- two rows on different columns, as one
abbrev pub join : Row → Row → Row
join r s = record { p = (r.p + s.p) % 4; x = bit_xor r.x s.x; z = bit_xor r.z s.z }

-- the letter l (0 is X, 1 is Y, 2 is Z) at the column whose bit is b
abbrev pub letter_at : ℕ → ℕ → Row
letter_at zero b = record { p = 0; x = b; z = 0 }
letter_at (suc zero) b = record { p = 1; x = b; z = b }
letter_at (suc (suc l)) b = record { p = 0; x = 0; z = b }

-- the letter of slot k at its node's column
unfoldable pub letter : Tree → ℕ → Row
letter t k = letter_at (k % 3) (2 ^ t.qubit (k / 3))

-- the letters of the edges that f steps up from node i pass
unfoldable pub above : Tree → ℕ → ℕ → Row
above t zero i = identity
above t (suc f) i = onward (up t i) identity (λ k. join (letter t k) (above t f (k / 3)))

-- the row of slot k
unfoldable pub row_at : Tree → ℕ → Row
row_at t k = join (letter t k) (above t t.n (k / 3))
