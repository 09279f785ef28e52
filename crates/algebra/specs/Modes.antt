-- Modes and the vacuum rule. Rows 2i and 2i + 1 belong to mode i.
use Rattle.std.specs.Prelude.{ℕ, ◌+◌, ◌-◌, ◌*◌, ◌/◌, ◌%◌, ◌<◌, ◌≢◌, Bool, ◌&&◌, eqb}
use Rattle.std.specs.Int.Bits.{bit_xor}
use Rattle.refusal.specs.Search.{all_below, Pair, first_pair}
use Rattle.algebra.specs.Rows.{dot, Row, clash, Anticommute}

pub record Modes : Type 0 where
  pub n : ℕ
  pub row : ℕ → Row

abbrev pub lo : Modes → ℕ → Row
lo m i = m.row (2 * i)

abbrev pub hi : Modes → ℕ → Row
hi m i = m.row (2 * i + 1)

-- c is mode i's X part
abbrev pub c : Modes → ℕ → ℕ
c m i = (lo m i).x

-- e is the xor of its Z parts
unfoldable pub e : Modes → ℕ → ℕ
e m i = bit_xor (lo m i).z (hi m i).z

-- the phase difference d = (p1 - p0 + 3) mod 4, for phases of 0 to 3
unfoldable pub d : Modes → ℕ → ℕ
d m i = ((hi m i).p + 4 - (lo m i).p + 3) % 4

-- the X parts agree, and d is even
unfoldable pub paired : Modes → ℕ → Bool
paired m i = eqb (lo m i).x (hi m i).x && eqb (d m i % 2) 0

-- X parts agree, d is even, and e·s = d/2 mod 2: mode i is empty in the basis state s
unfoldable pub empty : Modes → ℕ → ℕ → Bool
empty m i s = paired m i && eqb (dot (e m i) s) (d m i / 2)

-- the vacuum rule at v: every mode is empty
unfoldable pub vacuum_rule : Modes → ℕ → Bool
vacuum_rule m v = all_below m.n (λ i. empty m i v)

-- ---- any two rows of different numbers anticommute

unfoldable pub Majorana : Modes → Type 0
Majorana m = (j k : ℕ) → j < 2 * m.n → k < 2 * m.n → j ≢ k → Anticommute (m.row j) (m.row k)

-- the first two rows that commute, in row order
unfoldable pub commuting_pair : Modes → Pair
commuting_pair m = first_pair (2 * m.n) (λ j k. eqb (clash (m.row j) (m.row k)) 0)
