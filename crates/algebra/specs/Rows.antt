-- The algebra of rows i^p X^x Z^z. A bit row is one number, column j being its binary digit j; so are the bits s of a basis state.
use Rattle.std.specs.Prelude.{ℕ, ◌+◌, ◌*◌, ◌/◌, ◌%◌, ◌^◌, ◌<◌, ◌≡◌}
use Rattle.std.specs.Int.Bits.{bit_and, bit_xor}
use Rattle.std.specs.Int.Count.{ones}

-- column j of a bit row
unfoldable pub bit : ℕ → ℕ → ℕ
bit x j = x / 2 ^ j % 2

-- a·b: the number of common ones
unfoldable pub common : ℕ → ℕ → ℕ
common a b = ones (bit_and a b)

-- the parity of a·b
unfoldable pub dot : ℕ → ℕ → ℕ
dot a b = common a b % 2

-- i^p X^x Z^z: p is 0 to 3, x and z are bit rows. Y is p = 1 with both bits set
pub record Row : Type 0 where
  pub p : ℕ
  pub x : ℕ
  pub z : ℕ

-- a row on q columns: p is 0 to 3, and no bit of x or z stands at column q or above
pub record OnColumns (q : ℕ) (r : Row) : Type 0 where
  pub phase_small : r.p < 4
  pub x_low : r.x < 2 ^ q
  pub z_low : r.z < 2 ^ q

-- on bits s a row gives s xor x with i^(p + 2(z·s))
abbrev pub state : Row → ℕ → ℕ
state r s = bit_xor s r.x

abbrev pub phase : Row → ℕ → ℕ
phase r s = (r.p + 2 * common r.z s) % 4

-- the product r s, of r and then s as they are written: on a state, s acts first
abbrev pub times : Row → Row → Row
times r s = record {
  p = (r.p + s.p + 2 * common r.z s.x) % 4;
  x = bit_xor r.x s.x;
  z = bit_xor r.z s.z;
}

-- the empty product
abbrev pub identity : Row
identity = record { p = 0; x = 0; z = 0 }

-- two rows anticommute when x·z' + z·x' is odd: 1 if they do, 0 if they commute
unfoldable pub clash : Row → Row → ℕ
clash r s = (common r.x s.z + common r.z s.x) % 2

abbrev pub Anticommute : Row → Row → Type 0
Anticommute r s = clash r s ≡ 1
