-- What two searches of the calls find: the two rows that 10 names, and the vacuum that solving writes.
use Rattle.std.specs.Prelude.{ℕ, ◌*◌, ◌^◌, ◌<◌, ◌≡◌, ◌⊎◌, true, false}
use Rattle.algebra.specs.Rows.{clash, Anticommute}
use Rattle.algebra.specs.Modes.{Modes, vacuum_rule}
use Rattle.algebra.specs.Solving as solving

-- rows i and j are the first two that commute, in row order
pub record FirstCommuting (m : Modes) (i j : ℕ) : Type 0 where
  pub above : i < j
  pub low : j < 2 * m.n
  pub commute : clash (m.row i) (m.row j) ≡ 0
  -- of every pair with a smaller first row, or with the same first and a smaller second, the rows anticommute
  pub first : (c d : ℕ) → c < d → d < 2 * m.n → (c < i) ⊎ ((c ≡ i) × (d < j)) → Anticommute (m.row c) (m.row d)

-- v is the vacuum of q bits that solving answers
pub record LeastVacuum (m : Modes) (q v : ℕ) : Type 0 where
  pub low : v < 2 ^ q
  -- it meets the rule, and no smaller string does
  pub rule : vacuum_rule m v ≡ true
  pub least : (u : ℕ) → u < v → vacuum_rule m u ≡ false
  -- it is zero in each dependent column, and no other string of q bits that meets the rule is
  pub plain : solving.plain m q v ≡ true
  pub only : (u : ℕ) → u < 2 ^ q → vacuum_rule m u ≡ true → solving.plain m q u ≡ true → u ≡ v
