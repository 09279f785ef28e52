-- What is known of rows that passed the tests of the input.
use Rattle.std.specs.Prelude.{ℕ, ◌*◌, ◌^◌, ◌≤◌, ◌<◌, List, length, get_or}
use Rattle.majorana.specs.declared.RowSet.{RowSet}

-- the slices hold the rows
pub record Fits (n w : ℕ) (xs zs ps : List ℕ) : Type 0 where
  pub modes : n ≤ 256
  pub words : w ≤ 4
  pub x_rows : 2 * n * w ≤ length xs
  pub z_rows : 2 * n * w ≤ length zs
  pub p_rows : 2 * n ≤ length ps

-- and the phases are 0 to 3; the words have 64 bits, as their type says
pub record Held (n w : ℕ) (xs zs ps : List ℕ) : Type 0 where
  pub fits : Fits n w xs zs ps
  pub x_words : (k : ℕ) → get_or xs k 0 < 2 ^ 64
  pub z_words : (k : ℕ) → get_or zs k 0 < 2 ^ 64
  pub small : (k : ℕ) → k < 2 * n → get_or ps k 0 < 4

-- of a lent set, at w words a row
abbrev pub FitsIn : RowSet → ℕ → Type 0
FitsIn s w = Fits s.modes w s.x.now s.z.now s.phases.now

abbrev pub HeldIn : RowSet → ℕ → Type 0
HeldIn s w = Held s.modes w s.x.now s.z.now s.phases.now
