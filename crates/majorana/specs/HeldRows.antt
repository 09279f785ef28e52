-- Rows that passed the tests of the input: their modes, and what the test for them answers.
use Rattle.std.specs.Prelude.{ℕ, ◌≡◌, ◌<◌, ◌*◌, [], ◌∷◌, length, get_or, Result, Ok}
use Rattle.refusal.specs.declared.Refusal.{Refusal}
use Rattle.refusal.specs.Numbers.{answered}
use Rattle.refusal.specs.Table.{◌gives◌, first_of}
use Rattle.algebra.specs.Modes.{Modes}
use Rattle.dense_block.specs.Words.{term_of}
use Rattle.pauli.specs.declared.Row.{Row}
use Rattle.majorana.specs.declared.RowSet.{RowSet}
use Rattle.majorana.specs.declared.rows.Rows.{Rows}
use Rattle.majorana.specs.Sets.{modes_in, many_or_short, many_or_bad}

abbrev pub modes_of : Rows → Modes
modes_of r = modes_in r.set r.w

-- r is row k, which there is
pub record IsRow (rows : Rows) (k : ℕ) (r : Row) : Type 0 where
  pub within : k < 2 * rows.set.modes
  pub phase : r.phase.power ≡ get_or rows.set.phases.now k 0
  pub x : r.x.now ≡ term_of rows.w rows.set.x.now k
  pub z : r.z.now ≡ term_of rows.w rows.set.z.now k

-- 2 and 17 of the rows alone, at w words a row, in this order; and the rows of that set
pub record RowsMade (s : RowSet) (w : ℕ) (r : Result Rows Refusal) : Type 0 where
  pub answer : answered r ≡ first_of (
      (many_or_short s.modes w (length s.x.now) (length s.z.now) (length s.phases.now) gives 2)
      ∷ (many_or_bad s.modes s.qubits w s.x.now s.z.now s.phases.now gives 17)
      ∷ [])
  pub rows : (t : Rows) → r ≡ Ok t → (t.set ≡ s) × (t.w ≡ w)
