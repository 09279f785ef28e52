-- A row set as it is lent: X parts and Z parts of w = ceil(q/64) words a row, row k from word k·w on, and a phase a row. Rows 2i and 2i + 1 belong to mode i.
use Rattle.std.specs.Prelude.{ℕ, ◌*◌, List, [], ◌∷◌, Bool, ◌||◌, eqb, ltb, get_or, take}
use Rattle.refusal.specs.Search.{some_below}
use Rattle.refusal.specs.Table.{Lent, ◌of◌, short}
use Rattle.algebra.specs.Rows.{Row}
use Rattle.algebra.specs.Modes.{Modes}
use Rattle.dense_block.specs.Words.{value, words_for, term_of, strays}
use Rattle.majorana.specs.declared.RowSet.{RowSet}

pub record Set : Type 0 where
  pub n : ℕ
  pub q : ℕ
  pub xs : List ℕ
  pub zs : List ℕ
  pub ps : List ℕ

abbrev pub given : ℕ → ℕ → List ℕ → List ℕ → List ℕ → Set
given n q xs zs ps = record { n = n; q = q; xs = xs; zs = zs; ps = ps }

-- the same, of the one struct in which the code lends it
abbrev pub lent : RowSet → Set
lent r = given r.modes r.qubits r.x.now r.z.now r.phases.now

abbrev pub width : Set → ℕ
width s = words_for s.q

-- row k, of rows of w words
abbrev pub row_at : ℕ → List ℕ → List ℕ → List ℕ → ℕ → Row
row_at w xs zs ps k = record { p = get_or ps k 0; x = value (term_of w xs k); z = value (term_of w zs k) }

abbrev pub modes_at : ℕ → ℕ → List ℕ → List ℕ → List ℕ → Modes
modes_at n w xs zs ps = record { n = n; row = row_at w xs zs ps }

-- the modes of a lent set, at w words a row
abbrev pub modes_in : RowSet → ℕ → Modes
modes_in s w = modes_at s.modes w s.x.now s.z.now s.phases.now

abbrev pub modes : Set → Modes
modes s = modes_at s.n (width s) s.xs s.zs s.ps

-- the words of a string of q bits, and its number
abbrev pub trimmed : ℕ → List ℕ → List ℕ
trimmed q ws = take (words_for q) ws

abbrev pub bits : ℕ → List ℕ → ℕ
bits q ws = value (trimmed q ws)

-- ---- refusals that every call shares

-- 1: modes 0 or above 256, qubits 0 or above 256
unfoldable pub bad_size : ℕ → ℕ → Bool
bad_size n q = eqb n 0 || (ltb 256 n || (eqb q 0 || ltb 256 q))

-- 2: X parts and Z parts 2n·w words each, phases 2n
abbrev pub set_lent : ℕ → ℕ → ℕ → ℕ → ℕ → List Lent → List Lent
set_lent n w x z p more = (2 * n * w of x) ∷ (2 * n * w of z) ∷ (2 * n of p) ∷ more

-- the same for the rows alone, at any sizes: more than 256 modes, or more than 4 words a row, are too much for slices of any length
unfoldable pub many_or_short : ℕ → ℕ → ℕ → ℕ → ℕ → Bool
many_or_short n w x z p = ltb 256 n || (ltb 4 w || short (set_lent n w x z p []))

-- 17: phase above 3, stray high bit
unfoldable pub bad_row_at : ℕ → ℕ → List ℕ → List ℕ → List ℕ → ℕ → Bool
bad_row_at q w xs zs ps k = ltb 3 (get_or ps k 0) || (strays (term_of w xs k) q || strays (term_of w zs k) q)

unfoldable pub bad_rows : ℕ → ℕ → ℕ → List ℕ → List ℕ → List ℕ → Bool
bad_rows n q w xs zs ps = some_below (2 * n) (bad_row_at q w xs zs ps)

abbrev pub bad_in : RowSet → ℕ → Bool
bad_in s w = bad_rows s.modes s.qubits w s.x.now s.z.now s.phases.now

abbrev pub bad_set : Set → Bool
bad_set s = bad_rows s.n s.q (width s) s.xs s.zs s.ps

-- the same at any sizes: more than 256 modes are refused too. What lies past the end of a slice counts as 0
unfoldable pub many_or_bad : ℕ → ℕ → ℕ → List ℕ → List ℕ → List ℕ → Bool
many_or_bad n q w xs zs ps = ltb 256 n || bad_rows n q w xs zs ps
