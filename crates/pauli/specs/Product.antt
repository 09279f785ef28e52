-- What `meet` says of two rows: the phase of their product, and whether they commute. What `multiply` answers and leaves: the product of two rows on q columns with the same
-- yes or no, or the first refusal.
use Rattle.std.specs.Prelude.{ℕ, ◌≡◌, List, [], ◌∷◌, Bool, false, ◌||◌, eqb, ltb, length, take, Result, Ok, Err}
use Rattle.refusal.specs.Numbers.{Paper, bare, paper}
use Rattle.refusal.specs.Table.{◌gives◌, first_of, ◌of◌, outside, short, on_done}
use Rattle.refusal.specs.declared.Refusal.{Refusal}
use Rattle.algebra.specs.Rows.{Row, OnColumns, times, clash}
use Rattle.dense_block.specs.Words.{value, words_for, filled, strays}
use Rattle.pauli.specs.declared.Meeting.{Meeting}
use Rattle.pauli.specs.declared.Row.{Row as Lent}

-- a row as it is lent: its phase, and the words of its X and Z parts
pub record LentRow : Type 0 where
  pub p : ℕ
  pub xs : List ℕ
  pub zs : List ℕ

abbrev pub lent_row : ℕ → List ℕ → List ℕ → LentRow
lent_row p xs zs = record { p = p; xs = xs; zs = zs }

-- a row of the code
abbrev pub lent : Lent → LentRow
lent r = lent_row r.phase.power r.x.now r.z.now

-- what is lent: columns, two rows, and room for the X and Z parts of the product
pub record Input : Type 0 where
  pub q : ℕ
  pub left : LentRow
  pub right : LentRow
  pub out_xs : List ℕ
  pub out_zs : List ℕ

abbrev pub given : ℕ → LentRow → LentRow → List ℕ → List ℕ → Input
given q left right oxs ozs = record { q = q; left = left; right = right; out_xs = oxs; out_zs = ozs }

-- the first w words of each part
abbrev pub first_words : ℕ → LentRow → LentRow
first_words w r = lent_row r.p (take w r.xs) (take w r.zs)

-- the words that q columns take
abbrev pub trimmed : ℕ → LentRow → LentRow
trimmed q r = first_words (words_for q) r

abbrev pub row_of : LentRow → Row
row_of r = record { p = r.p; x = value r.xs; z = value r.zs }

abbrev pub left_row : Input → Row
left_row i = row_of (trimmed i.q i.left)

abbrev pub right_row : Input → Row
right_row i = row_of (trimmed i.q i.right)

abbrev pub product : Input → Row
product i = times (left_row i) (right_row i)

-- two rows commute: x·z' + z·x' is even
abbrev pub commuting : Row → Row → Bool
commuting r s = eqb (clash r s) 0

-- what `meet` says, whatever the rows' words are
pub record Meets (left right : LentRow) (r : Meeting) : Type 0 where
  pub phase : r.phase.power ≡ (times (row_of left) (row_of right)).p
  pub commute : r.commute ≡ commuting (row_of left) (row_of right)

-- ---- refusals

-- phase above 3, stray high bit
unfoldable pub bad_row : ℕ → LentRow → Bool
bad_row q r = ltb 3 r.p || (strays r.xs q || strays r.zs q)

unfoldable pub too_short : Input → Bool
too_short i =
    short (
    (words_for i.q of length i.left.xs) ∷ (words_for i.q of length i.left.zs)
    ∷ (words_for i.q of length i.right.xs) ∷ (words_for i.q of length i.right.zs)
    ∷ (words_for i.q of length i.out_xs) ∷ (words_for i.q of length i.out_zs) ∷ [])

-- the order of the refusals
unfoldable pub refused : Input → Paper
refused i =
    first_of (
    (outside i.q gives 1)
    ∷ (too_short i gives 2)
    ∷ (bad_row i.q (trimmed i.q i.left) || bad_row i.q (trimmed i.q i.right) gives 17)
    ∷ [])

-- ---- the answer

-- a number, its pair, the phase of the product, and whether the two rows commute. Other numbers in a refused answer are 0, and it says no
pub record Told : Type 0 where
  pub told : Paper
  pub phase : ℕ
  pub commute : Bool

abbrev pub product_paper : Result Meeting Refusal → Told
product_paper (Ok m) = record { told = bare 0; phase = m.phase.power; commute = m.commute }
product_paper (Err r) = record { told = paper r; phase = 0; commute = false }

unfoldable pub multiplied : Input → Told
multiplied i = record {
  told = refused i;
  phase = on_done (refused i) (product i).p 0;
  commute = on_done (refused i) (commuting (left_row i) (right_row i)) false;
}

unfoldable pub product_x : Input → List ℕ
product_x i = on_done (refused i) (filled (words_for i.q) (product i).x i.out_xs) i.out_xs

unfoldable pub product_z : Input → List ℕ
product_z i = on_done (refused i) (filled (words_for i.q) (product i).z i.out_zs) i.out_zs

-- what `multiply` promises of its answer r, and of the two parts at exit
pub record Multiplied (i : Input) (r : Result Meeting Refusal) (xs zs : List ℕ) : Type 0 where
  pub answer : product_paper r ≡ multiplied i
  pub x_part : xs ≡ product_x i
  pub z_part : zs ≡ product_z i

-- ---- a row left in lent words

-- they stand for the row r on q columns: none of its bits is cut off, and the first ceil(q/64) words have no stray bit, so it may be lent again
pub record Whole (q : ℕ) (r : Row) (l : LentRow) : Type 0 where
  pub on_columns : OnColumns q r
  pub stands : row_of (trimmed q l) ≡ r
  pub good : bad_row q (trimmed q l) ≡ false
