-- Equations in a room of words, one after the other, and what `solve_rows` answers and leaves.
use Rattle.std.specs.Prelude.{ℕ, ◌+◌, ◌*◌, ◌%◌, ◌≡◌, Bool, true, false, cond, ◌&&◌, List, leb, length, get_or, take}
use Rattle.refusal.specs.Search.{Least, found, none}
use Rattle.dense_block.specs.Words.{value, term_of, filled, zeroed}
use Rattle.elimination.specs.Rooms.{fits}
use Rattle.elimination.specs.Equations.{solution}

-- an equation takes `width` words and one more: e is the first ones, b the lowest bit of the last; the other bits of the last are not looked at
unfoldable pub left_at : ℕ → List ℕ → ℕ → ℕ
left_at width ws i = value (take width (term_of (width + 1) ws i))

unfoldable pub right_at : ℕ → List ℕ → ℕ → ℕ
right_at width ws i = get_or (term_of (width + 1) ws i) width 0 % 2

-- at most 256 equations, with at most 4 words for e; and v has as many
abbrev pub solving_room : ℕ → ℕ → List ℕ → List ℕ → Bool
solving_room rows width ws vs = fits 256 5 rows (width + 1) (length ws) && leb width (length vs)

-- the solution on all the columns of `width` words
unfoldable pub solved_rows : ℕ → ℕ → List ℕ → List ℕ → Least
solved_rows rows width ws vs = cond (solving_room rows width ws vs) (solution rows (left_at width ws) (right_at width ws) (64 * width)) none

abbrev pub is_found : Least → Bool
is_found (found v) = true
is_found none = false

-- what is found, in the first w words; those past them stay
abbrev pub written : ℕ → Least → List ℕ → List ℕ
written w (found v) ws = filled w v ws
written w none ws = ws

-- what `solve_rows` promises of its answer, and of the string and the room at exit: the equations are zero, and the words past them stay
pub record RowsSolved (rows width : ℕ) (ws vs : List ℕ) (r : Bool) (us ts : List ℕ) : Type 0 where
  pub answer : r ≡ is_found (solved_rows rows width ws vs)
  pub string : us ≡ written width (solved_rows rows width ws vs) vs
  pub room : ts ≡ cond (solving_room rows width ws vs) (zeroed (rows * (width + 1)) ws) ws
