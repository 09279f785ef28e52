-- What vacuum solving and `new` answer and leave.
use Rattle.std.specs.Prelude.{ℕ, ◌+◌, ◌*◌, ◌≡◌, List, [], ◌∷◌, Bool, not, length}
use Rattle.refusal.specs.Numbers.{Paper, Answer, answered}
use Rattle.refusal.specs.Search.{Least, found, none}
use Rattle.refusal.specs.Table.{◌gives◌, ◌names◌, first_of, ◌of◌, short, on_done, past_two}
use Rattle.algebra.specs.Modes.{Modes, vacuum_rule, commuting_pair}
use Rattle.algebra.specs.Choices.{dependent}
use Rattle.algebra.specs.Solving.{solvable, solved_vacuum}
use Rattle.dense_block.specs.Words.{filled, zeroed}
use Rattle.majorana.specs.Sets.{Set, width, modes, bad_size, set_lent, bad_set}
use Rattle.majorana.specs.Checks.{check_room, rows_short}

-- the vacuum that solving answers; 0 where there is none
abbrev pub vacuum_of : Least → ℕ
vacuum_of (found v) = v
vacuum_of none = 0

unfoldable pub vacuum : Modes → ℕ → ℕ
vacuum m q = vacuum_of (solved_vacuum m q)

-- ---- vacuum solving

-- the work room that it needs
abbrev pub solve_room : Set → ℕ
solve_room s = s.n * (width s + 1)

unfoldable pub solve_short : Set → List ℕ → List ℕ → Bool
solve_short s vs room = short (set_lent s.n (width s) (length s.xs) (length s.zs) (length s.ps) ((width s of length vs) ∷ (solve_room s of length room) ∷ []))

unfoldable pub solved : Set → List ℕ → List ℕ → Paper
solved s vs room =
    first_of (
    (bad_size s.n s.q gives 1)
    ∷ (solve_short s vs room gives 2)
    ∷ (bad_set s gives 17)
    ∷ (not (solvable (modes s) s.q) gives 12)
    ∷ [])

-- the vacuum is written only if it is done
pub record Solves (s : Set) (vs room : List ℕ) (r : Answer) (after left : List ℕ) : Type 0 where
  pub answer : answered r ≡ solved s vs room
  pub string : after ≡ on_done (solved s vs room) (filled (width s) (vacuum (modes s) s.q) vs) vs
  pub work : left ≡ past_two (solved s vs room) (zeroed (solve_room s) room) room

-- ---- `new`: solves, checks the rows, then checks the vacuum

unfoldable pub new_checked : Set → List ℕ → List ℕ → Paper
new_checked s vs room =
    first_of (
    (bad_size s.n s.q gives 1)
    ∷ (rows_short s vs room gives 2)
    ∷ (bad_set s gives 17)
    ∷ (not (solvable (modes s) s.q) gives 12)
    ∷ (commuting_pair (modes s) names 10)
    ∷ (dependent (modes s) gives 11)
    ∷ (not (vacuum_rule (modes s) (vacuum (modes s) s.q)) gives 13)
    ∷ [])

pub record Makes (s : Set) (vs room : List ℕ) (r : Answer) (after left : List ℕ) : Type 0 where
  pub answer : answered r ≡ new_checked s vs room
  pub string : after ≡ on_done (new_checked s vs room) (filled (width s) (vacuum (modes s) s.q) vs) vs
  pub work : left ≡ past_two (new_checked s vs room) (zeroed (check_room s) room) room
