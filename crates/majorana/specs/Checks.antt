-- What the checks of a row set answer.
use Rattle.std.specs.Prelude.{ℕ, ◌*◌, ◌≡◌, List, [], ◌∷◌, Bool, not, ◌||◌, length}
use Rattle.refusal.specs.Numbers.{Paper, Answer, answered}
use Rattle.refusal.specs.Table.{◌gives◌, ◌names◌, first_of, ◌of◌, short, past_two}
use Rattle.algebra.specs.Modes.{vacuum_rule, commuting_pair}
use Rattle.algebra.specs.Choices.{dependent}
use Rattle.dense_block.specs.Words.{strays, zeroed}
use Rattle.majorana.specs.Sets.{Set, width, modes, trimmed, bits, bad_size, set_lent, bad_set}

-- ---- the vacuum check

-- 2: the row set, and a vacuum of w words
unfoldable pub vacuum_short : Set → List ℕ → Bool
vacuum_short s vs = short (set_lent s.n (width s) (length s.xs) (length s.zs) (length s.ps) ((width s of length vs) ∷ []))

-- 17: the row set, or a stray bit in the vacuum
unfoldable pub vacuum_bad : Set → List ℕ → Bool
vacuum_bad s vs = bad_set s || strays (trimmed s.q vs) s.q

unfoldable pub vacuum_checked : Set → List ℕ → Paper
vacuum_checked s vs =
    first_of (
    (bad_size s.n s.q gives 1)
    ∷ (vacuum_short s vs gives 2)
    ∷ (vacuum_bad s vs gives 17)
    ∷ (not (vacuum_rule (modes s) (bits s.q vs)) gives 13)
    ∷ [])

-- ---- the row check

-- the work room that independence needs
abbrev pub check_room : Set → ℕ
check_room s = 4 * s.n * width s

unfoldable pub rows_short : Set → List ℕ → List ℕ → Bool
rows_short s vs room = short (set_lent s.n (width s) (length s.xs) (length s.zs) (length s.ps) ((width s of length vs) ∷ (check_room s of length room) ∷ []))

unfoldable pub rows_checked : Set → List ℕ → List ℕ → Paper
rows_checked s vs room =
    first_of (
    (bad_size s.n s.q gives 1)
    ∷ (rows_short s vs room gives 2)
    ∷ (vacuum_bad s vs gives 17)
    ∷ (commuting_pair (modes s) names 10)
    ∷ (dependent (modes s) gives 11)
    ∷ (not (vacuum_rule (modes s) (bits s.q vs)) gives 13)
    ∷ [])

pub record RowsChecked (s : Set) (vs room : List ℕ) (r : Answer) (after : List ℕ) : Type 0 where
  pub answer : answered r ≡ rows_checked s vs room
  pub left : after ≡ past_two (rows_checked s vs room) (zeroed (check_room s) room) room
