-- For the private functions, and needs no belief: what the row check and solving leave in work room, and the task that is left once no test of the input refuses.
use Rattle.std.specs.Prelude.{ℕ, ◌+◌, ◌*◌, ◌/◌, ◌<◌, ◌≡◌, Bool, not, cond, List, [], ◌∷◌, ◌++◌, length, drop, Option, Some, None}
use Rattle.refusal.specs.Numbers.{Paper, Answer, bare, answered}
use Rattle.refusal.specs.Search.{all_below, Pair, pair, no_pair}
use Rattle.refusal.specs.Table.{Rule, ◌gives◌, ◌names◌, first_of, on_done}
use Rattle.algebra.specs.Modes.{Modes, d, paired, vacuum_rule, commuting_pair}
use Rattle.algebra.specs.Choices.{dependent}
use Rattle.algebra.specs.Solving.{solvable}
use Rattle.dense_block.specs.Words.{xors, term_of, filled}
use Rattle.majorana.specs.Sets.{modes_at}
use Rattle.majorana.specs.Vacuums.{vacuum}

-- the words past the first `size` stay
pub record Same (size : ℕ) (before after : List ℕ) : Type 0 where
  pub long : length after ≡ length before
  pub behind : drop size after ≡ drop size before

-- ---- the row check

abbrev pub pair_of : Option (ℕ × ℕ) → Pair
pair_of (Some (i, j)) = pair i j
pair_of None = no_pair

-- row r of the room is row r's X part and then its Z part
pub record Loaded (rows w : ℕ) (xs zs before after : List ℕ) : Type 0 where
  pub at : (r : ℕ) → r < rows → term_of (w + w) after r ≡ term_of w xs r ++ term_of w zs r
  pub same : Same (rows * (w + w)) before after

-- 10, 11 and 13
unfoldable pub task_checked : Modes → ℕ → Paper
task_checked m v =
    first_of (
    (commuting_pair m names 10)
    ∷ (dependent m gives 11)
    ∷ (not (vacuum_rule m v) gives 13)
    ∷ [])

-- 17 before them
abbrev pub value_checked : Bool → Paper → Paper
value_checked bad task = cond bad (bare 17) task

-- ---- solving, and `new`

unfoldable pub all_paired : Modes → Bool
all_paired m = all_below m.n (paired m)

-- equation i: e in w words, and d/2 in one more
abbrev pub equation_of : ℕ → ℕ → List ℕ → List ℕ → List ℕ → ℕ → List ℕ
equation_of n w xs zs ps i = xors (term_of w zs (2 * i)) (term_of w zs (2 * i + 1)) ++ (d (modes_at n w xs zs ps) i / 2 ∷ [])

pub record EquationsLoaded (n w : ℕ) (xs zs ps before after : List ℕ) : Type 0 where
  pub at : (i : ℕ) → i < n → term_of (w + 1) after i ≡ equation_of n w xs zs ps i
  pub same : Same (n * (w + 1)) before after

-- 17 and 12
pub record SolvedLent (bad : Bool) (m : Modes) (q w : ℕ) (vs room : List ℕ) (r : Answer) (after left : List ℕ) : Type 0 where
  pub answer : answered r ≡ first_of ((bad gives 17) ∷ (not (solvable m q) gives 12) ∷ [])
  pub string : after ≡ on_done (answered r) (filled w (vacuum m q) vs) vs
  pub same : Same (m.n * (w + 1)) room left

-- 17, 12, 10, 11 and 13
abbrev pub new_task : Bool → Modes → ℕ → List Rule
new_task bad m q =
    (bad gives 17)
    ∷ (not (solvable m q) gives 12)
    ∷ (commuting_pair m names 10)
    ∷ (dependent m gives 11)
    ∷ (not (vacuum_rule m (vacuum m q)) gives 13)
    ∷ []

pub record NewLent (bad : Bool) (m : Modes) (q w : ℕ) (vs room : List ℕ) (r : Answer) (after left : List ℕ) : Type 0 where
  pub answer : answered r ≡ first_of (new_task bad m q)
  pub string : after ≡ on_done (answered r) (filled w (vacuum m q) vs) vs
  pub same : Same (2 * m.n * (w + w)) room left
