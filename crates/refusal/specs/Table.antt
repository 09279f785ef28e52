-- The order of refusals: a table of tests, of which the first that holds gives the number.
use Rattle.std.specs.Prelude.{ℕ, zero, suc, List, [], ◌∷◌, Bool, true, false, cond, ◌||◌, eqb, ltb}
use Rattle.refusal.specs.Numbers.{Paper, bare}
use Rattle.refusal.specs.Search.{Pair, pair, no_pair}

infix 20 ◌gives◌
infix 20 ◌names◌
-- `test gives k`: refused by number k if the test holds. `found names k`: refused by number k, with the pair, if a pair was found
pub data Rule : Type 0 where
  ◌gives◌ : Bool → ℕ → Rule
  ◌names◌ : Pair → ℕ → Rule

-- what the first rule that refuses hands back; done if none does
abbrev pub first_of : List Rule → Paper
first_of [] = bare 0
first_of ((true gives k) ∷ rules) = bare k
first_of ((false gives k) ∷ rules) = first_of rules
first_of ((pair i j names k) ∷ rules) = record { number = k; first = i; second = j }
first_of ((no_pair names k) ∷ rules) = first_of rules

-- ---- 1: 0 or above 256

abbrev pub outside : ℕ → Bool
outside k = eqb k 0 || ltb 256 k

-- ---- 2: a lent slice is shorter than stated

infix 20 ◌of◌
-- `need of have`: a slice of length `have`, of which `need` are needed
pub data Lent : Type 0 where
  ◌of◌ : ℕ → ℕ → Lent

abbrev pub short : List Lent → Bool
short [] = false
short ((need of have) ∷ rest) = ltb have need || short rest

-- ---- what a call leaves

abbrev pub if_zero : {A : Type 0} → ℕ → A → A → A
if_zero zero new old = new
if_zero (suc k) new old = old

-- an output: `new` if the call is done, and what it held if it is refused
abbrev pub on_done : {A : Type 0} → Paper → A → A → A
on_done p new old = if_zero p.number new old

-- work room: `cleared` after a call that got past 1 and 2, and what it held otherwise
abbrev pub past_two : {A : Type 0} → Paper → A → A → A
past_two p cleared old = cond (eqb p.number 1 || eqb p.number 2) old cleared
