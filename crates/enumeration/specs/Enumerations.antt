-- What mode enumeration answers and leaves.
use Rattle.std.specs.Prelude.{ℕ, ◌*◌, ◌≡◌, List, [], ◌∷◌, ◌++◌, Bool, not, ◌||◌, length, drop}
use Rattle.refusal.specs.Numbers.{Paper, Answer, answered}
use Rattle.refusal.specs.Table.{Lent, ◌gives◌, ◌names◌, first_of, ◌of◌, short, on_done, past_two}
use Rattle.algebra.specs.Modes.{vacuum_rule, commuting_pair}
use Rattle.algebra.specs.Choices.{dependent}
use Rattle.dense_block.specs.Words.{zeroed}
use Rattle.majorana.specs.Sets.{Set, width, modes, trimmed, bits, bad_size, set_lent}
use Rattle.majorana.specs.Checks.{vacuum_bad, check_room}
use Rattle.enumeration.specs.Orders.{permutation, enumerated_words, enumerated_phases}

-- the slices that are written: rows, phases, vacuum, and the work room
pub record Outs : Type 0 where
  pub xs : List ℕ
  pub zs : List ℕ
  pub ps : List ℕ
  pub vs : List ℕ
  pub room : List ℕ

abbrev pub outs : List ℕ → List ℕ → List ℕ → List ℕ → List ℕ → Outs
outs xs zs ps vs room = record { xs = xs; zs = zs; ps = ps; vs = vs; room = room }

-- 2: a row set, a vacuum and a map are read, a row set and a vacuum written, and there is the room of the row check
abbrev pub all_lent : ℕ → ℕ → ℕ → ℕ → ℕ → ℕ → ℕ → ℕ → ℕ → ℕ → ℕ → ℕ → List Lent
all_lent n w x z p v m ox oz op ov room = set_lent n w x z p ((w of v) ∷ (n of m) ∷ set_lent n w ox oz op ((w of ov) ∷ (4 * n * w of room) ∷ []))

unfoldable pub enumeration_short : Set → List ℕ → List ℕ → Outs → Bool
enumeration_short s vs ms o =
    short (all_lent s.n (width s) (length s.xs) (length s.zs) (length s.ps) (length vs) (length ms)
    (length o.xs) (length o.zs) (length o.ps) (length o.vs) (length o.room))

-- 17: the row set, a stray bit in the vacuum, or a map that is not a permutation
unfoldable pub enumeration_bad : Set → List ℕ → List ℕ → Bool
enumeration_bad s vs ms = vacuum_bad s vs || not (permutation s.n ms)

unfoldable pub enumeration_checked : Set → List ℕ → List ℕ → Outs → Paper
enumeration_checked s vs ms o =
    first_of (
    (bad_size s.n s.q gives 1)
    ∷ (enumeration_short s vs ms o gives 2)
    ∷ (enumeration_bad s vs ms gives 17)
    ∷ (commuting_pair (modes s) names 10)
    ∷ (dependent (modes s) gives 11)
    ∷ (not (vacuum_rule (modes s) (bits s.q vs)) gives 13)
    ∷ [])

-- new rows, new phases and the same vacuum in the first places of a slice; those past them stay
abbrev pub new_words : Set → List ℕ → List ℕ → List ℕ → List ℕ
new_words s ms xs old = enumerated_words (width s) s.n ms xs ++ drop (2 * s.n * width s) old

abbrev pub new_phases : Set → List ℕ → List ℕ → List ℕ
new_phases s ms old = enumerated_phases s.n ms s.ps ++ drop (2 * s.n) old

abbrev pub same_vacuum : Set → List ℕ → List ℕ → List ℕ
same_vacuum s vs old = trimmed s.q vs ++ drop (width s) old

pub record Enumerated (s : Set) (vs ms : List ℕ) (old : Outs) (r : Answer) (new : Outs) : Type 0 where
  pub answer : answered r ≡ enumeration_checked s vs ms old
  pub x_rows : new.xs ≡ on_done (enumeration_checked s vs ms old) (new_words s ms s.xs old.xs) old.xs
  pub z_rows : new.zs ≡ on_done (enumeration_checked s vs ms old) (new_words s ms s.zs old.zs) old.zs
  pub phases : new.ps ≡ on_done (enumeration_checked s vs ms old) (new_phases s ms old.ps) old.ps
  pub vacuum : new.vs ≡ on_done (enumeration_checked s vs ms old) (same_vacuum s vs old.vs) old.vs
  pub left : new.room ≡ past_two (enumeration_checked s vs ms old) (zeroed (check_room s) old.room) old.room
