-- Small cases, by computing: maps that are permutations and maps that are not, rows in their new order, and the call on Jordan-Wigner's two modes.
use mathlib.Core.Path.{◌≡◌, refl}
use mathlib.Core.List.{[], ◌∷◌}
use mathlib.Core.Bool.{true, false}
use lib.Count.{ones, ones_in}
use Rattle.refusal.specs.declared.Refusal.TheVariants.{Value, Vacuum}
use Rattle.std.specs.Prelude.{Ok, Err}
use Rattle.refusal.specs.Search.{some_below, all_below, least_below, first_pair}
use Rattle.algebra.specs.Rows.{bit, common, dot, clash}
use Rattle.algebra.specs.Modes.{commuting_pair, vacuum_rule, e, d, paired, empty}
use Rattle.algebra.specs.Choices.{combo, dependent}
use Rattle.dense_block.specs.Words.{strays}
use Rattle.majorana.specs.Sets.{Set, given, bad_size, bad_row_at, bad_rows}
use Rattle.majorana.specs.Checks.{vacuum_bad}
use Rattle.enumeration.specs.Orders.{among, new_number, permutation, enumerated_words, enumerated_phases}
use Rattle.enumeration.specs.Enumerations.{Outs, outs, enumeration_short, enumeration_bad, enumeration_checked, Enumerated}

-- the identity on one, two and three modes, two modes exchanged, three moved round; what stands past n numbers is not looked at
pub permutations :
    (permutation 1 (0 ∷ []) ≡ true) × (permutation 2 (0 ∷ 1 ∷ []) ≡ true) × (permutation 3 (0 ∷ 1 ∷ 2 ∷ []) ≡ true)
    × (permutation 2 (1 ∷ 0 ∷ []) ≡ true) × (permutation 3 (1 ∷ 2 ∷ 0 ∷ []) ≡ true) × (permutation 2 (1 ∷ 0 ∷ 1 ∷ 9 ∷ []) ≡ true)
unfolding permutation new_number among all_below some_below
permutations = (refl, refl, refl, refl, refl, refl)

-- a repeat, at once and later; a hole at 0 and at 1; the number n, first and last; a number far above
pub no-permutations :
    (permutation 2 (1 ∷ 1 ∷ []) ≡ false) × (permutation 3 (2 ∷ 0 ∷ 2 ∷ []) ≡ false) × (permutation 3 (1 ∷ 2 ∷ 2 ∷ []) ≡ false) × (permutation 3 (0 ∷ 3 ∷ 2 ∷ []) ≡ false)
    × (permutation 2 (2 ∷ 0 ∷ []) ≡ false) × (permutation 2 (0 ∷ 2 ∷ []) ≡ false) × (permutation 2 (0 ∷ 256 ∷ []) ≡ false)
unfolding permutation new_number among all_below some_below
no-permutations = (refl, refl, refl, refl, refl, refl, refl)

-- three modes moved round: new mode i is old mode i + 1, and not the other way
pub moved_round : (enumerated_words 1 3 (1 ∷ 2 ∷ 0 ∷ []) (10 ∷ 11 ∷ 20 ∷ 21 ∷ 30 ∷ 31 ∷ []) ≡ 20 ∷ 21 ∷ 30 ∷ 31 ∷ 10 ∷ 11 ∷ [])
    × (enumerated_phases 3 (1 ∷ 2 ∷ 0 ∷ []) (0 ∷ 1 ∷ 2 ∷ 3 ∷ 0 ∷ 3 ∷ []) ≡ 2 ∷ 3 ∷ 0 ∷ 3 ∷ 0 ∷ 1 ∷ [])
unfolding enumerated_words enumerated_phases
moved_round = (refl, refl)

-- ---- the call

-- XI, YI, ZX, ZY
abbrev jordan_wigner : Set
jordan_wigner = given 2 2 (1 ∷ 1 ∷ 2 ∷ 2 ∷ []) (0 ∷ 1 ∷ 1 ∷ 3 ∷ []) (0 ∷ 1 ∷ 0 ∷ 1 ∷ [])

-- slices one longer than needed
abbrev sevens : Outs
sevens = outs (7 ∷ 7 ∷ 7 ∷ 7 ∷ 7 ∷ []) (7 ∷ 7 ∷ 7 ∷ 7 ∷ 7 ∷ []) (7 ∷ 7 ∷ 7 ∷ 7 ∷ 7 ∷ []) (7 ∷ 7 ∷ []) (7 ∷ 7 ∷ 7 ∷ 7 ∷ 7 ∷ 7 ∷ 7 ∷ 7 ∷ 7 ∷ [])

-- the same, the room zero over its eight words
abbrev cleared : Outs
cleared = outs (7 ∷ 7 ∷ 7 ∷ 7 ∷ 7 ∷ []) (7 ∷ 7 ∷ 7 ∷ 7 ∷ 7 ∷ []) (7 ∷ 7 ∷ 7 ∷ 7 ∷ 7 ∷ []) (7 ∷ 7 ∷ []) (0 ∷ 0 ∷ 0 ∷ 0 ∷ 0 ∷ 0 ∷ 0 ∷ 0 ∷ 7 ∷ [])

-- ZX, ZY, XI, YI
abbrev exchanged : Outs
exchanged = outs (2 ∷ 2 ∷ 1 ∷ 1 ∷ 7 ∷ []) (1 ∷ 3 ∷ 0 ∷ 1 ∷ 7 ∷ []) (0 ∷ 1 ∷ 0 ∷ 1 ∷ 7 ∷ []) (0 ∷ 7 ∷ []) (0 ∷ 0 ∷ 0 ∷ 0 ∷ 0 ∷ 0 ∷ 0 ∷ 0 ∷ 7 ∷ [])

pub exchange_done : Enumerated jordan_wigner (0 ∷ []) (1 ∷ 0 ∷ []) sevens (Ok tt) exchanged
unfolding enumeration_checked enumeration_short enumeration_bad vacuum_bad bad_size bad_rows bad_row_at strays permutation new_number among commuting_pair first_pair least_below clash dependent combo bit vacuum_rule empty paired e d dot common ones ones_in all_below some_below enumerated_words enumerated_phases
exchange_done = record { answer = refl; x_rows = refl; z_rows = refl; phases = refl; vacuum = refl; left = refl }

-- a repeat: 17, no output changed, the room cleared
pub repeat_refused : Enumerated jordan_wigner (0 ∷ []) (1 ∷ 1 ∷ []) sevens (Err Value) cleared
unfolding enumeration_checked enumeration_short enumeration_bad vacuum_bad bad_size bad_rows bad_row_at strays permutation new_number among all_below some_below
repeat_refused = record { answer = refl; x_rows = refl; z_rows = refl; phases = refl; vacuum = refl; left = refl }

-- the vacuum 10 breaks the rule: 13, after the map passed
pub vacuum_refused : Enumerated jordan_wigner (1 ∷ []) (1 ∷ 0 ∷ []) sevens (Err Vacuum) cleared
unfolding enumeration_checked enumeration_short enumeration_bad vacuum_bad bad_size bad_rows bad_row_at strays permutation new_number among commuting_pair first_pair least_below clash dependent combo bit vacuum_rule empty paired e d dot common ones ones_in all_below some_below
vacuum_refused = record { answer = refl; x_rows = refl; z_rows = refl; phases = refl; vacuum = refl; left = refl }
