-- Small cases of the algebra, by computing: the letters X, Y and Z on one column; Jordan-Wigner on three modes, of which all that is claimed of an encoding holds;
-- parity on two, where the order of the modes shows in the phase.
use Prim.Native.Nat.{◌+◌, ◌-◌, ◌/◌, ◌%◌, ◌^◌}
use native.Mathlib.Omega.{arith}
use mathlib.Core.Path.{◌≡◌, refl}
use mathlib.Core.List.{◌∷◌, []}
use mathlib.Core.Bool.{true}
use lib.Count.{ones, ones_in}
use lib.IntN.{pos, negsuc}
use lib.ListN.{get_or}
use Rattle.refusal.specs.Search.{all_below, some_below, least_below, no_pair, first_pair}
use Rattle.algebra.specs.Rows.{bit, common, dot, Row, state, phase, times, identity, clash}
use Rattle.algebra.specs.Modes.{Modes, e, d, paired, empty, vacuum_rule, commuting_pair}
use Rattle.algebra.specs.Coding.{done, occupy, encode_from, encode, found, foreign, seen, decode_from, decode}
use Rattle.algebra.specs.Faithful.{Faithful}
use Rattle.algebra.specs.Lowering.{lowered, Kills}
use Rattle.algebra.proofs.Pairs.{majorana_of}
use Rattle.algebra.proofs.Demand3.{demand_3}
use Rattle.algebra.proofs.Meaning.{empty_killed}

abbrev X : Row
X = record { p = 0; x = 1; z = 0 }

abbrev Y : Row
Y = record { p = 1; x = 1; z = 1 }

abbrev Z : Row
Z = record { p = 0; x = 0; z = 1 }

-- X Y = i Z, and i Z is Z with p = 1; the other order is -i Z
x_then_y : times X Y ≡ record { p = 1; x = 0; z = 1 }
unfolding common ones ones_in
x_then_y = refl

y_then_x : times Y X ≡ record { p = 3; x = 0; z = 1 }
unfolding common ones ones_in
y_then_x = refl

y_squared : times Y Y ≡ identity
unfolding common ones ones_in
y_squared = refl

-- Y takes 0 to i 1, and 1 to -i 0
y_on_zero : (state Y 0 ≡ 1) × (phase Y 0 ≡ 1)
unfolding common ones ones_in
y_on_zero = (refl, refl)

y_on_one : (state Y 1 ≡ 0) × (phase Y 1 ≡ 3)
unfolding common ones ones_in
y_on_one = (refl, refl)

letters_clash : (clash X Y ≡ 1) × (clash Y Z ≡ 1) × (clash Z X ≡ 1) × (clash X X ≡ 0)
unfolding clash common ones ones_in
letters_clash = (refl, refl, refl, refl)

-- ---- Jordan-Wigner on three modes

-- row 2j is X on column j with Z before it, row 2j + 1 Y on column j with Z before it
abbrev jordan_wigner : Modes
jordan_wigner = record { n = 3; row = λ j. record { p = j % 2; x = 2 ^ (j / 2); z = 2 ^ (j / 2 + j % 2) - 1 } }

no_pair_lem : commuting_pair jordan_wigner ≡ no_pair
unfolding commuting_pair first_pair least_below some_below clash common ones ones_in
no_pair_lem = refl

vacuum : vacuum_rule jordan_wigner 0 ≡ true
unfolding vacuum_rule all_below empty paired e d dot common ones ones_in
vacuum = refl

faithful : Faithful jordan_wigner 0
faithful = demand_3 jordan_wigner 0 (majorana_of jordan_wigner no_pair_lem) vacuum

encoded : encode jordan_wigner 0 5 ≡ done 5 0
unfolding encode encode_from occupy bit empty paired e d dot common ones ones_in
encoded = refl

decoded : decode jordan_wigner 0 6 ≡ found 6
unfolding decode decode_from seen paired e d dot common ones ones_in
decoded = refl

-- a string with a column that no mode has
no_list : decode jordan_wigner 0 8 ≡ foreign
unfolding decode decode_from seen paired e d dot common ones ones_in
no_list = refl

-- mode 1 is empty in the state of list 101, so its lowering operator kills that state
killed : Kills jordan_wigner 1 5
unfolding empty paired e d dot common ones ones_in
killed = empty_killed jordan_wigner 1 5 (omega arith) (omega arith) refl

-- and of the state of list 110 it makes -1 times that of list 100: half of -2, with the sign of mode 0, which is occupied
lowers : lowered jordan_wigner 1 3 1 ≡ record { re = negsuc 1; im = pos 0 }
unfolding lowered common ones ones_in
lowers = refl

-- ---- parity on two modes: XZ, YI, XX, XY

abbrev parity : Modes
parity = record {
  n = 2;
  row = λ j. record { p = j % 2; x = get_or (1 ∷ 1 ∷ 3 ∷ 3 ∷ []) j 0; z = get_or (2 ∷ 1 ∷ 0 ∷ 2 ∷ []) j 0 };
}

-- both modes: the second flips both columns, and the first then reads the second column
parity_both : encode parity 0 3 ≡ done 2 2
unfolding encode encode_from occupy bit empty paired e d dot common ones ones_in
parity_both = refl

parity_back : decode parity 0 2 ≡ found 3
unfolding decode decode_from seen paired e d dot common ones ones_in
parity_back = refl
