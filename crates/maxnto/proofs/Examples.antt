-- Small cases of MaxNTO, by computing: the rows of 2 modes, what the call leaves, and each refusal before the next.
use Prim.Native.Nat.{ℕ}
use mathlib.Core.Path.{◌≡◌, refl}
use mathlib.Core.List.{[], ◌∷◌}
use lib.Count.{ones, ones_in}
use Rattle.refusal.specs.Numbers.{bare}
use Rattle.algebra.specs.Rows.{Row, common}
use Rattle.maxnto.specs.Formula.{columns, x_part, z_part, phase_of, maxnto_row}
use Rattle.maxnto.specs.Call.{Input, given, bad_modes, odd_modes, too_short, answer, xs_left, zs_left, ps_left}

abbrev row : ℕ → ℕ → ℕ → Row
row p x z = record { p = p; x = x; z = z }

-- ZX, ZY, XI, YI, phases 0, 1, 0, 1
two_modes : maxnto_row 2 0 ∷ maxnto_row 2 1 ∷ maxnto_row 2 2 ∷ maxnto_row 2 3 ∷ [] ≡ row 0 2 1 ∷ row 1 2 3 ∷ row 0 1 0 ∷ row 1 1 1 ∷ []
unfolding x_part z_part phase_of columns common ones ones_in
two_modes = refl

-- 4 modes, rows 6 and 7: for odd i the Z part is that of the formula, and columns below i stay 0, odd ones too
four_modes : maxnto_row 4 6 ∷ maxnto_row 4 7 ∷ [] ≡ row 0 7 0 ∷ row 3 7 7 ∷ []
unfolding x_part z_part phase_of columns common ones ones_in
four_modes = refl

-- the words past the needed length stay
abbrev lent : Input
lent = given 2 (9 ∷ 9 ∷ 9 ∷ 9 ∷ 7 ∷ []) (9 ∷ 9 ∷ 9 ∷ 9 ∷ 7 ∷ []) (9 ∷ 9 ∷ 9 ∷ 9 ∷ 7 ∷ [])

two_modes_left : (answer lent ≡ bare 0) × (xs_left lent ≡ 2 ∷ 2 ∷ 1 ∷ 1 ∷ 7 ∷ []) × (zs_left lent ≡ 1 ∷ 3 ∷ 0 ∷ 1 ∷ 7 ∷ []) × (ps_left lent ≡ 0 ∷ 1 ∷ 0 ∷ 1 ∷ 7 ∷ [])
unfolding answer xs_left zs_left ps_left bad_modes odd_modes too_short x_part z_part phase_of columns common ones ones_in
two_modes_left = (refl, refl, refl, refl)

-- 1 before 18, 18 before 2
no_modes : answer (given 0 [] [] []) ≡ bare 1
unfolding answer bad_modes
no_modes = refl

too_many : answer (given 257 [] [] []) ≡ bare 1
unfolding answer bad_modes
too_many = refl

odd_and_short : answer (given 255 [] [] []) ≡ bare 18
unfolding answer bad_modes odd_modes
odd_and_short = refl

too_short_lem : answer (given 2 (0 ∷ 0 ∷ 0 ∷ 0 ∷ []) (0 ∷ 0 ∷ 0 ∷ 0 ∷ []) (0 ∷ 0 ∷ 0 ∷ [])) ≡ bare 2
unfolding answer bad_modes odd_modes too_short
too_short_lem = refl

refused_keeps : (xs_left (given 3 (5 ∷ []) (6 ∷ []) (7 ∷ [])) ≡ 5 ∷ []) × (zs_left (given 3 (5 ∷ []) (6 ∷ []) (7 ∷ [])) ≡ 6 ∷ []) × (ps_left (given 3 (5 ∷ []) (6 ∷ []) (7 ∷ [])) ≡ 7 ∷ [])
unfolding answer xs_left zs_left ps_left bad_modes odd_modes
refused_keeps = (refl, refl, refl)
