-- `multiply` on small inputs, by computing its definition: products of rows that commute and that do not, and one input for each refusal and for each two that stand next to
-- each other. In column 255 the common ones are known by `dot_pow`.
use Prim.Native.Nat.{ℕ, ◌+◌, ◌%◌, ◌^◌}
use mathlib.Core.Path.{◌≡◌, refl, sym, ap, ap₂, ◌∙◌}
use mathlib.Core.List.{[], ◌∷◌}
use mathlib.Core.Bool.{Bool, true, false}
use lib.Dec.{eqb}
use lib.Count.{ones, ones_in}
use lib.ListN.{replicate}
use Rattle.algebra.specs.Rows.{bit, common, clash}
use Rattle.algebra.proofs.Dots.{dot_zero_l, dot_pow}
use Rattle.algebra.proofs.RowLaws.{clash_dot, clash_self}
use Rattle.dense_block.specs.Words.{strays}
use Rattle.refusal.specs.Numbers.{bare}
use Rattle.pauli.specs.Phases.{letter_power}
use Rattle.pauli.specs.Product.{LentRow, lent_row, Input, given, product, row_of, bad_row, too_short, refused, Told, multiplied, product_x, product_z, Whole}
use Rattle.pauli.proofs.Theorems.{multiply_whole}

-- X and then Y is i Z; the word past the first stays
abbrev x_then_y : Input
x_then_y = given 1 (lent_row 0 (1 ∷ []) (0 ∷ [])) (lent_row 1 (1 ∷ []) (1 ∷ [])) (7 ∷ 8 ∷ []) (9 ∷ [])

product_done : multiplied x_then_y ≡ record { told = bare 0; phase = 1; commute = false }
unfolding multiplied refused bad_row too_short strays common clash ones ones_in
product_done = refl

product_x_lem : product_x x_then_y ≡ 0 ∷ 8 ∷ []
unfolding product_x refused bad_row too_short strays
product_x_lem = refl

product_z_lem : product_z x_then_y ≡ 1 ∷ []
unfolding product_z refused bad_row too_short strays
product_z_lem = refl

-- which stand for i Z on one column, and nothing else
product_whole : Whole 1 (product x_then_y) (record { p = 1; xs = 0 ∷ 8 ∷ []; zs = 1 ∷ [] })
product_whole = multiply_whole x_then_y (record { phase = record { power = 1 }; commute = false }) (0 ∷ 8 ∷ []) (1 ∷ []) (record { answer = sym product_done; x_part = sym product_x_lem; z_part = sym product_z_lem })

-- ---- whether two rows commute

-- rows on two columns, column 0 lowest
abbrev row : ℕ → ℕ → ℕ → LentRow
row p x z = lent_row p (x ∷ []) (z ∷ [])

abbrev xi : LentRow
xi = row 0 0b01 0b00

abbrev yi : LentRow
yi = row 1 0b01 0b01

abbrev ix : LentRow
ix = row 0 0b10 0b00

abbrev two_columns : LentRow → LentRow → Input
two_columns l r = record { q = 2; left = l; right = r; out_xs = 0 ∷ []; out_zs = 0 ∷ [] }

abbrev done : ℕ → Bool → Told
done f c = record { told = bare 0; phase = f; commute = c }

-- XI and YI do not, in either order
pair_no : (multiplied (two_columns xi yi) ≡ done 1 false) × (multiplied (two_columns yi xi) ≡ done 3 false)
unfolding multiplied refused bad_row too_short strays common clash ones ones_in
pair_no = (refl, refl)

-- XI and IX do, and YI with itself, and XX and ZZ, whose letters anticommute in two columns
pair_yes : (multiplied (two_columns xi ix) ≡ done 0 true) × (multiplied (two_columns yi yi) ≡ done 0 true) × (multiplied (two_columns (row 0 0b11 0b00) (row 0 0b00 0b11)) ≡ done 0 true)
unfolding multiplied refused bad_row too_short strays common clash ones ones_in
pair_yes = (refl, refl, refl)

-- a refused product says no, of two rows that commute too
refused_no : multiplied (two_columns (row 4 0b01 0b00) xi) ≡ record { told = bare 17; phase = 0; commute = false }
unfolding multiplied refused bad_row too_short strays
refused_no = refl

-- rows of 256 columns that differ in column 255 only, X and Z there, do not; the first does with itself
abbrev x_last : LentRow
x_last = lent_row 0 (1 ∷ 0 ∷ 0 ∷ 2 ^ 63 ∷ []) (0 ∷ 0 ∷ 0 ∷ 0 ∷ [])

abbrev z_last : LentRow
z_last = lent_row 0 (1 ∷ 0 ∷ 0 ∷ 0 ∷ []) (0 ∷ 0 ∷ 0 ∷ 2 ^ 63 ∷ [])

abbrev all_columns : LentRow → LentRow → Input
all_columns l r = record { q = 256; left = l; right = r; out_xs = replicate 4 0; out_zs = replicate 4 0 }

last_no : multiplied (all_columns x_last z_last) ≡ done 0 false
unfolding multiplied refused bad_row too_short strays common ones ones_in bit
last_no = ap (λ (k : ℕ). done 0 (eqb k 0)) (clash_dot (row_of x_last) (row_of z_last) ∙ ap₂ (λ (a b : ℕ). (a + b) % 2) (dot_pow (1 + 2 ^ 255) 255) (dot_zero_l 1))

last_yes : multiplied (all_columns x_last x_last) ≡ done 0 true
unfolding multiplied refused bad_row too_short strays common ones ones_in
last_yes = ap (λ (k : ℕ). done 0 (eqb k 0)) (clash_self (row_of x_last))

-- ---- refusals

no_columns : refused (given 0 (lent_row 0 (1 ∷ []) (0 ∷ [])) (lent_row 1 (1 ∷ []) (1 ∷ [])) (0 ∷ []) (0 ∷ [])) ≡ bare 1
unfolding refused bad_row too_short strays
no_columns = refl

-- 257 columns, and every slice short
columns_before_short : refused (given 257 (lent_row 0 [] []) (lent_row 1 [] []) [] []) ≡ bare 1
unfolding refused bad_row too_short strays
columns_before_short = refl

-- 65 columns in one word, and a phase of 4
short_before_value : refused (given 65 (lent_row 4 (1 ∷ []) (0 ∷ [])) (lent_row 1 (1 ∷ []) (1 ∷ [])) (0 ∷ []) (0 ∷ [])) ≡ bare 2
unfolding refused bad_row too_short strays
short_before_value = refl

high_phase : refused (given 1 (lent_row 4 (1 ∷ []) (0 ∷ [])) (lent_row 1 (1 ∷ []) (1 ∷ [])) (0 ∷ []) (0 ∷ [])) ≡ bare 17
unfolding refused bad_row too_short strays
high_phase = refl

stray_bit : refused (given 1 (lent_row 0 (1 ∷ []) (0 ∷ [])) (lent_row 1 (1 ∷ []) (2 ∷ [])) (0 ∷ []) (0 ∷ [])) ≡ bare 17
unfolding refused bad_row too_short strays
stray_bit = refl

-- Y is i X Z: p is 1, and its letter power 0. A row of 256 letters Y with p = 0 has power 0 too, and of 255 power 1
letter_power_of_y : (letter_power 1 1 ≡ 0) × (letter_power 0 1 ≡ 3) × (letter_power 0 256 ≡ 0) × (letter_power 0 255 ≡ 1)
unfolding letter_power
letter_power_of_y = (refl, refl, refl, refl)
