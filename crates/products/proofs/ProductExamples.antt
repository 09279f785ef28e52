-- Products on small inputs, by computing their definitions: Jordan-Wigner on two modes, the order of its factors, and one input for each refusal.
use mathlib.Core.Path.{◌≡◌, refl}
use mathlib.Core.Bool.{true, false}
use mathlib.Core.List.{[], ◌∷◌}
use lib.Count.{ones, ones_in, count_trailing_zeros}
use lib.Ieee.{Float, fin, neg, binary64, of_bits, of_fields, odd}
use lib.IntN.{pos}
use Rattle.std.specs.Prelude.{Ok}
use Rattle.refusal.specs.Search.{some_below}
use Rattle.refusal.specs.Numbers.{bare}
use Rattle.algebra.specs.Rows.{common}
use Rattle.dense_block.specs.Words.{words_of, strays}
use Rattle.pauli.specs.declared.Marked.TheVariants.{Real, Imag}
use Rattle.pauli.specs.Phases.{letter_power}
use Rattle.pauli.specs.Coefficients.{stands, SameNumber}
use Rattle.pauli.specs.Product.{Whole}
use Rattle.majorana.specs.Sets.{Set, given, bad_size, bad_row_at, bad_rows}
use Rattle.products.specs.Products.{product_of, product, product_size, product_short, some_high, product_bad, product_refused, Multiplies, RealMultiplies}
use Rattle.products.proofs.Theorems.{real_whole, real_stands}

-- XI, YI, ZX, ZY with phases 0, 1, 0, 1
abbrev pub jordan_wigner : Set
jordan_wigner = given 2 2 (0b01 ∷ 0b01 ∷ 0b10 ∷ 0b10 ∷ []) (0b00 ∷ 0b01 ∷ 0b01 ∷ 0b11 ∷ []) (0 ∷ 1 ∷ 0 ∷ 1 ∷ [])

-- 2 is 1 · 2^1
abbrev pub two : Float
two = fin false 1 (pos 1)

two_bits : of_bits binary64 0x4000000000000000 ≡ two
unfolding of_bits of_fields odd count_trailing_zeros
two_bits = refl

-- rows 0 then 1: p 1, ZI, so coefficient 2 is imaginary 2; the word past the first stays
pub jordan_wigner_01 : RealMultiplies jordan_wigner (0 ∷ 1 ∷ []) two (7 ∷ 8 ∷ []) (9 ∷ []) (Ok ((record { power = 1 }), (Imag two))) (0 ∷ 8 ∷ []) (0b01 ∷ [])
unfolding product_of product_size product_short some_high product_bad product_refused bad_size bad_rows bad_row_at some_below strays common ones ones_in letter_power
jordan_wigner_01 = record { answer = refl; x_part = refl; z_part = refl }

-- rows 1 then 0: p 3, ZI, so it is imaginary -2
pub jordan_wigner_10 : RealMultiplies jordan_wigner (1 ∷ 0 ∷ []) two (7 ∷ 8 ∷ []) (9 ∷ []) (Ok ((record { power = 3 }), (Imag (neg two)))) (0 ∷ 8 ∷ []) (0b01 ∷ [])
unfolding product_of product_size product_short some_high product_bad product_refused bad_size bad_rows bad_row_at some_below strays common ones ones_in letter_power
jordan_wigner_10 = record { answer = refl; x_part = refl; z_part = refl }

-- the same with the complex coefficient 2: power 3 takes (2, 0) to (0, -2)
pub jordan_wigner_complex : Multiplies jordan_wigner (1 ∷ 0 ∷ []) (record { re = two; im = fin false 0 (pos 0) }) (7 ∷ 8 ∷ []) (9 ∷ [])
    (Ok (record { power = 3 }, record { re = fin false 0 (pos 0); im = neg two })) (0 ∷ 8 ∷ []) (0b01 ∷ [])
unfolding product_of product_size product_short some_high product_bad product_refused bad_size bad_rows bad_row_at some_below strays common ones ones_in letter_power neg
jordan_wigner_complex = record { answer = refl; x_part = refl; z_part = refl }

-- what is left stands for i^3 ZI, on two columns
jordan_wigner_whole : Whole 2 (product jordan_wigner (1 ∷ 0 ∷ [])) (record { p = 3; xs = 0 ∷ 8 ∷ []; zs = 0b01 ∷ [] })
jordan_wigner_whole = real_whole jordan_wigner (1 ∷ 0 ∷ []) (7 ∷ 8 ∷ []) (9 ∷ []) two (Imag (neg two)) (record { power = 3 }) (0 ∷ 8 ∷ []) (0b01 ∷ []) jordan_wigner_10

-- and imaginary -2 for (0, -2)
jordan_wigner_stands : SameNumber (stands (Imag (neg two))) (record { re = fin false 0 (pos 0); im = neg two })
jordan_wigner_stands = (real_stands jordan_wigner (1 ∷ 0 ∷ []) (7 ∷ 8 ∷ []) (9 ∷ []) two _ _ _ _ _ _ jordan_wigner_10 jordan_wigner_complex).0.coefficient

-- no rows: the identity, phase 0, and the coefficient as it was
pub empty_product : RealMultiplies jordan_wigner [] two (7 ∷ []) (9 ∷ []) (Ok ((record { power = 0 }), (Real two))) (0 ∷ []) (0 ∷ [])
unfolding product_of product_size product_short some_high product_bad product_refused bad_size bad_rows bad_row_at some_below strays common ones ones_in letter_power
empty_product = record { answer = refl; x_part = refl; z_part = refl }

-- ---- refusals

-- 512 rows may be multiplied, and 513 not
many_rows : (product_size jordan_wigner (words_of 512 0) ≡ false) × (product_size jordan_wigner (words_of 513 0) ≡ true)
unfolding product_size bad_size
many_rows = (refl, refl)

-- too many rows, and no words for the parts
size_before_short : product_refused jordan_wigner (words_of 513 0) true [] [] ≡ bare 1
unfolding product_size product_refused bad_size
size_before_short = refl

-- row number 4 of 4 rows
number_high : product_refused jordan_wigner (0 ∷ 4 ∷ []) true (0 ∷ []) (0 ∷ []) ≡ bare 17
unfolding product_size product_short some_high product_bad product_refused bad_size bad_rows bad_row_at some_below strays
number_high = refl

-- a coefficient that is not finite
coefficient_bad : product_refused jordan_wigner (0 ∷ 1 ∷ []) false (0 ∷ []) (0 ∷ []) ≡ bare 17
unfolding product_size product_short some_high product_bad product_refused bad_size bad_rows bad_row_at some_below strays
coefficient_bad = refl

-- no words for the Z part, and a row number too high
short_before_value : product_refused jordan_wigner (4 ∷ []) true (0 ∷ []) [] ≡ bare 2
unfolding product_size product_short some_high product_bad product_refused bad_size bad_rows bad_row_at some_below strays
short_before_value = refl
