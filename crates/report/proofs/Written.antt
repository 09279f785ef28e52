-- The report of the two-mode Jordan-Wigner tree, byte for byte, by computing its definition.
use Prim.Native.Nat.{ℕ, zero, suc}
use mathlib.Core.Path.{◌≡◌, refl}
use mathlib.Core.List.{[], ◌∷◌, ◌++◌}
use Rattle.algebra.specs.Rows.{Row, bit}
use Rattle.report.specs.Report.{digits_in, digits_of, row_number, refused_line, report}

-- rows XI, YI, ZX, ZY: column 0 is the lowest bit
abbrev row : ℕ → Row
row zero = record { p = 0; x = 1; z = 0 }
row (suc zero) = record { p = 1; x = 1; z = 1 }
row (suc (suc zero)) = record { p = 0; x = 2; z = 1 }
row (suc (suc (suc k))) = record { p = 1; x = 2; z = 3 }

-- majorana 2 2, 0 0 XI, 1 1 YI, 2 0 ZX, 3 1 ZY, vacuum 00, with tabs for blanks
two-mode-report :
    report 2 2 row 0
    ≡ (109 ∷ 97 ∷ 106 ∷ 111 ∷ 114 ∷ 97 ∷ 110 ∷ 97 ∷ 9 ∷ 50 ∷ 9 ∷ 50 ∷ 10 ∷ [])
    ++ ((48 ∷ 9 ∷ 48 ∷ 9 ∷ 88 ∷ 73 ∷ 10 ∷ [])
    ++ ((49 ∷ 9 ∷ 49 ∷ 9 ∷ 89 ∷ 73 ∷ 10 ∷ [])
    ++ ((50 ∷ 9 ∷ 48 ∷ 9 ∷ 90 ∷ 88 ∷ 10 ∷ [])
    ++ ((51 ∷ 9 ∷ 49 ∷ 9 ∷ 90 ∷ 89 ∷ 10 ∷ [])
    ++ (118 ∷ 97 ∷ 99 ∷ 117 ∷ 117 ∷ 109 ∷ 9 ∷ 48 ∷ 48 ∷ 10 ∷ [])))))
unfolding report digits_of digits_in row_number bit
two-mode-report = refl

malformed_report : refused_line 16 ≡ 114 ∷ 101 ∷ 102 ∷ 117 ∷ 115 ∷ 101 ∷ 100 ∷ 9 ∷ 49 ∷ 54 ∷ 10 ∷ []
unfolding digits_of digits_in
malformed_report = refl

largest_digits : digits_of 18446744073709551615 ≡ 49 ∷ 56 ∷ 52 ∷ 52 ∷ 54 ∷ 55 ∷ 52 ∷ 52 ∷ 48 ∷ 55 ∷ 51 ∷ 55 ∷ 48 ∷ 57 ∷ 53 ∷ 53 ∷ 49 ∷ 54 ∷ 49 ∷ 53 ∷ []
unfolding digits_of digits_in
largest_digits = refl
