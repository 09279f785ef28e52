-- Flatpack text on small cases, by computing the definition of well-formed text.
use Prim.Native.Nat.{ℕ}
use mathlib.Core.Path.{◌≡◌, refl}
use mathlib.Core.List.{List, [], ◌∷◌, ◌++◌}
use Rattle.flatpack_text.specs.Text.{parse, cut, is_digit, field_of, lines_of, well_formed, malformed, empty, numbered}

-- `0 2 3 1` and `1 4 5 -`, tabs for blanks
abbrev first_line : List ℕ
first_line = 48 ∷ 9 ∷ 50 ∷ 9 ∷ 51 ∷ 9 ∷ 49 ∷ 10 ∷ []

abbrev two_modes : List ℕ
two_modes = first_line ++ (49 ∷ 9 ∷ 52 ∷ 9 ∷ 53 ∷ 9 ∷ 45 ∷ 10 ∷ [])

read-two-modes :
    parse two_modes
    ≡ well_formed (
    record { qubit = 0; x = numbered 2; y = numbered 3; z = numbered 1 }
    ∷ record { qubit = 1; x = numbered 4; y = numbered 5; z = empty }
    ∷ [])
unfolding parse cut is_digit field_of lines_of
read-two-modes = refl

read_nothing : parse [] ≡ well_formed []
unfolding parse cut lines_of
read_nothing = refl

-- a text of one line that begins so and goes on with tab, -, tab, -, tab, -, line feed
abbrev qubit_field : List ℕ → List ℕ
qubit_field f = f ++ (9 ∷ 45 ∷ 9 ∷ 45 ∷ 9 ∷ 45 ∷ 10 ∷ [])

largest_number : parse (qubit_field (54 ∷ 53 ∷ 53 ∷ 51 ∷ 53 ∷ [])) ≡ well_formed (record { qubit = 65535; x = empty; y = empty; z = empty } ∷ [])
unfolding parse cut is_digit field_of lines_of
largest_number = refl

above_the_largest : parse (qubit_field (54 ∷ 53 ∷ 53 ∷ 51 ∷ 54 ∷ [])) ≡ malformed 1
unfolding parse cut is_digit field_of lines_of
above_the_largest = refl

leading_zero_lem : parse (qubit_field (48 ∷ 48 ∷ [])) ≡ malformed 1
unfolding parse cut is_digit field_of lines_of
leading_zero_lem = refl

plus_one : parse (qubit_field (43 ∷ 49 ∷ [])) ≡ malformed 1
unfolding parse cut is_digit field_of lines_of
plus_one = refl

nul_byte : parse (qubit_field (0 ∷ [])) ≡ malformed 1
unfolding parse cut is_digit field_of lines_of
nul_byte = refl

dash_qubit : parse (qubit_field (45 ∷ [])) ≡ malformed 1
unfolding parse cut is_digit field_of lines_of
dash_qubit = refl

no_field : parse (qubit_field []) ≡ malformed 1
unfolding parse cut is_digit field_of lines_of
no_field = refl

-- a good line, and then `1 4 5 -` with these bytes for its line feed
abbrev second_ends : List ℕ → List ℕ
second_ends e = first_line ++ ((49 ∷ 9 ∷ 52 ∷ 9 ∷ 53 ∷ 9 ∷ 45 ∷ []) ++ e)

carriage_return : parse (second_ends (13 ∷ 10 ∷ [])) ≡ malformed 2
unfolding parse cut is_digit field_of lines_of
carriage_return = refl

blank_at_end : parse (second_ends (32 ∷ 10 ∷ [])) ≡ malformed 2
unfolding parse cut is_digit field_of lines_of
blank_at_end = refl

trailing_tab : parse (second_ends (9 ∷ 10 ∷ [])) ≡ malformed 2
unfolding parse cut is_digit field_of lines_of
trailing_tab = refl

no_last_line_feed : parse (second_ends []) ≡ malformed 2
unfolding parse cut is_digit field_of lines_of
no_last_line_feed = refl

-- an empty line; a line feed more at the end
empty_line : parse (second_ends (10 ∷ 10 ∷ [])) ≡ malformed 3
unfolding parse cut is_digit field_of lines_of
empty_line = refl

-- three fields; the fault of the second line comes before that of the last
three_fields : parse (first_line ++ (49 ∷ 9 ∷ 52 ∷ 9 ∷ 53 ∷ 10 ∷ 43 ∷ [])) ≡ malformed 2
unfolding parse cut is_digit field_of lines_of
three_fields = refl

five_fields : parse (second_ends (9 ∷ 45 ∷ 10 ∷ [])) ≡ malformed 2
unfolding parse cut is_digit field_of lines_of
five_fields = refl

-- the first line is empty, and a good one follows
blank_first : parse (10 ∷ first_line) ≡ malformed 1
unfolding parse cut is_digit field_of lines_of
blank_first = refl

-- a blank before a number
blank_at_start : parse (32 ∷ first_line) ≡ malformed 1
unfolding parse cut is_digit field_of lines_of
blank_at_start = refl
