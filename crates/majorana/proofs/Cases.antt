-- The calls on small inputs, by computing their definitions: an input for each refusal, and for each two that stand next to each other in the order of tests.
use Prim.Native.Nat.{ℕ}
use mathlib.Core.Path.{◌≡◌, refl}
use mathlib.Core.List.{List, [], ◌∷◌}
use lib.Count.{ones, ones_in}
use Rattle.std.specs.Prelude.{Ok, Err}
use Rattle.refusal.specs.declared.Refusal.TheVariants.{Commuting, Undecodable, Unencodable}
use Rattle.refusal.specs.Numbers.{Paper, bare}
use Rattle.refusal.specs.Search.{some_below, all_below, least_below, first_pair}
use Rattle.algebra.specs.Rows.{bit, common, dot, clash}
use Rattle.algebra.specs.Modes.{vacuum_rule, commuting_pair, e, d, paired, empty}
use Rattle.algebra.specs.Coding as algebra
use Rattle.dense_block.specs.Words.{strays}
use Rattle.majorana.specs.Sets.{Set, given, bad_size, bad_row_at, bad_rows}
use Rattle.majorana.specs.Checks.{vacuum_short, vacuum_bad, vacuum_checked, rows_short, rows_checked, RowsChecked}
use Rattle.majorana.specs.Codes.{encoded, encode_short, encode_bad, encode_refused, Encodes, decoded, decode_short, decode_bad, decode_refused, Decodes}

-- one mode, rows XI and YI
abbrev one : ℕ → ℕ → Set
one p0 p1 = given 1 2 (1 ∷ 1 ∷ []) (0 ∷ 1 ∷ []) (p0 ∷ p1 ∷ [])

-- its vacuum 00
abbrev zeros : List ℕ
zeros = 0 ∷ []

-- the same rows, lent for other sizes
abbrev sized : ℕ → ℕ → Set
sized n q = given n q (1 ∷ 1 ∷ []) (0 ∷ 1 ∷ []) (0 ∷ 1 ∷ [])

-- ---- check_vacuum

vacuum_done : vacuum_checked (one 0 1) zeros ≡ bare 0
unfolding vacuum_checked vacuum_short vacuum_bad bad_size bad_rows bad_row_at strays some_below vacuum_rule all_below empty paired e d dot common ones ones_in
vacuum_done = refl

-- 1: no modes, 257 modes, no qubits, 257 qubits; and before 2
vacuum_size : (vacuum_checked (sized 0 2) zeros ≡ bare 1) × (vacuum_checked (sized 257 2) zeros ≡ bare 1) × (vacuum_checked (sized 1 0) zeros ≡ bare 1) × (vacuum_checked (sized 1 257) zeros ≡ bare 1)
    × (vacuum_checked (given 257 257 [] [] []) [] ≡ bare 1)
unfolding vacuum_checked bad_size
vacuum_size = (refl, refl, refl, refl, refl)

-- 2: each slice one short; and before 17
vacuum_short_lem : (vacuum_checked (given 1 2 (1 ∷ []) (0 ∷ 1 ∷ []) (0 ∷ 1 ∷ [])) zeros ≡ bare 2)
    × (vacuum_checked (given 1 2 (1 ∷ 1 ∷ []) (0 ∷ []) (0 ∷ 1 ∷ [])) zeros ≡ bare 2)
    × (vacuum_checked (given 1 2 (1 ∷ 1 ∷ []) (0 ∷ 1 ∷ []) (0 ∷ [])) zeros ≡ bare 2)
    × (vacuum_checked (one 0 1) [] ≡ bare 2)
    × (vacuum_checked (one 4 4) [] ≡ bare 2)
unfolding vacuum_checked vacuum_short bad_size
vacuum_short_lem = (refl, refl, refl, refl, refl)

-- 17: a phase of 4, a stray bit in an X part, in a Z part, in the vacuum; and before 13
vacuum_value : (vacuum_checked (one 0 4) zeros ≡ bare 17)
    × (vacuum_checked (given 1 2 (1 ∷ 5 ∷ []) (0 ∷ 1 ∷ []) (0 ∷ 1 ∷ [])) zeros ≡ bare 17)
    × (vacuum_checked (given 1 2 (1 ∷ 1 ∷ []) (4 ∷ 1 ∷ []) (0 ∷ 1 ∷ [])) zeros ≡ bare 17)
    × (vacuum_checked (one 0 1) (4 ∷ []) ≡ bare 17)
    × (vacuum_checked (one 0 3) (4 ∷ []) ≡ bare 17)
unfolding vacuum_checked vacuum_short vacuum_bad bad_size bad_rows bad_row_at strays some_below
vacuum_value = (refl, refl, refl, refl, refl)

-- 13: e·v is not d/2; d is odd; X parts differ
vacuum_rule_lem : (vacuum_checked (one 0 1) (1 ∷ []) ≡ bare 13) × (vacuum_checked (one 0 3) zeros ≡ bare 13) × (vacuum_checked (one 0 3) (1 ∷ []) ≡ bare 0)
    × (vacuum_checked (one 0 0) zeros ≡ bare 13) × (vacuum_checked (one 0 0) (1 ∷ []) ≡ bare 13)
    × (vacuum_checked (given 1 2 (1 ∷ 2 ∷ []) (0 ∷ 1 ∷ []) (0 ∷ 1 ∷ [])) zeros ≡ bare 13)
unfolding vacuum_checked vacuum_short vacuum_bad bad_size bad_rows bad_row_at strays some_below vacuum_rule all_below empty paired e d dot common ones ones_in
vacuum_rule_lem = (refl, refl, refl, refl, refl, refl)

-- ---- check_rows

-- rows XI, YI, ZX, YI: row 0 anticommutes with all, row 1 with row 2 and not with row 3. The room is zero over its eight words
rows_pair : RowsChecked (given 2 2 (1 ∷ 1 ∷ 2 ∷ 1 ∷ []) (0 ∷ 1 ∷ 1 ∷ 1 ∷ []) (0 ∷ 1 ∷ 0 ∷ 1 ∷ [])) zeros (9 ∷ 9 ∷ 9 ∷ 9 ∷ 9 ∷ 9 ∷ 9 ∷ 9 ∷ 7 ∷ []) (Err (Commuting 1 3)) (0 ∷ 0 ∷ 0 ∷ 0 ∷ 0 ∷ 0 ∷ 0 ∷ 0 ∷ 7 ∷ [])
unfolding rows_checked rows_short vacuum_bad bad_size bad_rows bad_row_at strays commuting_pair first_pair least_below some_below clash common ones ones_in
rows_pair = record { answer = refl; left = refl }

-- ---- try_encode

-- the number that is handed back
abbrev told : Set → List ℕ → List ℕ → List ℕ → Paper
told = encode_refused

-- list 1 encodes to 10 with phase 0; the word past the first stays
encode_done : Encodes (one 0 1) zeros (1 ∷ []) (9 ∷ 7 ∷ []) (Ok (record { power = 0 })) (1 ∷ 7 ∷ [])
unfolding encoded encode_refused encode_short encode_bad bad_size bad_rows bad_row_at strays some_below algebra.encode algebra.encode_from algebra.occupy bit empty paired e d dot common ones ones_in
encode_done = record { answer = refl; string = refl }

-- 1; and before 2
encode_size : (told (sized 0 2) zeros zeros zeros ≡ bare 1) × (told (sized 257 2) zeros zeros zeros ≡ bare 1) × (told (sized 1 0) zeros zeros zeros ≡ bare 1) × (told (sized 1 257) zeros zeros zeros ≡ bare 1)
    × (told (given 257 257 [] [] []) [] [] [] ≡ bare 1)
unfolding encode_refused bad_size
encode_size = (refl, refl, refl, refl, refl)

-- 2: each slice one short; and before 17
encode_short_lem : (told (given 1 2 (1 ∷ []) (0 ∷ 1 ∷ []) (0 ∷ 1 ∷ [])) zeros zeros zeros ≡ bare 2)
    × (told (given 1 2 (1 ∷ 1 ∷ []) (0 ∷ []) (0 ∷ 1 ∷ [])) zeros zeros zeros ≡ bare 2)
    × (told (given 1 2 (1 ∷ 1 ∷ []) (0 ∷ 1 ∷ []) (0 ∷ [])) zeros zeros zeros ≡ bare 2)
    × (told (one 0 1) [] zeros zeros ≡ bare 2)
    × (told (one 0 1) zeros [] zeros ≡ bare 2)
    × (told (one 0 1) zeros zeros [] ≡ bare 2)
    × (told (one 4 4) zeros (2 ∷ []) [] ≡ bare 2)
unfolding encode_refused encode_short bad_size
encode_short_lem = (refl, refl, refl, refl, refl, refl, refl)

-- 17: a phase of 4, a stray bit in an X part, in a Z part, in the vacuum of 2 bits, in the list of 1 bit; and before 15
encode_value : (told (one 4 1) zeros zeros zeros ≡ bare 17)
    × (told (given 1 2 (4 ∷ 1 ∷ []) (0 ∷ 1 ∷ []) (0 ∷ 1 ∷ [])) zeros zeros zeros ≡ bare 17)
    × (told (given 1 2 (1 ∷ 1 ∷ []) (0 ∷ 5 ∷ []) (0 ∷ 1 ∷ [])) zeros zeros zeros ≡ bare 17)
    × (told (one 0 1) (4 ∷ []) zeros zeros ≡ bare 17)
    × (told (one 0 1) zeros (2 ∷ []) zeros ≡ bare 17)
    × (told (one 0 0) zeros (3 ∷ []) zeros ≡ bare 17)
unfolding encode_refused encode_short encode_bad bad_size bad_rows bad_row_at strays some_below
encode_value = (refl, refl, refl, refl, refl, refl)

-- 15: e·v is not d/2; d is odd; X parts differ. A mode that is not occupied is not looked at
encode_unmet : (told (one 0 1) (1 ∷ []) (1 ∷ []) zeros ≡ bare 15)
    × (told (one 0 0) zeros (1 ∷ []) zeros ≡ bare 15)
    × (told (one 0 0) (1 ∷ []) (1 ∷ []) zeros ≡ bare 15)
    × (told (given 1 2 (1 ∷ 2 ∷ []) (0 ∷ 1 ∷ []) (0 ∷ 1 ∷ [])) zeros (1 ∷ []) zeros ≡ bare 15)
    × (told (one 0 0) zeros zeros zeros ≡ bare 0)
unfolding encoded encode_refused encode_short encode_bad bad_size bad_rows bad_row_at strays some_below algebra.encode algebra.encode_from algebra.occupy bit empty paired e d dot common ones ones_in
encode_unmet = (refl, refl, refl, refl, refl)

-- rows XI, YI, XI, YI: both modes are empty in the vacuum, but once the second is occupied the first is not. The vacuum's bits would let list 11 pass; the present bits refuse it
abbrev twice : Set
twice = given 2 2 (1 ∷ 1 ∷ 1 ∷ 1 ∷ []) (0 ∷ 1 ∷ 0 ∷ 1 ∷ []) (0 ∷ 1 ∷ 0 ∷ 1 ∷ [])

twice_vacuum : vacuum_checked twice zeros ≡ bare 0
unfolding vacuum_checked vacuum_short vacuum_bad bad_size bad_rows bad_row_at strays some_below vacuum_rule all_below empty paired e d dot common ones ones_in
twice_vacuum = refl

-- the string is as it was
present_bits : Encodes twice zeros (3 ∷ []) (9 ∷ []) (Err Unencodable) (9 ∷ [])
unfolding encoded encode_refused encode_short encode_bad bad_size bad_rows bad_row_at strays some_below algebra.encode algebra.encode_from algebra.occupy bit empty paired e d dot common ones ones_in
present_bits = record { answer = refl; string = refl }

-- ---- decode_zbasis_state

-- the number that is handed back
abbrev read : Set → List ℕ → List ℕ → List ℕ → Paper
read = decode_refused

-- 10 decodes to 1; the word past the first stays
decode_done : Decodes (one 0 1) zeros (1 ∷ []) (9 ∷ 7 ∷ []) (Ok tt) (1 ∷ 7 ∷ [])
unfolding decoded decode_refused decode_short decode_bad bad_size bad_rows bad_row_at strays some_below algebra.decode algebra.decode_from algebra.seen paired e d dot common ones ones_in
decode_done = record { answer = refl; list = refl }

-- 1; and before 2
decode_size : (read (sized 0 2) zeros zeros zeros ≡ bare 1) × (read (sized 257 2) zeros zeros zeros ≡ bare 1) × (read (sized 1 0) zeros zeros zeros ≡ bare 1) × (read (sized 1 257) zeros zeros zeros ≡ bare 1)
    × (read (given 257 257 [] [] []) [] [] [] ≡ bare 1)
unfolding decode_refused bad_size
decode_size = (refl, refl, refl, refl, refl)

-- 2: each slice one short; and before 17
decode_short_lem : (read (given 1 2 (1 ∷ []) (0 ∷ 1 ∷ []) (0 ∷ 1 ∷ [])) zeros zeros zeros ≡ bare 2)
    × (read (given 1 2 (1 ∷ 1 ∷ []) (0 ∷ []) (0 ∷ 1 ∷ [])) zeros zeros zeros ≡ bare 2)
    × (read (given 1 2 (1 ∷ 1 ∷ []) (0 ∷ 1 ∷ []) (0 ∷ [])) zeros zeros zeros ≡ bare 2)
    × (read (one 0 1) [] zeros zeros ≡ bare 2)
    × (read (one 0 1) zeros [] zeros ≡ bare 2)
    × (read (one 0 1) zeros zeros [] ≡ bare 2)
    × (read (one 4 4) zeros (4 ∷ []) [] ≡ bare 2)
unfolding decode_refused decode_short bad_size
decode_short_lem = (refl, refl, refl, refl, refl, refl, refl)

-- 17: a phase of 4, a stray bit in an X part, in a Z part, in the vacuum, in the string; and before 14. A string of 2 bits has no stray bit where a list of 1 has one
decode_value : (read (one 0 4) zeros zeros zeros ≡ bare 17)
    × (read (given 1 2 (4 ∷ 1 ∷ []) (0 ∷ 1 ∷ []) (0 ∷ 1 ∷ [])) zeros zeros zeros ≡ bare 17)
    × (read (given 1 2 (1 ∷ 1 ∷ []) (0 ∷ 5 ∷ []) (0 ∷ 1 ∷ [])) zeros zeros zeros ≡ bare 17)
    × (read (one 0 1) (4 ∷ []) zeros zeros ≡ bare 17)
    × (read (one 0 1) zeros (4 ∷ []) zeros ≡ bare 17)
    × (read (one 0 0) zeros (6 ∷ []) zeros ≡ bare 17)
unfolding decode_refused decode_short decode_bad bad_size bad_rows bad_row_at strays some_below
decode_value = (refl, refl, refl, refl, refl, refl)

-- 14: 01 does not lead back to 00, and the list is as it was; d is odd; X parts differ
decode_foreign : Decodes (one 0 1) zeros (2 ∷ []) (9 ∷ []) (Err Undecodable) (9 ∷ [])
unfolding decoded decode_refused decode_short decode_bad bad_size bad_rows bad_row_at strays some_below algebra.decode algebra.decode_from algebra.seen paired e d dot common ones ones_in
decode_foreign = record { answer = refl; list = refl }

decode_unmet : (read (one 0 0) zeros zeros zeros ≡ bare 14) × (read (one 0 0) (1 ∷ []) (1 ∷ []) zeros ≡ bare 14)
    × (read (given 1 2 (1 ∷ 2 ∷ []) (0 ∷ 1 ∷ []) (0 ∷ 1 ∷ [])) zeros zeros zeros ≡ bare 14)
unfolding decoded decode_refused decode_short decode_bad bad_size bad_rows bad_row_at strays some_below algebra.decode algebra.decode_from algebra.seen paired e d dot common ones ones_in
decode_unmet = (refl, refl, refl)
