-- The text of a row report, as bytes: a header, a line for each row, the vacuum; or the number of a refusal.
use Rattle.std.specs.Prelude.{ℕ, zero, suc, ◌+◌, ◌*◌, ◌/◌, ◌%◌, List, [], ◌∷◌, ◌++◌, Bool, true, false, cond, ◌&&◌, eqb, ltb, leb, length, get_or, drop}
use Rattle.algebra.specs.Rows.{Row, bit}
use Rattle.dense_block.specs.Words.{value, words_for, term_of}
use Rattle.report.specs.declared.write.Rows.{Rows}

-- ---- numbers

-- the decimal digits of n, of which there are at most k, the most significant first
unfoldable pub digits_in : ℕ → ℕ → List ℕ
digits_in zero n = []
digits_in (suc k) n = elim (ltb n 10) [ true ↦ (48 + n) ∷ [] | false ↦ digits_in k (n / 10) ++ ((48 + n % 10) ∷ []) ]

unfoldable pub digits_of : ℕ → List ℕ
digits_of n = digits_in (suc n) n

-- ---- lines

-- fields parted by tabs, and a line feed
abbrev pub line_from : List (List ℕ) → List ℕ
line_from [] = 10 ∷ []
line_from (f ∷ []) = f ++ (10 ∷ [])
line_from (f ∷ g ∷ fs) = f ++ (9 ∷ line_from (g ∷ fs))

-- `majorana`, `vacuum`, `refused`
abbrev pub majorana : List ℕ
majorana = 109 ∷ 97 ∷ 106 ∷ 111 ∷ 114 ∷ 97 ∷ 110 ∷ 97 ∷ []

abbrev pub vacuum : List ℕ
vacuum = 118 ∷ 97 ∷ 99 ∷ 117 ∷ 117 ∷ 109 ∷ []

abbrev pub refused : List ℕ
refused = 114 ∷ 101 ∷ 102 ∷ 117 ∷ 115 ∷ 101 ∷ 100 ∷ []

-- the bytes of columns 0 to n - 1
abbrev pub columns : (ℕ → ℕ) → ℕ → List ℕ
columns byte zero = []
columns byte (suc j) = columns byte j ++ (byte j ∷ [])

-- column j is set
abbrev pub has : ℕ → ℕ → Bool
has x j = eqb (bit x j) 1

-- I, X, Y, Z, by the bits of x and z
abbrev pub letter : Bool → Bool → ℕ
letter false false = 73
letter true false = 88
letter true true = 89
letter false true = 90

abbrev pub letter_at : Row → ℕ → ℕ
letter_at r j = letter (has r.x j) (has r.z j)

abbrev pub letters : ℕ → Row → List ℕ
letters q r = columns (letter_at r) q

-- `0` or `1`
abbrev pub bit_at : ℕ → ℕ → ℕ
bit_at v j = cond (has v j) 49 48

abbrev pub bits : ℕ → ℕ → List ℕ
bits q v = columns (bit_at v) q

-- the row that p and the words of its X and Z parts stand for
abbrev pub row_of : ℕ → List ℕ → List ℕ → Row
row_of p xs zs = record { p = p; x = value xs; z = value zs }

-- the number beside the letters: the phase p
unfoldable pub row_number : Row → ℕ
row_number r = r.p

abbrev pub header_line : ℕ → ℕ → List ℕ
header_line modes qubits = line_from (majorana ∷ digits_of modes ∷ digits_of qubits ∷ [])

abbrev pub row_line : ℕ → ℕ → Row → List ℕ
row_line q k r = line_from (digits_of k ∷ digits_of (row_number r) ∷ letters q r ∷ [])

abbrev pub vacuum_line : ℕ → ℕ → List ℕ
vacuum_line q v = line_from (vacuum ∷ bits q v ∷ [])

abbrev pub refused_line : ℕ → List ℕ
refused_line number = line_from (refused ∷ digits_of number ∷ [])

-- ---- the report

-- the lines of rows 0 to n - 1 on q columns
abbrev pub row_lines : ℕ → (ℕ → Row) → ℕ → List ℕ
row_lines q row zero = []
row_lines q row (suc k) = row_lines q row k ++ row_line q k (row k)

-- of n modes on q qubits: their rows, and the vacuum v
unfoldable pub report : ℕ → ℕ → (ℕ → Row) → ℕ → List ℕ
report n q row v = header_line n q ++ (row_lines q row (2 * n) ++ vacuum_line q v)

-- ---- a line in a buffer

-- how many bytes are written: all of the line, or none where the buffer is too short
unfoldable pub wrote : List ℕ → List ℕ → ℕ
wrote line out = cond (leb (length line) (length out)) (length line) 0

-- the buffer at exit
unfoldable pub written : List ℕ → List ℕ → List ℕ
written line out = cond (leb (length line) (length out)) (line ++ drop (length line) out) out

-- ---- a report in a buffer

-- row k of a set that is lent: its phase, and its words of the X and Z parts
abbrev pub row_in : ℕ → List ℕ → List ℕ → List ℕ → ℕ → Row
row_in q xs zs ps k = row_of (get_or ps k 0) (term_of (words_for q) xs k) (term_of (words_for q) zs k)

-- the same of rows that are lent as one
abbrev pub rows_in : Rows → ℕ → Row
rows_in r = row_in r.qubits r.x.now r.z.now r.phases.now

-- at most 256 modes and 256 qubits, and room for 2n + 2 lines of at most q + 64 bytes
unfoldable pub roomy : ℕ → ℕ → ℕ → Bool
roomy n q size = leb n 256 && (leb q 256 && leb ((2 * n + 2) * (q + 64)) size)

-- how many bytes are written, and the buffer at exit
unfoldable pub report_length : ℕ → ℕ → (ℕ → Row) → ℕ → List ℕ → ℕ
report_length n q row v out = cond (roomy n q (length out)) (length (report n q row v)) 0

unfoldable pub reported : ℕ → ℕ → (ℕ → Row) → ℕ → List ℕ → List ℕ
reported n q row v out = cond (roomy n q (length out)) (report n q row v ++ drop (length (report n q row v)) out) out
