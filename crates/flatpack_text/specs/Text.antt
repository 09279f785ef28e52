-- Flatpack text: one entry a line, qubit, X, Y, Z, parted by tabs, each line ended by a line feed. Numbers are decimal, at most 65,535, no leading zeros; only slots may be `-`.
use Rattle.std.specs.Prelude.{ℕ, suc, ◌+◌, ◌-◌, ◌*◌, List, [], ◌∷◌, Bool, true, false, cond, not, ◌&&◌, eqb, leb, length}
use Rattle.flatpack_text.specs.declared.read.Field.{Field}
use Rattle.flatpack_text.specs.declared.read.Field.TheVariants.{Nothing, Dash, Number, Bad}

-- ---- lines and fields

-- a text cut at a byte: the parts that the byte ends, and what stands after the last of them
pub record Cut : Type 0 where
  pub ended : List (List ℕ)
  pub rest : List ℕ

-- b before the first part
abbrev pub put_first : ℕ → List (List ℕ) → List ℕ → Cut
put_first b [] rest = record { ended = []; rest = b ∷ rest }
put_first b (part ∷ parts) rest = record { ended = (b ∷ part) ∷ parts; rest = rest }

unfoldable pub cut : ℕ → List ℕ → Cut
cut at [] = record { ended = []; rest = [] }
cut at (b ∷ t) = cond (eqb b at) (record { ended = [] ∷ (cut at t).ended; rest = (cut at t).rest }) (put_first b (cut at t).ended (cut at t).rest)

-- a line feed ends a line, a tab ends a field
abbrev pub lines : List ℕ → Cut
lines text = cut 10 text

abbrev pub fields : List ℕ → Cut
fields line = cut 9 line

-- ---- numbers

-- `0` to `9`
unfoldable pub is_digit : ℕ → Bool
is_digit b = leb 48 b && leb b 57

abbrev pub all_digits : List ℕ → Bool
all_digits [] = true
all_digits (b ∷ t) = is_digit b && all_digits t

-- a `0` with more after it
abbrev pub leading_zero : List ℕ → Bool
leading_zero [] = false
leading_zero (b ∷ []) = false
leading_zero (b ∷ c ∷ t) = eqb b 48

-- the number n with the digits t written after it
abbrev pub decimal_from : ℕ → List ℕ → ℕ
decimal_from n [] = n
decimal_from n (b ∷ t) = decimal_from (10 * n + (b - 48)) t

abbrev pub decimal : List ℕ → ℕ
decimal t = decimal_from 0 t

abbrev pub is_number : List ℕ → Bool
is_number t = all_digits t && (not (leading_zero t) && leb (decimal t) 65535)

-- ---- fields

abbrev pub is_dash : List ℕ → Bool
is_dash [] = false
is_dash (b ∷ []) = eqb b 45
is_dash (b ∷ c ∷ t) = false

unfoldable pub field_of : List ℕ → Field
field_of [] = Nothing
field_of (b ∷ t) = cond (is_dash (b ∷ t)) Dash (cond (is_number (b ∷ t)) (Number (decimal (b ∷ t))) Bad)

pub data Slot : Type 0 where
  empty : Slot
  numbered : ℕ → Slot

-- a field as a qubit: a number, or `bad`
abbrev pub as_qubit : {A : Type 0} → Field → (ℕ → A) → A → A
as_qubit Nothing good bad = bad
as_qubit Dash good bad = bad
as_qubit (Number n) good bad = good n
as_qubit Bad good bad = bad

-- a field as a slot: empty or a number, or `bad`
abbrev pub as_slot : {A : Type 0} → Field → (Slot → A) → A → A
as_slot Nothing good bad = bad
as_slot Dash good bad = good empty
as_slot (Number n) good bad = good (numbered n)
as_slot Bad good bad = bad

-- ---- entries

pub record Entry : Type 0 where
  pub qubit : ℕ
  pub x : Slot
  pub y : Slot
  pub z : Slot

pub data Line : Type 0 where
  entry : Entry → Line
  no_entry : Line

-- four fields: three that a tab ends, and the last
abbrev pub line_of : List (List ℕ) → List ℕ → Line
line_of [] d = no_entry
line_of (a ∷ []) d = no_entry
line_of (a ∷ b ∷ []) d = no_entry
line_of (a ∷ b ∷ c ∷ []) d =
    as_qubit (field_of a) (λ q.
    as_slot (field_of b) (λ x.
    as_slot (field_of c) (λ y.
    as_slot (field_of d) (λ z.
    entry (record { qubit = q; x = x; y = y; z = z }))
    no_entry) no_entry) no_entry) no_entry
line_of (a ∷ b ∷ c ∷ e ∷ more) d = no_entry

-- the entries of lines as far as the first that is none, and whether every line is one
pub record Lines : Type 0 where
  pub entries : List Entry
  pub all : Bool

abbrev pub with_line : Line → Lines → Lines
with_line (entry e) r = record { entries = e ∷ r.entries; all = r.all }
with_line no_entry r = record { entries = []; all = false }

unfoldable pub lines_of : List (List ℕ) → Lines
lines_of [] = record { entries = []; all = true }
lines_of (l ∷ ls) = with_line (line_of (fields l).ended (fields l).rest) (lines_of ls)

-- ---- the text

pub data Parsed : Type 0 where
  well_formed : List Entry → Parsed
  -- the number of the first line that is no entry, counted from 1
  malformed : ℕ → Parsed

abbrev pub is_empty : List ℕ → Bool
is_empty [] = true
is_empty (b ∷ t) = false

-- well formed: every line is an entry, and nothing stands after the last line feed
abbrev pub judged : Lines → List ℕ → Parsed
judged r rest = cond (r.all && is_empty rest) (well_formed r.entries) (malformed (suc (length r.entries)))

unfoldable pub parse : List ℕ → Parsed
parse text = judged (lines_of (lines text).ended) (lines text).rest
