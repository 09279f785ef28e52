-- What reading a text comes to, by the definition of well-formed text: what is handed back, the table of entries, and the state after it.
use Rattle.std.specs.Prelude.{ℕ, ◌+◌, min, List, [], ◌∷◌, cond, length, take, Result, Ok, Err}
use Rattle.dense_block.specs.Words.{copied}
use Rattle.flatpack_text.specs.declared.read.Field.{Field}
use Rattle.flatpack_text.specs.declared.read.Field.TheVariants.{Nothing, Dash, Number, Bad}
use Rattle.flatpack_text.specs.declared.read.State.{State}
use Rattle.flatpack_text.specs.declared.read.Malformed.{Malformed}
use Rattle.flatpack_text.specs.Text.{lines, fields, field_of, Slot, empty, numbered, as_qubit, as_slot, Entry, lines_of, Parsed, well_formed, malformed}

-- ---- what is handed back

-- counts go as far as this
abbrev pub most : ℕ
most = 1000000000

-- 0 and the number of entries, or 16 and the line
pub record Told : Type 0 where
  pub number : ℕ
  pub entries : ℕ
  pub line : ℕ

abbrev pub text_paper : Result ℕ Malformed → Told
text_paper (Ok n) = record { number = 0; entries = n; line = 0 }
text_paper (Err e) = record { number = 16; entries = 0; line = e.line }

abbrev pub told : Parsed → Told
told (well_formed es) = record { number = 0; entries = min (length es) most; line = 0 }
told (malformed k) = record { number = 16; entries = 0; line = min k most }

-- ---- the table

-- a slot in the table: its number plus 1, or 0 if it is empty
abbrev pub slot_number : Slot → ℕ
slot_number empty = 0
slot_number (numbered n) = n + 1

-- four numbers an entry
abbrev pub numbers_of : List Entry → List ℕ
numbers_of [] = []
numbers_of (e ∷ es) = e.qubit ∷ slot_number e.x ∷ slot_number e.y ∷ slot_number e.z ∷ numbers_of es

-- the table d after the text t: the first 256 entries of its whole lines
unfoldable pub kept : List ℕ → List ℕ → List ℕ
kept t d = copied d (numbers_of (take 256 (lines_of (lines t).ended).entries))

-- ---- the state after a text

-- a fault after n entries
abbrev pub stopped : ℕ → State
stopped n = record { entries = n; fields = 0; qubit = 0; x = 0; y = 0; field = Bad }

-- n entries, and a line of which k fields are ended and f is not
abbrev pub on_line : ℕ → ℕ → ℕ → ℕ → ℕ → Field → State
on_line n k q x y Nothing = record { entries = n; fields = k; qubit = q; x = x; y = y; field = Nothing }
on_line n k q x y Dash = record { entries = n; fields = k; qubit = q; x = x; y = y; field = Dash }
on_line n k q x y (Number m) = record { entries = n; fields = k; qubit = q; x = x; y = y; field = Number m }
on_line n k q x y Bad = stopped n

-- the same, from the bytes of the fields
abbrev pub line_after : ℕ → List (List ℕ) → List ℕ → State
line_after n [] f = on_line n 0 0 0 0 (field_of f)
line_after n (a ∷ []) f = as_qubit (field_of a) (λ q. on_line n 1 q 0 0 (field_of f)) (stopped n)
line_after n (a ∷ b ∷ []) f = as_qubit (field_of a) (λ q. as_slot (field_of b) (λ x. on_line n 2 q (slot_number x) 0 (field_of f)) (stopped n)) (stopped n)
line_after n (a ∷ b ∷ c ∷ []) f =
    as_qubit (field_of a) (λ q.
    as_slot (field_of b) (λ x.
    as_slot (field_of c) (λ y.
    on_line n 3 q (slot_number x) (slot_number y) (field_of f))
    (stopped n)) (stopped n)) (stopped n)
line_after n (a ∷ b ∷ c ∷ d ∷ more) f = stopped n

unfoldable pub after : List ℕ → State
after t =
    let r = lines_of (lines t).ended in
    let n = min (length r.entries) most in
    let l = fields (lines t).rest in
    cond r.all (line_after n l.ended l.rest) (stopped n)
