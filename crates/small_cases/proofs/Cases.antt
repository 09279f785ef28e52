-- The small cases worked by hand, as one statement over a list: each outcome meets the contract of its call, by computing the definitions that the contract cites. A contract
-- leaves one outcome, so the call has this one. The report is that of the definition, which `program_answers` (crate `rowreport_core`) ties to the program's calls.
use Prim.Native.Nat.{ℕ, suc}
use mathlib.Core.Path.{◌≡◌, refl}
use mathlib.Core.List.{List, [], ◌∷◌, ◌++◌}
use mathlib.Core.Bool.{Bool, true, false}
use lib.Count.{ones, ones_in}
use lib.Ieee.{Float, fin, neg}
use lib.IntN.{pos}
use lib.ListN.{replicate}
use Rattle.std.specs.Prelude.{Ok, Err}
use Rattle.refusal.specs.Search.{some_below, all_below, least_below, first_pair}
use Rattle.algebra.specs.Rows.{bit, common, dot, clash}
use Rattle.algebra.specs.Modes.{e, d, paired, empty, vacuum_rule, commuting_pair}
use Rattle.algebra.specs.Coding as algebra
use Rattle.algebra.specs.Choices.{combo, dependent}
use Rattle.algebra.specs.Solving.{spans, dependent_column, plain, solvable, solved_vacuum}
use Rattle.dense_block.specs.Words.{strays}
use Rattle.pauli.specs.declared.Marked.{Marked}
use Rattle.pauli.specs.declared.Marked.TheVariants.{Imag}
use Rattle.pauli.specs.Phases.{letter_power}
use Rattle.pauli.specs.Product as pauli
use Rattle.pauli.specs.Product.{LentRow}
use Rattle.majorana.specs.Sets.{Set, given, bad_size, bad_row_at, bad_rows}
use Rattle.majorana.specs.Checks.{vacuum_bad, rows_short, rows_checked, RowsChecked}
use Rattle.majorana.specs.Vacuums.{vacuum, solve_short, solved, Solves}
use Rattle.majorana.specs.Codes.{encoded, encode_short, encode_bad, encode_refused, Encodes, decoded, decode_short, decode_bad, decode_refused, Decodes}
use Rattle.products.specs.Products.{product_of, product_size, product_short, some_high, product_bad, product_refused, RealMultiplies}
use Rattle.refusal.specs.Numbers.{Answer}
use Rattle.refusal.specs.declared.Refusal.TheVariants.{Value, NoVacuum, Undecodable, Commuting}
use Rattle.maxnto.specs.Formula.{columns, x_part, z_part, phase_of}
use Rattle.maxnto.specs.Call as maxnto
use Rattle.trees.specs.Trees.{parent_in, climb, twice_in, fault_of, first_fault, scattered}
use Rattle.trees.specs.Paths.{letter, above, row_at}
use Rattle.trees.specs.Leaves.{z_end, chain_end, slot_of}
use Rattle.trees.specs.declared.Named.{Named}
use Rattle.trees.specs.declared.Named.TheVariants.{JordanWigner, Parity}
use Rattle.trees.specs.Named.{under}
use Rattle.tree_sizes.specs.Sizes.{outside}
use Rattle.ternarytree.specs.Building.{asked, named_answer, NamedBuilt}
use Rattle.report.specs.Output.{output}
use Rattle.report.proofs.OutputExamples.{two_modes, two_modes_report, two_modes_output}

-- ---- what a case says

-- A vacuum, list or string has one word, and a set's rows have one word each. A buffer that is lent for writing holds 9 before the call, and is a word longer than needed
data Case : Type 0 where
  -- the report of this text
  reports : List ℕ → List ℕ → Case
  -- building a named tree on two nodes is done: it writes the rows of this set and the all-zero vacuum
  builds : Named → Set → Case
  -- at this vacuum the list encodes to the string, with the phase
  encodes : Set → ℕ → ℕ → ℕ → ℕ → Case
  -- at this vacuum the string decodes to the list, or gets 14
  decodes : Set → ℕ → ℕ → ℕ → Case
  foreign : Set → ℕ → ℕ → Case
  -- solving for one mode gives this vacuum, or 12
  solves : Set → ℕ → Case
  unsolved : Set → Case
  -- the row check of one mode at this vacuum gives this answer
  checks : Set → ℕ → Answer → Case
  -- the product of rows of these numbers, with a real coefficient: its phase and parts, and the coefficient that comes back
  multiplies : Set → List ℕ → Float → ℕ → ℕ → ℕ → Marked → Case
  -- the product of two rows on two columns, of one word a part: its phase, whether the rows commute, and the parts; or 17
  pairs : LentRow → LentRow → ℕ → Bool → ℕ → ℕ → Case
  unpaired : LentRow → LentRow → Case
  -- MaxNTO on two modes is done: it writes the rows of this set
  maxntos : Set → Case

-- k words and one more, before a call
abbrev lent : ℕ → List ℕ
lent k = replicate (suc k) 9

-- the same after it: these words are written, and the last one stays
abbrev left : List ℕ → List ℕ
left ws = ws ++ (9 ∷ [])

abbrev cleared : ℕ → List ℕ
cleared k = left (replicate k 0)

abbrev pair : LentRow → LentRow → pauli.Input
pair l r = record { q = 2; left = l; right = r; out_xs = lent 1; out_zs = lent 1 }

abbrev Holds : Case → Type 0
Holds (reports text out) = output text ≡ out
Holds (builds t s) = NamedBuilt (asked t 2 2 (lent 4) (lent 4) (lent 4) (lent 1) (lent 8)) (Ok tt) (left s.xs) (left s.zs) (left s.ps) (left (0b00 ∷ [])) (cleared 8)
Holds (encodes s v l t f) = Encodes s (v ∷ []) (l ∷ []) (lent 1) (Ok (record { power = f })) (left (t ∷ []))
Holds (decodes s v t l) = Decodes s (v ∷ []) (t ∷ []) (lent 1) (Ok tt) (left (l ∷ []))
Holds (foreign s v t) = Decodes s (v ∷ []) (t ∷ []) (lent 1) (Err Undecodable) (lent 1)
Holds (solves s v) = Solves s (lent 1) (lent 2) (Ok tt) (left (v ∷ [])) (cleared 2)
Holds (unsolved s) = Solves s (lent 1) (lent 2) (Err NoVacuum) (lent 1) (cleared 2)
Holds (checks s v a) = RowsChecked s (v ∷ []) (lent 4) a (cleared 4)
Holds (multiplies s ks c f x z m) = RealMultiplies s ks c (lent 1) (lent 1) (Ok (record { power = f }, m)) (left (x ∷ [])) (left (z ∷ []))
Holds (pairs l r f c x z) = pauli.Multiplied (pair l r) (Ok (record { phase = record { power = f }; commute = c })) (left (x ∷ [])) (left (z ∷ []))
Holds (unpaired l r) = pauli.Multiplied (pair l r) (Err Value) (lent 1) (lent 1)
Holds (maxntos s) = maxnto.Built (maxnto.given 2 (lent 4) (lent 4) (lent 4)) (Ok tt) (left s.xs) (left s.zs) (left s.ps)

-- every case of a list
abbrev AllHold : List Case → Type 0
AllHold [] = Unit
AllHold (c ∷ cs) = Holds c × AllHold cs

infixr 20 ◌and◌
abbrev ◌and◌ : {A B : Type 0} → A → B → A × B
a and b = (a, b)

-- ---- the cases, bits with column 0 lowest

-- rows XI, YI, ZX, ZY; rows XZ, YI, XX, XY; rows ZX, ZY, XI, YI; phases 0, 1, 0, 1
abbrev jordan_wigner_2 : Set
jordan_wigner_2 = given 2 2 (0b01 ∷ 0b01 ∷ 0b10 ∷ 0b10 ∷ []) (0b00 ∷ 0b01 ∷ 0b01 ∷ 0b11 ∷ []) (0 ∷ 1 ∷ 0 ∷ 1 ∷ [])

abbrev parity_2 : Set
parity_2 = given 2 2 (0b01 ∷ 0b01 ∷ 0b11 ∷ 0b11 ∷ []) (0b10 ∷ 0b01 ∷ 0b00 ∷ 0b10 ∷ []) (0 ∷ 1 ∷ 0 ∷ 1 ∷ [])

abbrev maxnto_2 : Set
maxnto_2 = given 2 2 (0b10 ∷ 0b10 ∷ 0b01 ∷ 0b01 ∷ []) (0b01 ∷ 0b11 ∷ 0b00 ∷ 0b01 ∷ []) (0 ∷ 1 ∷ 0 ∷ 1 ∷ [])

-- one mode on one qubit: rows X and Y, and rows X and X
abbrev one : ℕ → ℕ → Set
one p0 p1 = given 1 1 (1 ∷ 1 ∷ []) (0 ∷ 1 ∷ []) (p0 ∷ p1 ∷ [])

abbrev twins : ℕ → ℕ → Set
twins p0 p1 = given 1 1 (1 ∷ 1 ∷ []) (0 ∷ 0 ∷ []) (p0 ∷ p1 ∷ [])

-- one mode on two qubits: rows XI and YI
abbrev wide : Set
wide = given 1 2 (1 ∷ 1 ∷ []) (0 ∷ 1 ∷ []) (0 ∷ 1 ∷ [])

-- a row on two columns
abbrev row : ℕ → ℕ → ℕ → LentRow
row p x z = pauli.lent_row p (x ∷ []) (z ∷ [])

-- 2 is 1 · 2^1
abbrev two : Float
two = fin false 1 (pos 1)

abbrev cases : List Case
cases =
    reports two_modes two_modes_report
    ∷ builds JordanWigner jordan_wigner_2
    ∷ encodes jordan_wigner_2 0b00 0b11 0b11 0
    ∷ builds Parity parity_2
    ∷ encodes parity_2 0b00 0b11 0b10 2
    ∷ decodes parity_2 0b00 0b10 0b11
    ∷ solves (one 0 1) 0
    ∷ solves (one 0 3) 1
    ∷ unsolved (one 0 2)
    ∷ solves (one 3 0) 0
    ∷ solves (twins 0 1) 0
    ∷ checks (twins 0 1) 0 (Err (Commuting 0 1))
    ∷ unsolved (twins 0 3)
    ∷ foreign wide 0b00 0b10
    ∷ decodes wide 0b00 0b01 1
    ∷ multiplies jordan_wigner_2 (0 ∷ 1 ∷ []) two 1 0b00 0b01 (Imag two)
    ∷ multiplies jordan_wigner_2 (1 ∷ 0 ∷ []) two 3 0b00 0b01 (Imag (neg two))
    ∷ pairs (row 0 0b01 0b00) (row 1 0b01 0b01) 1 false 0b00 0b01
    ∷ pairs (row 1 0b01 0b01) (row 0 0b01 0b00) 3 false 0b00 0b01
    ∷ pairs (row 0 0b01 0b00) (row 0 0b10 0b00) 0 true 0b11 0b00
    ∷ pairs (row 1 0b01 0b01) (row 1 0b01 0b01) 0 true 0b00 0b00
    ∷ pairs (row 0 0b11 0b00) (row 0 0b00 0b11) 0 true 0b11 0b11
    ∷ unpaired (row 4 0b01 0b00) (row 0 0b01 0b00)
    ∷ maxntos maxnto_2
    ∷ []

small_cases : AllHold cases
unfolding named_answer outside twice_in first_fault fault_of scattered climb
    row_at letter above parent_in least_below slot_of z_end chain_end under
    encoded encode_refused encode_short encode_bad decoded decode_refused decode_short decode_bad bad_size bad_rows bad_row_at strays some_below all_below
    algebra.encode algebra.encode_from algebra.occupy algebra.decode algebra.decode_from algebra.seen bit empty paired e d dot common ones ones_in
    vacuum solved solve_short solvable solved_vacuum plain dependent_column spans vacuum_rule
    rows_checked rows_short vacuum_bad commuting_pair first_pair clash dependent combo
    product_of product_size product_short some_high product_bad product_refused letter_power neg
    pauli.bad_row pauli.too_short pauli.refused pauli.multiplied pauli.product_x pauli.product_z
    x_part z_part phase_of columns maxnto.bad_modes maxnto.odd_modes maxnto.too_short maxnto.answer maxnto.xs_left maxnto.zs_left maxnto.ps_left
small_cases =
    two_modes_output
    and record { told = refl; x_parts = refl; z_parts = refl; phases = refl; vacuum = refl; work = refl }
    and record { answer = refl; string = refl }
    and record { told = refl; x_parts = refl; z_parts = refl; phases = refl; vacuum = refl; work = refl }
    and record { answer = refl; string = refl }
    and record { answer = refl; list = refl }
    and record { answer = refl; string = refl; work = refl }
    and record { answer = refl; string = refl; work = refl }
    and record { answer = refl; string = refl; work = refl }
    and record { answer = refl; string = refl; work = refl }
    and record { answer = refl; string = refl; work = refl }
    and record { answer = refl; left = refl }
    and record { answer = refl; string = refl; work = refl }
    and record { answer = refl; list = refl }
    and record { answer = refl; list = refl }
    and record { answer = refl; x_part = refl; z_part = refl }
    and record { answer = refl; x_part = refl; z_part = refl }
    and record { answer = refl; x_part = refl; z_part = refl }
    and record { answer = refl; x_part = refl; z_part = refl }
    and record { answer = refl; x_part = refl; z_part = refl }
    and record { answer = refl; x_part = refl; z_part = refl }
    and record { answer = refl; x_part = refl; z_part = refl }
    and record { answer = refl; x_part = refl; z_part = refl }
    and record { told = refl; x_parts = refl; z_parts = refl; phases = refl }
    and tt
