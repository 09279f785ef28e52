-- What `rowreport` writes for a text: the report of its tree, or the number of the first refusal.
use Rattle.std.specs.Prelude.{ℕ, zero, suc, ◌/◌, ◌%◌, List, ◌∷◌, Bool, true, ◌||◌, Option, Some, None, leb, ltb, length, get_or}
use Rattle.refusal.specs.Numbers.{Paper, bare}
use Rattle.refusal.specs.Search.{some_below}
use Rattle.refusal.specs.Table.{◌gives◌, first_of, if_zero}
use Rattle.trees.specs.Trees.{Tree}
use Rattle.trees.specs.Flatpacks.{Flatpack, past, flat_tree}
use Rattle.trees.specs.Leaves.{rows}
use Rattle.tree_sizes.specs.Sizes.{outside}
use Rattle.ternarytree.specs.Building.{tree_checks}
use Rattle.flatpack_text.specs.Text.{Slot, empty, numbered, Entry, Parsed, well_formed, malformed, parse}
use Rattle.report.specs.Report.{refused_line, report}

-- ---- the text's flatpack

-- entry i; past the last one an entry with empty slots
abbrev pub blank_entry : Entry
blank_entry = record { qubit = 0; x = empty; y = empty; z = empty }

abbrev pub entry_at : List Entry → ℕ → Entry
entry_at es i = get_or es i blank_entry

-- its X, Y and Z slots as 0, 1 and 2
abbrev pub slot_in : Entry → ℕ → Slot
slot_in e zero = e.x
slot_in e (suc zero) = e.y
slot_in e (suc (suc l)) = e.z

abbrev pub flat_slot : Slot → Option ℕ
flat_slot empty = None
flat_slot (numbered n) = Some n

abbrev pub pack : List Entry → Flatpack
pack es = record { n = length es; qubit = λ i. (entry_at es i).qubit; slot = λ k. flat_slot (slot_in (entry_at es (k / 3)) (k % 3)) }

abbrev pub tree : List Entry → Tree
tree es = flat_tree true (pack es)

-- qubits used: largest + 1
abbrev pub qubits : List Entry → ℕ
qubits es = past (pack es).qubit (length es)

-- ---- its refusals, in their order

-- some qubit is at or above b
abbrev pub reaching : List Entry → ℕ → Bool
reaching es b = some_below (length es) (λ k. leb b ((pack es).qubit k))

unfoldable pub verdict : List Entry → Paper
verdict es =
    first_of (
    (outside (length es) || (outside (qubits es) || reaching es 256) gives 1)
    ∷ (ltb (qubits es) (length es) || reaching es (qubits es) gives 3)
    ∷ tree_checks true (tree es))

-- of a text: 16 if it is not well formed, before all others
abbrev pub verdict_of : Parsed → Paper
verdict_of (well_formed es) = verdict es
verdict_of (malformed k) = bare 16

-- ---- what is written

-- with leaves, and the all-zero vacuum
unfoldable pub answer_text : List Entry → List ℕ
answer_text es = if_zero (verdict es).number (report (length es) (qubits es) (rows true (tree es)).row 0) (refused_line (verdict es).number)

abbrev pub output_of : Parsed → List ℕ
output_of (well_formed es) = answer_text es
output_of (malformed k) = refused_line 16

unfoldable pub output : List ℕ → List ℕ
output text = output_of (parse text)
