-- What `rowreport` writes for small texts, and where it finds their refusals, by computing its definitions.
use Prim.Native.Nat.{ℕ}
use mathlib.Core.Path.{◌≡◌, refl}
use mathlib.Core.List.{List, [], ◌∷◌, ◌++◌}
use lib.Count.{ones, ones_in}
use lib.ListN.{replicate}
use Rattle.refusal.specs.Search.{some_below, all_below, least_below, first_pair}
use Rattle.algebra.specs.Rows.{bit, clash, dot, common}
use Rattle.algebra.specs.Modes.{vacuum_rule, empty, paired, d, e, commuting_pair}
use Rattle.algebra.specs.Choices.{combo, dependent}
use Rattle.trees.specs.Trees.{parent_in, leaf_in, twice_in, first_fault, fault_of, leaf_fault, scattered, climb, missing}
use Rattle.trees.specs.Flatpacks.{child_of, entry_in, past, leaf_numbered}
use Rattle.tree_sizes.specs.Sizes.{outside, reaches, unreadable}
use Rattle.ternarytree.specs.Building.{fault_slot, fault_place}
use Rattle.trees.specs.Paths.{letter, above, row_at}
use Rattle.trees.specs.Leaves.{named_slot, slot_of}
use Rattle.flatpack_text.specs.Text.{parse, cut, is_digit, field_of, lines_of}
use Rattle.flatpack_text.specs.Machine.{told, kept}
use Rattle.flatpack_text.specs.Entries.{plain_at, filled_at}
use Rattle.std.specs.Prelude.{Option, Some, None}
use Rattle.report.specs.declared.explain.Spot.TheVariants.{X}
use Rattle.report.specs.declared.locate.Site.{Site}
use Rattle.report.specs.Report.{digits_in, digits_of, row_number, refused_line, report}
use Rattle.report.specs.Output.{verdict, answer_text, output}
use Rattle.report.specs.Replies.{fault_at, located}

-- the scope's example: `0 2 3 1` and `1 4 5 -`, tabs for blanks
abbrev pub two_modes : List ℕ
two_modes = 48 ∷ 9 ∷ 50 ∷ 9 ∷ 51 ∷ 9 ∷ 49 ∷ 10 ∷ 49 ∷ 9 ∷ 52 ∷ 9 ∷ 53 ∷ 9 ∷ 45 ∷ 10 ∷ []

-- majorana 2 2, 0 0 XI, 1 1 YI, 2 0 ZX, 3 1 ZY, vacuum 00, with tabs for blanks
abbrev pub two_modes_report : List ℕ
two_modes_report =
    (109 ∷ 97 ∷ 106 ∷ 111 ∷ 114 ∷ 97 ∷ 110 ∷ 97 ∷ 9 ∷ 50 ∷ 9 ∷ 50 ∷ 10 ∷ [])
    ++ ((48 ∷ 9 ∷ 48 ∷ 9 ∷ 88 ∷ 73 ∷ 10 ∷ [])
    ++ ((49 ∷ 9 ∷ 49 ∷ 9 ∷ 89 ∷ 73 ∷ 10 ∷ [])
    ++ ((50 ∷ 9 ∷ 48 ∷ 9 ∷ 90 ∷ 88 ∷ 10 ∷ [])
    ++ ((51 ∷ 9 ∷ 49 ∷ 9 ∷ 90 ∷ 89 ∷ 10 ∷ [])
    ++ (118 ∷ 97 ∷ 99 ∷ 117 ∷ 117 ∷ 109 ∷ 9 ∷ 48 ∷ 48 ∷ 10 ∷ [])))))

pub two_modes_output : output two_modes ≡ two_modes_report
unfolding output parse cut is_digit field_of lines_of answer_text verdict outside some_below all_below least_below first_pair twice_in first_fault fault_of leaf_fault child_of entry_in past leaf_numbered parent_in leaf_in scattered climb missing named_slot slot_of row_at letter above vacuum_rule empty paired d e commuting_pair clash dot common ones ones_in bit combo dependent report digits_of digits_in row_number
two_modes_output = refl

-- `0 2 3 1` and `1 3 5 -`: 3 is Y leaf 0, in the Y slot of the first line and again in the X slot of the second
abbrev leaf_twice : List ℕ
leaf_twice = 48 ∷ 9 ∷ 50 ∷ 9 ∷ 51 ∷ 9 ∷ 49 ∷ 10 ∷ 49 ∷ 9 ∷ 51 ∷ 9 ∷ 53 ∷ 9 ∷ 45 ∷ 10 ∷ []

-- `0 2 1 -`: X leaf 0 is in the Y slot and Y leaf 0 in the X slot. So the rows are Y and X, with phases 1 and 0 and d = 2, and the vacuum rule asks for e·v = 1, which the all-zero vacuum
-- does not meet: 13
abbrev leaves_exchanged : List ℕ
leaves_exchanged = 48 ∷ 9 ∷ 50 ∷ 9 ∷ 49 ∷ 9 ∷ 45 ∷ 10 ∷ []

-- `256 - - -` without its line feed: not well formed, and its qubit is too large
abbrev not_ended : List ℕ
not_ended = 50 ∷ 53 ∷ 54 ∷ 9 ∷ 45 ∷ 9 ∷ 45 ∷ 9 ∷ 45 ∷ []

-- an empty text; a leaf used twice; leaves exchanged; a qubit that is too large; the same in a text that is not well formed
pub refused-outputs :
    (output [] ≡ refused_line 1)
    × (output leaf_twice ≡ refused_line 9)
    × (output leaves_exchanged ≡ refused_line 13)
    × (output (not_ended ++ (10 ∷ [])) ≡ refused_line 1)
    × (output not_ended ≡ refused_line 16)
unfolding output parse cut is_digit field_of lines_of answer_text verdict outside some_below all_below least_below first_pair twice_in first_fault fault_of leaf_fault child_of entry_in past leaf_numbered parent_in leaf_in scattered climb missing named_slot slot_of row_at letter above vacuum_rule empty paired d e commuting_pair clash dot common ones ones_in bit combo dependent report digits_of digits_in row_number
refused-outputs = (refl, refl, refl, refl, refl)

-- ---- where a refusal is found

abbrev site : List ℕ → Option Site
site text = located (told (parse text)) (kept text (replicate 1024 0))

-- `0 0 - -` and `0 - - -`: the first X slot holds its own node, but the entries are refused by 3, before the slots are looked at
abbrev repeated : List ℕ
repeated = 48 ∷ 9 ∷ 48 ∷ 9 ∷ 45 ∷ 9 ∷ 45 ∷ 10 ∷ 48 ∷ 9 ∷ 45 ∷ 9 ∷ 45 ∷ 9 ∷ 45 ∷ 10 ∷ []

-- the second use of a leaf, by line and slot; no slot for 3, nor for 13; the line that is not ended
pub sites-found :
    (site leaf_twice ≡ Some (record { line = 2; spot = Some X }))
    × (output repeated ≡ refused_line 3)
    × (site repeated ≡ None)
    × (site leaves_exchanged ≡ None)
    × (site not_ended ≡ Some (record { line = 1; spot = None }))
unfolding output parse cut is_digit field_of lines_of answer_text verdict outside some_below all_below least_below first_pair twice_in first_fault fault_of leaf_fault child_of entry_in past leaf_numbered parent_in leaf_in scattered climb missing named_slot slot_of row_at letter above vacuum_rule empty paired d e commuting_pair clash dot common ones ones_in bit combo dependent report digits_of digits_in row_number kept located fault_at fault_place fault_slot unreadable plain_at filled_at reaches
sites-found = (refl, refl, refl, refl, refl)
