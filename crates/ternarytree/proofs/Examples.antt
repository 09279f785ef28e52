-- Small cases of building, by computing: each refusal, and the order of the refusals.
use Prim.Native.Nat.{ℕ, ◌*◌}
use mathlib.Core.Path.{◌≡◌, refl}
use mathlib.Core.List.{List, [], ◌∷◌}
use mathlib.Core.Bool.{Bool, true, false}
use Rattle.refusal.specs.Search.{some_below, all_below, Least, found, none, least_below, first_pair}
use Rattle.algebra.specs.Rows.{bit, clash, dot, common}
use Rattle.algebra.specs.Modes.{vacuum_rule, empty, paired, d, e, commuting_pair}
use Rattle.algebra.specs.Choices.{combo, dependent}
use lib.Count.{ones, ones_in}
use lib.ListN.{replicate}
use Rattle.trees.specs.Trees.{parent_in, leaf_in, twice_in, first_fault, fault_of, leaf_fault, scattered, climb, missing}
use Rattle.trees.specs.Flatpacks.{child_of, entry_in, past, leaf_numbered}
use Rattle.tree_sizes.specs.Sizes.{outside, reaches, unreadable}
use Rattle.ternarytree.specs.Building.{Input, given, answer, bad_size, too_short, bad_qubits, fault_slot, fault_place, NamedInput, asked, named_answer}
use Rattle.trees.specs.Paths.{letter, above, row_at}
use Rattle.trees.specs.Leaves.{named_slot, z_end, chain_end, slot_of}
use Rattle.trees.specs.declared.Named.{Named}
use Rattle.trees.specs.declared.Named.TheVariants.{Parity as parity, Jkmn as jkmn}
use Rattle.trees.specs.Named.{under}

-- n entries for q qubits, at most 64, with outputs that are long enough; the flatpack with leaves and the naive one
abbrev pack : Bool → ℕ → ℕ → List ℕ → List Bool → Input
pack leaves n q es fs = given leaves n q es fs (replicate (2 * n) 7) (replicate (2 * n) 7) (replicate (2 * n) 7) (7 ∷ []) (replicate (4 * n) 7)

-- two entries, whose last slot is empty
abbrev two : ℕ → ℕ → ℕ → ℕ → ℕ → ℕ → ℕ → Input
two q a x y z x' y' = pack true 2 q (a ∷ x ∷ y ∷ z ∷ 1 ∷ x' ∷ y' ∷ 0 ∷ []) (true ∷ true ∷ true ∷ true ∷ true ∷ false ∷ [])

-- the same with the places that are filled
abbrev two_of : List ℕ → List Bool → Input
two_of es fs = pack true 2 3 es fs

abbrev bad : List ℕ → List Bool → ℕ → Input
bad es fs q = given true 2 q es fs [] [] [] [] []

abbrev numbers : List Input → List ℕ
numbers [] = []
numbers (i ∷ rest) = (answer i).number ∷ numbers rest

abbrev t : Bool
t = true

abbrev f : Bool
f = false

-- done; 1 by modes, by qubits and by an entry's qubit; 2; 3 twice; 4; 5; 6; 7; 8; 9 by range, by repeat and by a leaf that is missing; 13
cases : numbers (
    two 2 0 2 3 1 4 5
    ∷ pack true 0 2 [] []
    ∷ pack true 1 257 (0 ∷ 1 ∷ 2 ∷ 0 ∷ []) (t ∷ t ∷ f ∷ [])
    ∷ two 2 256 2 3 1 4 5
    ∷ pack true 2 2 (0 ∷ 2 ∷ 3 ∷ 1 ∷ 1 ∷ 4 ∷ 5 ∷ []) (t ∷ t ∷ t ∷ t ∷ t ∷ f ∷ [])
    ∷ two 1 0 2 3 1 4 5
    ∷ two 2 2 2 3 1 4 5
    ∷ two_of (0 ∷ 1 ∷ 3 ∷ 2 ∷ 2 ∷ 4 ∷ 5 ∷ 0 ∷ []) (t ∷ t ∷ t ∷ t ∷ t ∷ f ∷ [])
    ∷ two 2 0 0 3 1 4 5
    ∷ two 2 0 1 3 1 4 5
    ∷ two 2 1 2 3 1 4 5
    ∷ two_of (0 ∷ 2 ∷ 3 ∷ 0 ∷ 1 ∷ 4 ∷ 5 ∷ 0 ∷ []) (t ∷ t ∷ f ∷ t ∷ t ∷ f ∷ [])
    ∷ two 2 0 6 3 1 4 5
    ∷ two 2 0 2 2 1 4 5
    ∷ two_of (0 ∷ 2 ∷ 3 ∷ 1 ∷ 1 ∷ 4 ∷ 0 ∷ 0 ∷ []) (t ∷ t ∷ t ∷ t ∷ f ∷ f ∷ [])
    ∷ pack true 1 1 (0 ∷ 2 ∷ 1 ∷ 0 ∷ []) (t ∷ t ∷ f ∷ [])
    ∷ [])
    ≡ 0 ∷ 1 ∷ 1 ∷ 1 ∷ 2 ∷ 3 ∷ 3 ∷ 4 ∷ 5 ∷ 6 ∷ 7 ∷ 8 ∷ 9 ∷ 9 ∷ 9 ∷ 13 ∷ []
unfolding answer bad_size too_short bad_qubits outside reaches some_below all_below least_below first_pair twice_in first_fault fault_of leaf_fault child_of entry_in past leaf_numbered parent_in leaf_in scattered climb missing named_slot slot_of row_at letter above vacuum_rule empty paired d e commuting_pair clash dot common ones ones_in bit combo dependent
cases = refl

-- input that offends two refusals that stand next to each other gets the first: 1 and 2; 2 and 3; 3 and 7; 7 and 5; 5 and 6, in one slot; 6 and then 4; 4 and then 9;
-- 9 and 8; 8 and 9 for a missing leaf; that and 13. A slot holds one thing, so 6, 4 and 9 meet in different slots, of which the first decides: last, 4 before 6 and 9 before 5
orders : numbers (
    bad [] [] 257
    ∷ bad [] [] 1
    ∷ two 1 1 2 3 1 4 5
    ∷ two 2 1 1 3 1 4 5
    ∷ two 2 0 2 3 1 1 5
    ∷ two_of (0 ∷ 2 ∷ 2 ∷ 1 ∷ 2 ∷ 4 ∷ 5 ∷ 0 ∷ []) (t ∷ t ∷ t ∷ t ∷ t ∷ f ∷ [])
    ∷ two_of (0 ∷ 1 ∷ 99 ∷ 2 ∷ 2 ∷ 4 ∷ 5 ∷ 0 ∷ []) (t ∷ t ∷ t ∷ t ∷ t ∷ f ∷ [])
    ∷ two_of (0 ∷ 2 ∷ 2 ∷ 0 ∷ 1 ∷ 4 ∷ 5 ∷ 0 ∷ []) (t ∷ t ∷ f ∷ t ∷ t ∷ f ∷ [])
    ∷ two_of (0 ∷ 2 ∷ 0 ∷ 0 ∷ 1 ∷ 4 ∷ 5 ∷ 0 ∷ []) (t ∷ f ∷ f ∷ t ∷ t ∷ f ∷ [])
    ∷ two_of (0 ∷ 3 ∷ 2 ∷ 1 ∷ 1 ∷ 4 ∷ 0 ∷ 0 ∷ []) (t ∷ t ∷ t ∷ t ∷ f ∷ f ∷ [])
    ∷ two_of (0 ∷ 1 ∷ 2 ∷ 2 ∷ 2 ∷ 4 ∷ 5 ∷ 0 ∷ []) (t ∷ t ∷ t ∷ t ∷ t ∷ f ∷ [])
    ∷ two_of (0 ∷ 2 ∷ 2 ∷ 0 ∷ 1 ∷ 4 ∷ 5 ∷ 0 ∷ []) (t ∷ t ∷ t ∷ t ∷ t ∷ f ∷ [])
    ∷ [])
    ≡ 1 ∷ 2 ∷ 3 ∷ 7 ∷ 5 ∷ 6 ∷ 4 ∷ 9 ∷ 8 ∷ 9 ∷ 4 ∷ 9 ∷ []
unfolding answer bad_size too_short bad_qubits outside reaches some_below all_below least_below first_pair twice_in first_fault fault_of leaf_fault child_of entry_in past leaf_numbered parent_in leaf_in scattered climb missing named_slot slot_of row_at letter above vacuum_rule empty paired d e commuting_pair clash dot common ones ones_in bit combo dependent
orders = refl

-- naive: a number that is no entry's qubit is ignored, so the first is done; then 5, 6, 7 and 8
naive_cases : numbers (
    pack false 2 2 (0 ∷ 9 ∷ 9 ∷ 1 ∷ 1 ∷ 7 ∷ 0 ∷ 9 ∷ []) (t ∷ t ∷ t ∷ t ∷ f ∷ t ∷ [])
    ∷ pack false 1 1 (0 ∷ 0 ∷ 0 ∷ 0 ∷ []) (f ∷ t ∷ f ∷ [])
    ∷ pack false 2 2 (0 ∷ 1 ∷ 1 ∷ 0 ∷ 1 ∷ 0 ∷ 0 ∷ 0 ∷ []) (t ∷ t ∷ f ∷ f ∷ f ∷ f ∷ [])
    ∷ pack false 2 2 (1 ∷ 0 ∷ 0 ∷ 0 ∷ 1 ∷ 0 ∷ 0 ∷ 0 ∷ []) (f ∷ f ∷ f ∷ f ∷ f ∷ f ∷ [])
    ∷ pack false 2 2 (0 ∷ 1 ∷ 0 ∷ 0 ∷ 1 ∷ 0 ∷ 0 ∷ 0 ∷ []) (t ∷ f ∷ f ∷ t ∷ f ∷ f ∷ [])
    ∷ [])
    ≡ 0 ∷ 5 ∷ 6 ∷ 7 ∷ 8 ∷ []
unfolding answer bad_size too_short bad_qubits outside reaches some_below all_below least_below first_pair twice_in first_fault fault_of leaf_fault child_of entry_in past leaf_numbered parent_in leaf_in scattered climb missing named_slot slot_of z_end chain_end row_at letter above vacuum_rule empty paired d e commuting_pair clash dot common ones ones_in bit combo dependent
naive_cases = refl

-- the first slot at fault of two entries, whose last slot is empty
abbrev place : List ℕ → Least
place es = fault_place true 2 es (t ∷ t ∷ t ∷ t ∷ t ∷ f ∷ [])

-- a misnumbered leaf in slot 4, the Y slot of entry 1; no fault; the same leaf, but a qubit has two entries; a qubit above 255; entries too short
places : place (0 ∷ 2 ∷ 3 ∷ 1 ∷ 1 ∷ 4 ∷ 9 ∷ 0 ∷ [])
    ∷ place (0 ∷ 2 ∷ 3 ∷ 1 ∷ 1 ∷ 4 ∷ 5 ∷ 0 ∷ [])
    ∷ place (1 ∷ 2 ∷ 3 ∷ 1 ∷ 1 ∷ 4 ∷ 9 ∷ 0 ∷ [])
    ∷ place (256 ∷ 2 ∷ 3 ∷ 1 ∷ 1 ∷ 4 ∷ 9 ∷ 0 ∷ [])
    ∷ place (0 ∷ 2 ∷ 3 ∷ 1 ∷ 1 ∷ 4 ∷ 9 ∷ [])
    ∷ []
    ≡ found 4 ∷ none ∷ none ∷ none ∷ none ∷ []
unfolding fault_place unreadable fault_slot outside reaches some_below least_below twice_in fault_of leaf_fault child_of entry_in past leaf_numbered parent_in leaf_in
places = refl

-- named trees: done, 1 by modes and by qubits, 2, 3
abbrev named : ℕ → ℕ → Named → NamedInput
named n q tree = asked tree n q (replicate 4 7) (replicate 4 7) (replicate 4 7) (7 ∷ []) (replicate 8 7)

abbrev named_numbers : List NamedInput → List ℕ
named_numbers [] = []
named_numbers (i ∷ rest) = (named_answer i).number ∷ named_numbers rest

named_cases : named_numbers (named 2 2 parity ∷ named 2 256 jkmn ∷ named 0 2 parity ∷ named 257 256 parity ∷ named 2 257 parity ∷ named 3 3 parity ∷ named 2 1 parity ∷ [])
    ≡ 0 ∷ 0 ∷ 1 ∷ 1 ∷ 1 ∷ 2 ∷ 3 ∷ []
unfolding named_answer outside some_below all_below least_below first_pair twice_in first_fault fault_of parent_in scattered climb slot_of z_end chain_end under row_at letter above vacuum_rule empty paired d e commuting_pair clash dot common ones ones_in bit combo dependent
named_cases = refl
