-- What building a tree answers and leaves: its rows, phases and vacuum, or the first refusal.
use Rattle.std.specs.Prelude.{ℕ, ◌+◌, ◌*◌, ◌/◌, ◌%◌, ◌≡◌, List, [], ◌∷◌, Bool, true, false, cond, not, ◌&&◌, ◌||◌, Option, Some, None, eqb, ltb, length, get_or}
use Rattle.refusal.specs.Numbers.{Paper, Answer, answered}
use Rattle.refusal.specs.Search.{Least, found, none, least_below}
use Rattle.refusal.specs.Table.{Rule, ◌gives◌, ◌names◌, first_of, Lent, ◌of◌, short, on_done, past_two}
use Rattle.algebra.specs.Modes.{Modes, vacuum_rule, commuting_pair}
use Rattle.algebra.specs.Choices.{dependent}
use Rattle.dense_block.specs.Words.{words_for, zeroed}
use Rattle.dense_block.specs.Blocks.{laid, listed}
use Rattle.trees.specs.Trees.{Tree, twice, fault, first_fault, scattered, missing}
use Rattle.trees.specs.Leaves.{rows}
use Rattle.trees.specs.Flatpacks.{Flatpack, flat_tree}
use Rattle.trees.specs.declared.Named.{Named}
use Rattle.trees.specs.Named.{named_tree}
use Rattle.tree_sizes.specs.Sizes.{outside, qubit_at, reaches, outputs_lent, unreadable}

-- ---- what is written

-- lent for the X parts, the Z parts and the phases of the rows, for the vacuum, and as work room
pub record Outputs : Type 0 where
  pub xs : List ℕ
  pub zs : List ℕ
  pub ps : List ℕ
  pub vs : List ℕ
  pub room : List ℕ

-- of n modes, with w words to a part of a row
abbrev pub needed : ℕ → ℕ → Outputs → List Lent
needed n w o = outputs_lent n w (length o.xs) (length o.zs) (length o.ps) (length o.vs) (length o.room)

-- done, refused by 13, refused by another number
abbrev pub settled : {A : Type 0} → Paper → A → A → A → A
settled p new zeros old = on_done p new (cond (eqb p.number 13) zeros old)

-- the answer r is p. Done: the rows m and the all-zero vacuum are written. A tree refused by 13 leaves zeros over them; another refusal changes no output. Work room
-- is zero over its needed length after a call that got past 1 and 2. What lies past the needed lengths stays
pub record Built (p : Paper) (w : ℕ) (m : Modes) (o : Outputs) (r : Answer) (xs zs ps vs room : List ℕ) : Type 0 where
  pub told : answered r ≡ p
  pub x_parts : xs ≡ settled p (laid w (λ k. (m.row k).x) (2 * m.n) o.xs) (zeroed (2 * m.n * w) o.xs) o.xs
  pub z_parts : zs ≡ settled p (laid w (λ k. (m.row k).z) (2 * m.n) o.zs) (zeroed (2 * m.n * w) o.zs) o.zs
  pub phases : ps ≡ settled p (listed (λ k. (m.row k).p) (2 * m.n) o.ps) (zeroed (2 * m.n) o.ps) o.ps
  pub vacuum : vs ≡ settled p (zeroed w o.vs) (zeroed w o.vs) o.vs
  pub work : room ≡ past_two p (zeroed (4 * m.n * w) o.room) o.room

-- ---- the order of the refusals

-- the row check with the vacuum v
abbrev pub row_checks : Modes → ℕ → List Rule
row_checks m v = (commuting_pair m names 10) ∷ (dependent m gives 11) ∷ (not (vacuum_rule m v) gives 13) ∷ []

-- 7; then entry by entry, X, Y, Z: 5, 6, 4, 9; then 8; then, with leaves, 9 for a missing one; then the rows are checked with the all-zero vacuum
abbrev pub tree_checks : Bool → Tree → List Rule
tree_checks leaves t =
    (twice t gives 7)
    ∷ (ltb 0 (first_fault t) gives first_fault t)
    ∷ (scattered t gives 8)
    ∷ (leaves && missing t gives 9)
    ∷ row_checks (rows leaves t) 0

-- ---- flatpacks

-- n entries for q qubits, with leaves or naive. Entry i is the numbers 4i (its qubit), 4i + 1, 4i + 2 and 4i + 3 (its X, Y and Z slots) of es; the slot is empty if
-- its place 3i, 3i + 1 or 3i + 2 of fs is false
pub record Input : Type 0 where
  pub leaves : Bool
  pub n : ℕ
  pub q : ℕ
  pub es : List ℕ
  pub fs : List Bool
  pub out : Outputs

abbrev pub given : Bool → ℕ → ℕ → List ℕ → List Bool → List ℕ → List ℕ → List ℕ → List ℕ → List ℕ → Input
given leaves n q es fs xs zs ps vs room = record { leaves = leaves; n = n; q = q; es = es; fs = fs; out = record { xs = xs; zs = zs; ps = ps; vs = vs; room = room } }

abbrev pub slot_at : List ℕ → List Bool → ℕ → Option ℕ
slot_at es fs k = cond (get_or fs k false) (Some (get_or es (4 * (k / 3) + k % 3 + 1) 0)) None

-- the flatpack of n entries in two slices, and its tree, with leaves or naive
abbrev pub pack : ℕ → List ℕ → List Bool → Flatpack
pack n es fs = record { n = n; qubit = qubit_at es; slot = slot_at es fs }

abbrev pub flat : Bool → ℕ → List ℕ → List Bool → Tree
flat leaves n es fs = flat_tree leaves (pack n es fs)

abbrev pub pack_of : Input → Flatpack
pack_of i = pack i.n i.es i.fs

abbrev pub tree_of : Input → Tree
tree_of i = flat i.leaves i.n i.es i.fs

-- modes 0 or above 256, qubits 0 or above 256, a flatpack qubit above 255
unfoldable pub bad_size : Input → Bool
bad_size i = outside i.n || (outside i.q || reaches i.es i.n 256)

unfoldable pub too_short : Input → Bool
too_short i = short ((4 * i.n of length i.es) ∷ (3 * i.n of length i.fs) ∷ needed i.n (words_for i.q) i.out)

-- qubits fewer than nodes, or a flatpack qubit not below qubits
unfoldable pub bad_qubits : Input → Bool
bad_qubits i = ltb i.q i.n || reaches i.es i.n i.q

unfoldable pub answer : Input → Paper
answer i = first_of ((bad_size i gives 1) ∷ (too_short i gives 2) ∷ (bad_qubits i gives 3) ∷ tree_checks i.leaves (tree_of i))

-- what the answer r and the outputs of building a flatpack are
abbrev pub FlatBuilt : Input → Answer → List ℕ → List ℕ → List ℕ → List ℕ → List ℕ → Type 0
FlatBuilt i r xs zs ps vs room = Built (answer i) (words_for i.q) (rows i.leaves (tree_of i)) i.out r xs zs ps vs room

-- ---- the first fault of a flatpack's slots

-- what find_fault answers
abbrev pub placed : Option ℕ → Least
placed None = none
placed (Some k) = found k

-- entry by entry, X, Y, Z: the first slot that has a fault. 7 comes before the slots, and is no slot's
unfoldable pub fault_slot : Tree → Least
fault_slot t = cond (twice t) none (least_below (3 * t.n) (λ k. ltb 0 (fault t k)))

-- of n entries, with leaves or naive: none too if the slots cannot be read
unfoldable pub fault_place : Bool → ℕ → List ℕ → List Bool → Least
fault_place leaves n es fs = cond (unreadable n es fs) none (fault_slot (flat leaves n es fs))

-- why a tree is refused by a number from 4 to 9, `place` being what find_fault answers: by just the fault of that slot; or it is none, since a qubit has two entries,
-- which comes before the slots, or since no slot has a fault and not all nodes hang from one root, or a leaf is missing
pub data Cause (leaves : Bool) (t : Tree) (place : Least) (number : ℕ) : Type 0 where
  in_slot : (k : ℕ) → place ≡ found k → number ≡ fault t k → Cause leaves t place number
  second_entry : place ≡ none → number ≡ 7 → twice t ≡ true → Cause leaves t place number
  roots : place ≡ none → number ≡ 8 → scattered t ≡ true → Cause leaves t place number
  missing_leaf : place ≡ none → number ≡ 9 → leaves ≡ true → missing t ≡ true → Cause leaves t place number

-- ---- named trees

-- n nodes, for q qubits; the rows keep n columns, and their lengths count n columns
pub record NamedInput : Type 0 where
  pub tree : Named
  pub n : ℕ
  pub q : ℕ
  pub out : Outputs

abbrev pub asked : Named → ℕ → ℕ → List ℕ → List ℕ → List ℕ → List ℕ → List ℕ → NamedInput
asked tree n q xs zs ps vs room = record { tree = tree; n = n; q = q; out = record { xs = xs; zs = zs; ps = ps; vs = vs; room = room } }

unfoldable pub named_answer : NamedInput → Paper
named_answer i =
    first_of (
    (outside i.n || outside i.q gives 1)
    ∷ (short (needed i.n (words_for i.n) i.out) gives 2)
    ∷ (ltb i.q i.n gives 3)
    ∷ tree_checks false (named_tree i.tree i.n))

-- what the answer r and the outputs of building a named tree are
abbrev pub NamedBuilt : NamedInput → Answer → List ℕ → List ℕ → List ℕ → List ℕ → List ℕ → Type 0
NamedBuilt i r xs zs ps vs room = Built (named_answer i) (words_for i.n) (rows false (named_tree i.tree i.n)) i.out r xs zs ps vs room
