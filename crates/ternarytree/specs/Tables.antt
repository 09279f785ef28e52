-- For the private functions, and needs no belief: what the tables of the code hold. No public contract, and no theorem on the calls, cites a definition of this file.
use Rattle.std.specs.Prelude.{ℕ, zero, suc, ◌*◌, ◌/◌, ◌%◌, ◌^◌, ◌<◌, ◌≤◌, ◌≡◌, List, [], ◌∷◌, Bool, cond, not, ◌&&◌, ◌||◌, Option, Some, None, ltb, length, get_or, set}
use Rattle.std.specs.Int.Bits.{bit_xor}
use Rattle.refusal.specs.Numbers.{Paper, Answer, answered}
use Rattle.refusal.specs.Search.{Least, found, none}
use Rattle.refusal.specs.Table.{◌gives◌, first_of}
use Rattle.algebra.specs.Modes.{Modes, vacuum_rule}
use Rattle.dense_block.specs.Words.{value, words_of, zeroed, term_of}
use Rattle.dense_block.specs.Blocks.{laid, listed}
use Rattle.trees.specs.declared.Child.{Child}
use Rattle.trees.specs.declared.Child.TheVariants.{Empty as empty}
use Rattle.trees.specs.Trees.{Tree, node_of, up, parent_in, leaf_in, twice, first_fault, scattered, missing}
use Rattle.trees.specs.Paths.{row_at}
use Rattle.trees.specs.Leaves.{slot_of}
use Rattle.trees.specs.Flatpacks.{unnamed, named}
use Rattle.tree_sizes.specs.Sizes.{reaches}
use Rattle.ternarytree.specs.Building.{settled, tree_checks, flat, placed}
use Rattle.ternarytree.specs.declared.climbing.Way.{Way}

-- element k of a list, 0 past its end
abbrev pub nth : List ℕ → ℕ → ℕ
nth l k = get_or l k 0

-- element k of a list of options, none past its end
abbrev pub at : List (Option ℕ) → ℕ → Option ℕ
at l k = get_or l k None

-- a table holds the answers of f at the first n numbers
abbrev pub Holds : ℕ → (ℕ → Least) → List (Option ℕ) → Type 0
Holds n f l = (j : ℕ) → j < n → placed (at l j) ≡ f j

-- the first n numbers of f are at most b
abbrev pub AtMost : ℕ → ℕ → (ℕ → ℕ) → Type 0
AtMost n b f = (j : ℕ) → j < n → f j ≤ b

-- what the first n places hold is below b
abbrev pub AllBelow : ℕ → ℕ → List (Option ℕ) → Type 0
AllBelow n b l = (j v : ℕ) → j < n → at l j ≡ Some v → v < b

-- n numbers that are 0
abbrev pub Zero : ℕ → List ℕ → Type 0
Zero n l = (j : ℕ) → j < n → nth l j ≡ 0

-- n places with nothing in them
abbrev pub Blank : ℕ → List (Option ℕ) → Type 0
Blank n l = (j : ℕ) → j < n → at l j ≡ None

-- ---- flatpacks

-- what a slot holds, by a table of the qubits' entries
abbrev pub child_in : List (Option ℕ) → ℕ → Bool → Option ℕ → Child
child_in l top leaves None = empty
child_in l top leaves (Some q) = named (placed (at l q)) (unnamed leaves top q)

-- a node is one of n
abbrev pub NodeBelow : ℕ → Child → Type 0
NodeBelow n o = (j : ℕ) → node_of o ≡ found j → j < n

-- ---- trees

-- the columns of a tree's n nodes
pub record Columns (t : Tree) (n : ℕ) (l : List ℕ) : Type 0 where
  pub size : t.n ≡ n
  pub qubits : (i : ℕ) → i < n → t.qubit i ≡ nth l i

-- the slots that hold its nodes
pub record Parents (t : Tree) (n : ℕ) (l : List (Option ℕ)) : Type 0 where
  pub size : t.n ≡ n
  pub ups : Holds n (up t) l

-- the way up from a node that stands in slot k
abbrev pub link_of : Least → Option Way
link_of none = None
link_of (found k) = Some (record { node = k / 3; letter = k % 3 })

-- way k of a list, none past its end
abbrev pub way_at : List (Option Way) → ℕ → Option Way
way_at l k = get_or l k None

-- the ways up from its nodes
pub record Links (t : Tree) (n : ℕ) (l : List (Option Way)) : Type 0 where
  pub size : t.n ≡ n
  pub ups : (i : ℕ) → i < n → way_at l i ≡ link_of (up t i)

-- n ways up lead to some of n nodes, by three letters
abbrev pub Ways : ℕ → List (Option Way) → Type 0
Ways n l = (i : ℕ) (w : Way) → i < n → way_at l i ≡ Some w → (w.node < n) × (w.letter < 3)

-- the nodes that its slots hold, the first k of them
pub record Children (t : Tree) (n k : ℕ) (l : List (Option ℕ)) : Type 0 where
  pub size : t.n ≡ n
  pub nodes : Holds k (λ s. node_of (t.child s)) l

-- the tables of the parents and of the leaves, after the first k slots
pub record Wired (t : Tree) (n k : ℕ) (ps ls : List (Option ℕ)) : Type 0 where
  pub size : t.n ≡ n
  pub parents : Holds n (parent_in t k) ps
  pub leaves : Holds (2 * n) (leaf_in t k) ls

-- the slot of each row's leaf
abbrev pub Slots : (ℕ → ℕ) → ℕ → List (Option ℕ) → Type 0
Slots slot n l = (m : ℕ) → m < 2 * n → (at l m ≡ Some (slot m)) × (slot m < 3 * n)

-- the number of the first test of the entries and slots that a tree fails, or 0
unfoldable pub slot_verdict : Tree → ℕ
slot_verdict t = cond (twice t) 7 (first_fault t)

-- the number of the first test that a tree fails, or 0
unfoldable pub verdict : Bool → Tree → ℕ
verdict leaves t = cond (ltb 0 (slot_verdict t)) (slot_verdict t) (cond (scattered t) 8 (cond (leaves && missing t) 9 0))

-- ---- words

-- the words ws with column j flipped
unfoldable pub flipped : List ℕ → ℕ → List ℕ
flipped ws j = set ws (j / 64) (bit_xor (get_or ws (j / 64) 0) (2 ^ (j % 64)))

-- the same if b is not 0
abbrev pub lettered : ℕ → List ℕ → ℕ → List ℕ
lettered zero ws j = ws
lettered (suc b) ws j = flipped ws j

-- the columns of n nodes lie in the words ws
abbrev pub Fits : ℕ → List ℕ → List ℕ → Type 0
Fits n columns ws = (i : ℕ) → i < n → nth columns i / 64 < length ws

-- the row of slot k is added to two parts, and p is its phase
pub record Added (t : Tree) (k p : ℕ) (xs zs xs' zs' : List ℕ) : Type 0 where
  pub phase : p ≡ (row_at t k).p
  pub x_part : value xs' ≡ bit_xor (value xs) (row_at t k).x
  pub z_part : value zs' ≡ bit_xor (value zs) (row_at t k).z

-- the row of slot k is written to two parts, and p is its phase
pub record RowWritten (t : Tree) (k p : ℕ) (xs zs xs' zs' : List ℕ) : Type 0 where
  pub phase : p ≡ (row_at t k).p
  pub x_part : xs' ≡ words_of (length xs) (row_at t k).x
  pub z_part : zs' ≡ words_of (length zs) (row_at t k).z

-- the rows of n leaves, in the slots that `slot` tells, are laid in two slices and their phases listed in a third
pub record RowsWritten (t : Tree) (slot : ℕ → ℕ) (n w : ℕ) (xs zs ps xs' zs' ps' : List ℕ) : Type 0 where
  pub x_parts : xs' ≡ laid w (λ m. (row_at t (slot m)).x) n xs
  pub z_parts : zs' ≡ laid w (λ m. (row_at t (slot m)).z) n zs
  pub phases : ps' ≡ listed (λ m. (row_at t (slot m)).p) n ps

-- the X parts and phases of the rows m, as they are stored
pub record StoredX (m : Modes) (n w : ℕ) (xs ps : List ℕ) : Type 0 where
  pub size : m.n ≡ n
  pub x_part : (k : ℕ) → k < 2 * n → value (term_of w xs k) ≡ (m.row k).x
  pub phase : (k : ℕ) → k < 2 * n → nth ps k ≡ (m.row k).p

-- the tables of a tree of n nodes
pub record Planted (t : Tree) (n : ℕ) (columns : List ℕ) (parents children : List (Option ℕ)) : Type 0 where
  pub qubits : Columns t n columns
  pub ups : Parents t n parents
  pub nodes : Children t n (3 * n) children

-- the same as `Built` needs them: the slots of its leaves too, and its columns lie in w words
pub record Ready (leaves : Bool) (t : Tree) (n w : ℕ) (parents : List (Option ℕ)) (columns : List ℕ) (slots : List (Option ℕ)) : Type 0 where
  pub ups : Parents t n parents
  pub qubits : Columns t n columns
  pub within : (i : ℕ) → i < n → nth columns i / 64 < w
  pub ends : Slots (slot_of leaves t) n slots

-- the answer to the rows of a tree that passed its tests: 13, or done
abbrev pub rows_answer : Modes → Paper
rows_answer m = first_of ((not (vacuum_rule m 0) gives 13) ∷ [])

-- the answer to a flatpack past 1 and 2
abbrev pub flat_task : Bool → ℕ → ℕ → List ℕ → List Bool → Paper
flat_task leaves n q es fs = first_of ((ltb q n || reaches es n q gives 3) ∷ tree_checks leaves (flat leaves n es fs))

-- what is left of the outputs when the answer r of building the rows m is p
pub record TreeBuilt (p : Paper) (w : ℕ) (m : Modes) (xs zs ps vs : List ℕ) (r : Answer) (xs' zs' ps' vs' : List ℕ) : Type 0 where
  pub told : answered r ≡ p
  pub x_parts : xs' ≡ settled p (laid w (λ k. (m.row k).x) (2 * m.n) xs) (zeroed (2 * m.n * w) xs) xs
  pub z_parts : zs' ≡ settled p (laid w (λ k. (m.row k).z) (2 * m.n) zs) (zeroed (2 * m.n * w) zs) zs
  pub phases : ps' ≡ settled p (listed (λ k. (m.row k).p) (2 * m.n) ps) (zeroed (2 * m.n) ps) ps
  pub vacuum : vs' ≡ settled p (zeroed w vs) (zeroed w vs) vs
