-- Mode enumeration: which map is a permutation, and the rows of the modes in their new order.
use Rattle.std.specs.Prelude.{ℕ, zero, suc, ◌+◌, ◌*◌, ◌/◌, ◌%◌, List, [], ◌∷◌, ◌++◌, Bool, not, ◌&&◌, eqb, ltb, get_or, take, drop}
use Rattle.refusal.specs.Search.{some_below, all_below}
use Rattle.dense_block.specs.Words.{term_of}

-- k is among the first i numbers of the map
unfoldable pub among : ℕ → List ℕ → ℕ → Bool
among i ms k = some_below i (λ j. eqb (get_or ms j 0) k)

-- number i of the map is below n and not among those before it
unfoldable pub new_number : ℕ → List ℕ → ℕ → Bool
new_number n ms i = ltb (get_or ms i 0) n && not (among i ms (get_or ms i 0))

-- the first n numbers of the map are a permutation: each is below n, and no two are equal
unfoldable pub permutation : ℕ → List ℕ → Bool
permutation n ms = all_below n (new_number n ms)

-- ---- new mode i has the old rows of mode map[i]

-- the old number of the new row k
abbrev pub old_row : List ℕ → ℕ → ℕ
old_row ms k = 2 * get_or ms (k / 2) 0 + k % 2

-- the lists f 0, f 1, .. below n, one after the other
abbrev pub joined : {A : Type 0} → ℕ → (ℕ → List A) → List A
joined zero f = []
joined (suc k) f = joined k f ++ f k

-- the words of the new rows
unfoldable pub enumerated_words : ℕ → ℕ → List ℕ → List ℕ → List ℕ
enumerated_words w n ms xs = joined (2 * n) (λ k. term_of w xs (old_row ms k))

-- and their phases
unfoldable pub enumerated_phases : ℕ → List ℕ → List ℕ → List ℕ
enumerated_phases n ms ps = joined (2 * n) (λ k. get_or ps (old_row ms k) 0 ∷ [])

-- what each mode has, `size` elements, in the new order: the words of its two rows, or their phases
abbrev pub enumerated_blocks : {A : Type 0} → ℕ → ℕ → List ℕ → List A → List A
enumerated_blocks size n ms xs = joined n (λ i. take size (drop (get_or ms i 0 * size) xs))
