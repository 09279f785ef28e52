-- The sizes and lengths that building a tree refuses by 1, 2 and 3. The entries es of a flatpack are four numbers each, the qubit and the X, Y and Z slots.
use Rattle.std.specs.Prelude.{ℕ, ◌*◌, List, [], ◌∷◌, Bool, ◌||◌, leb, ltb, length, get_or}
use Rattle.refusal.specs.Search.{some_below}
use Rattle.refusal.specs.Table as table
use Rattle.refusal.specs.Table.{Lent, ◌of◌, short}

-- 0 or above 256. Proofs of crates above unfold it, so it is no other name of that of `refusal`
unfoldable pub outside : ℕ → Bool
outside k = table.outside k

-- the qubit of entry i; 0 past the end
abbrev pub qubit_at : List ℕ → ℕ → ℕ
qubit_at es i = get_or es (4 * i) 0

-- the qubit of one of n entries is at or above b
unfoldable pub reaches : List ℕ → ℕ → ℕ → Bool
reaches es n b = some_below n (λ k. leb b (qubit_at es k))

-- the outputs of n modes, with w words to a part of a row, in slices of these lengths: X parts, Z parts, phases, vacuum and work room
abbrev pub outputs_lent : ℕ → ℕ → ℕ → ℕ → ℕ → ℕ → ℕ → List Lent
outputs_lent n w x z p v room = (2 * n * w of x) ∷ (2 * n * w of z) ∷ (2 * n of p) ∷ (w of v) ∷ (4 * n * w of room) ∷ []

-- a slice is too short, at any sizes: more than 256 modes, or more than 4 words a row, are too much for slices of any length
unfoldable pub many_or_short : ℕ → ℕ → List Lent → Bool
many_or_short n w lent = ltb 256 n || (ltb 4 w || short lent)

-- the slots of n entries cannot be read: modes 0 or above 256, slices too short, a qubit above 255
unfoldable pub unreadable : ℕ → List ℕ → List Bool → Bool
unreadable n es fs = outside n || (short ((4 * n of length es) ∷ (3 * n of length fs) ∷ []) || reaches es n 256)
