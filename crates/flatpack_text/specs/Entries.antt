-- The table of entries that reading leaves, as a flatpack: plain numbers, which slots are filled, and the qubits used.
use Rattle.std.specs.Prelude.{ℕ, zero, suc, ◌+◌, ◌-◌, ◌*◌, ◌/◌, ◌%◌, min, max, List, Bool, cond, not, eqb, get_or, set}

-- f 0 to f (n - 1) in the first places of a slice; past its end nothing changes
abbrev pub placed : {A : Type 0} → (ℕ → A) → ℕ → List A → List A
placed f zero d = d
placed f (suc k) d = set (placed f k d) k (f k)

-- number k of the flatpack, of entry k / 4: its qubit, or a slot without the 1 that the table adds
unfoldable pub plain_at : List ℕ → ℕ → ℕ
plain_at table k = cond (eqb (k % 4) 0) (get_or table k 0) (get_or table k 0 - 1)

-- slot k, of entry k / 3: the table has 0 for an empty one
unfoldable pub filled_at : List ℕ → ℕ → Bool
filled_at table k = not (eqb (get_or table (4 * (k / 3) + k % 3 + 1) 0) 0)

-- the qubits that the first k entries use: the largest + 1, counted as far as 257, since more than 256 are refused alike
unfoldable pub used : List ℕ → ℕ → ℕ
used table zero = 0
used table (suc k) = max (used table k) (min (get_or table (4 * k) 0) 256 + 1)
