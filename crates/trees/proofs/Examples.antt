-- Small cases of trees, by computing: the rows of each named tree, which pin letters and order.
use Prim.Native.Nat.{ℕ, zero, suc}
use mathlib.Core.Path.{◌≡◌, refl}
use mathlib.Core.List.{List, [], ◌∷◌, ◌++◌}
use mathlib.Core.Bool.{false}
use Rattle.refusal.specs.Search.{least_below}
use Rattle.algebra.specs.Rows.{Row}
use Rattle.algebra.specs.Modes.{Modes}
use Rattle.trees.specs.Trees.{parent_in}
use Rattle.trees.specs.Paths.{letter, above, row_at}
use Rattle.trees.specs.Leaves.{z_end, chain_end, slot_of, rows}
use Rattle.trees.specs.Named.{jordanWigner, parity, bravyiKitaev, jkmn, under, named_tree}

abbrev row : ℕ → ℕ → ℕ → Row
row p x z = record { p = p; x = x; z = z }

-- the first k rows
abbrev first_rows : Modes → ℕ → List Row
first_rows m zero = []
first_rows m (suc k) = first_rows m k ++ (m.row k ∷ [])

-- XI, YI, ZX, ZY
jordan_wigner_2 : first_rows (rows false (named_tree jordanWigner 2)) 4 ≡ row 0 1 0 ∷ row 1 1 1 ∷ row 0 2 1 ∷ row 1 2 3 ∷ []
unfolding row_at letter above parent_in least_below slot_of z_end chain_end under
jordan_wigner_2 = refl

-- XZ, YI, XX, XY
parity_2 : first_rows (rows false (named_tree parity 2)) 4 ≡ row 0 1 2 ∷ row 1 1 1 ∷ row 0 3 0 ∷ row 1 3 2 ∷ []
unfolding row_at letter above parent_in least_below slot_of z_end chain_end under
parity_2 = refl

-- XZIZ, YIII, XXZI, XYII, XXXI, XXYI, XZIX, XZIY
bravyi_kitaev_4 : first_rows (rows false (named_tree bravyiKitaev 4)) 8
    ≡ row 0 1 10 ∷ row 1 1 1 ∷ row 0 3 4 ∷ row 1 3 2 ∷ row 0 7 0 ∷ row 1 7 4 ∷ row 0 9 2 ∷ row 1 9 10 ∷ []
unfolding row_at letter above parent_in least_below slot_of z_end chain_end under
bravyi_kitaev_4 = refl

-- XZII, YIZI, XXII, XYII, YIXI, YIYI, ZIIX, ZIIY
jkmn_4 : first_rows (rows false (named_tree jkmn 4)) 8
    ≡ row 0 1 2 ∷ row 1 1 5 ∷ row 0 3 0 ∷ row 1 3 2 ∷ row 1 5 1 ∷ row 2 5 5 ∷ row 0 8 1 ∷ row 1 8 9 ∷ []
unfolding row_at letter above parent_in least_below slot_of z_end chain_end under
jkmn_4 = refl
