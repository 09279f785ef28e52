-- The named trees on n nodes: node k, from 1, stands in the slot `under k`.
use Rattle.std.specs.Prelude.{ℕ, ◌+◌, ◌-◌, ◌*◌, ◌/◌, ◌%◌, cond, ◌&&◌, eqb, ltb}
use Rattle.refusal.specs.Search.{least_below}
use Rattle.trees.specs.Trees.{empty, Tree}
use Rattle.trees.specs.Flatpacks.{named}
pub use Rattle.trees.specs.declared.Named.{Named}
pub use Rattle.trees.specs.declared.Named.TheVariants.{JordanWigner as jordanWigner, Parity as parity, BravyiKitaev as bravyiKitaev, Jkmn as jkmn}

-- the slots of node i
abbrev pub x_of : ℕ → ℕ
x_of i = 3 * i

abbrev pub y_of : ℕ → ℕ
y_of i = 3 * i + 1

abbrev pub z_of : ℕ → ℕ
z_of i = 3 * i + 2

-- Jordan-Wigner: node k under k - 1 by Z. Parity: the same by X. Bravyi-Kitaev: node 1 under 0 by X, then k ≥ 2 under floor(k / 2), X if k is even, Z if odd.
-- JKMN: k under floor((k - 1) / 3), by X, Y, Z as (k - 1) mod 3 is 0, 1, 2
unfoldable pub under : Named → ℕ → ℕ
under jordanWigner k = z_of (k - 1)
under parity k = x_of (k - 1)
under bravyiKitaev k = cond (ltb k 2) (x_of 0) (cond (eqb (k % 2) 0) (x_of (k / 2)) (z_of (k / 2)))
under jkmn k = cond (eqb ((k - 1) % 3) 0) (x_of ((k - 1) / 3)) (cond (eqb ((k - 1) % 3) 1) (y_of ((k - 1) / 3)) (z_of ((k - 1) / 3)))

-- column i is node i's
abbrev pub grown : (ℕ → ℕ) → ℕ → Tree
grown stands n = record { n = n; qubit = λ i. i; child = λ k. named (least_below n (λ j. ltb 0 j && eqb (stands j) k)) empty }

abbrev pub named_tree : Named → ℕ → Tree
named_tree tree n = grown (under tree) n
