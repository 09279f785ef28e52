-- The vacuum that solving answers: the solution that is zero in each column equal to a xor of some columns before it.
use Rattle.std.specs.Prelude.{ℕ, ◌^◌, Bool, not, ◌&&◌, eqb}
use Rattle.refusal.specs.Search.{some_below, all_below, Least, least_below}
use Rattle.algebra.specs.Rows.{bit, dot}
use Rattle.algebra.specs.Modes.{Modes, e, vacuum_rule}

-- column j of the e rows is the xor of the columns that u has; the empty xor is the zero column
unfoldable pub spans : Modes → ℕ → ℕ → Bool
spans m j u = all_below m.n (λ i. eqb (dot (e m i) u) (bit (e m i) j))

-- it is a xor of some columns before it
unfoldable pub dependent_column : Modes → ℕ → Bool
dependent_column m j = some_below (2 ^ j) (spans m j)

-- v is zero in each such column of the q
unfoldable pub plain : Modes → ℕ → ℕ → Bool
plain m q v = all_below q (λ j. not (dependent_column m j && eqb (bit v j) 1))

-- a string of q bits meets the vacuum rule
unfoldable pub solvable : Modes → ℕ → Bool
solvable m q = some_below (2 ^ q) (vacuum_rule m)

unfoldable pub solved_vacuum : Modes → ℕ → Least
solved_vacuum m q = least_below (2 ^ q) (λ v. vacuum_rule m v && plain m q v)
