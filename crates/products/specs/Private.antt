-- For the private functions only: no public contract cites what stands here, so it needs no belief.
use Rattle.std.specs.Prelude.{ℕ, List}
use Rattle.algebra.specs.Rows.{Row}
use Rattle.pauli.specs.Product.{row_of as lent_row}

-- the row of a phase and the words of its parts
abbrev pub row_of : ℕ → List ℕ → List ℕ → Row
row_of p xs zs = lent_row (record { p = p; xs = xs; zs = zs })
