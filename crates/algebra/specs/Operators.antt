-- What encoding applies: row 2i is the operator γ_2i, and a product acts with its last factor first.
use Rattle.std.specs.Prelude.{ℕ, zero, suc}
use Rattle.algebra.specs.Rows.{bit, Row, times, identity}
use Rattle.algebra.specs.Modes.{Modes, lo}
use Rattle.algebra.specs.Coding.{when}

-- the product of the γ_2i of the occupied modes below k, in the order of the modes: the highest mode acts first
unfoldable pub applied : Modes → ℕ → ℕ → Row
applied m l zero = identity
applied m l (suc k) = when (bit l k) (λ r. times r (lo m k)) (applied m l k)
