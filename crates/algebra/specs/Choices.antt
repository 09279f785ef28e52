-- Choices of rows. A choice is a number: row i is chosen if its binary digit i is 1.
use Rattle.std.specs.Prelude.{ℕ, zero, suc, ◌*◌, ◌^◌, Bool, ◌&&◌, eqb, ltb}
use Rattle.std.specs.Int.Bits.{bit_xor}
use Rattle.refusal.specs.Search.{some_below}
use Rattle.algebra.specs.Rows.{bit}
use Rattle.algebra.specs.Modes.{Modes}

-- the row x if b is 1
abbrev pub pick : ℕ → ℕ → ℕ
pick zero x = 0
pick (suc b) x = x

-- the xor of those of the first k rows that a choice takes
unfoldable pub combo : (ℕ → ℕ) → ℕ → ℕ → ℕ
combo f zero choice = 0
combo f (suc k) choice = bit_xor (combo f k choice) (pick (bit choice k) (f k))

-- rows dependent: a nonempty choice of them has xor zero, in the X parts and in the Z parts
unfoldable pub dependent : Modes → Bool
dependent m =
    some_below (2 ^ (2 * m.n)) (λ choice.
    ltb 0 choice && (eqb (combo (λ k. (m.row k).x) (2 * m.n) choice) 0 && eqb (combo (λ k. (m.row k).z) (2 * m.n) choice) 0))
