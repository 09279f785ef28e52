-- Rows that anticommute, with paired modes, have a vacuum: the xor of the c of the modes whose d/2 is 1, since mode i reads of it whether c_i is there.
use Prim.Native.Nat.{ℕ, ◌/◌, ◌^◌, ◌<◌}
use native.Mathlib.Nat.{le_refl}
use native.Mathlib.Omega.{arith}
use mathlib.Core.Path.{◌≡◌, ◌∙◌}
use mathlib.Core.Bool.{true}
use Rattle.refusal.proofs.Searches.{some_of}
use Rattle.algebra.specs.Modes.{Modes, c, d, paired, vacuum_rule, Majorana}
use Rattle.algebra.specs.Choices.{combo}
use Rattle.algebra.specs.Solving.{solvable}
use Rattle.algebra.proofs.ChoiceLaws.{combo_below, choice_of}
use Rattle.algebra.proofs.Duals.{vacuum_of_lem, reads_own}

half_lt : (m : Modes) (i : ℕ) → d m i / 2 < 2
unfolding d
half_lt m i = omega arith

pub vacuum_exists : (m : Modes) (q : ℕ) → Majorana m → ((i : ℕ) → i < m.n → paired m i ≡ true) → ((i : ℕ) → i < m.n → c m i < 2 ^ q) → solvable m q ≡ true
unfolding solvable
vacuum_exists m q maj pairs low =
    let l = choice_of m.n (λ i. d m i / 2) (half_lt m) in
    let v = combo (c m) m.n l.0 in
    some_of (2 ^ q) (vacuum_rule m) v (combo_below q (c m) m.n l.0 low)
    (vacuum_of_lem m v pairs (λ i h. reads_own m maj pairs l.0 i m.n h (le_refl m.n) ∙ l.1 i h))
