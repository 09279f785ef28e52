-- No two rows commute exactly if all anticommute: a clash is 0 or 1 and the same both ways round.
use Prim.Native.Nat.{ℕ, ◌*◌, ◌<◌}
use native.Mathlib.Decide.{dec_lt}
use native.Mathlib.Omega.{arith}
use mathlib.Core.Path.{◌≡◌, ◌∙◌}
use mathlib.Core.Bool.{Bool}
use borrow.Author.Tests.{eqb-false, ne_eqb}
use lib.Dec.{eqb}
use Rattle.refusal.specs.Search.{no_pair}
use Rattle.refusal.proofs.Searches.{pair_none, pair_missing}
use Rattle.algebra.specs.Rows.{clash, Anticommute}
use Rattle.algebra.specs.Modes.{Modes, Majorana, commuting_pair}
use Rattle.algebra.proofs.RowLaws.{clash_lt, clash_comm}

module _ (m : Modes) where
  abbrev commute : ℕ → ℕ → Bool
  commute j k = eqb (clash (m.row j) (m.row k)) 0

  apart : commuting_pair m ≡ no_pair → (j k : ℕ) → j < k → k < 2 * m.n → Anticommute (m.row j) (m.row k)
  unfolding commuting_pair
  apart h j k l b = omega (arith, clash_lt (m.row j) (m.row k), eqb-false (clash (m.row j) (m.row k)) 0 (pair_missing (2 * m.n) commute h j k l b))

  pub majorana_of : commuting_pair m ≡ no_pair → Majorana m
  unfolding Majorana
  majorana_of h j k lj lk ne = go (dec_lt j k)
    where
      go : Dec (j < k) → Anticommute (m.row j) (m.row k)
      go (yes l) = apart h j k l lk
      go (no l) = clash_comm (m.row j) (m.row k) ∙ apart h k j (omega (arith, l)) lj

  pub commuting_none : Majorana m → commuting_pair m ≡ no_pair
  unfolding commuting_pair Majorana
  commuting_none maj = pair_none (2 * m.n) commute (λ j k l h. ne_eqb (clash (m.row j) (m.row k)) 0 (λ z. omega (arith, maj j k (omega arith) h (omega arith))))
