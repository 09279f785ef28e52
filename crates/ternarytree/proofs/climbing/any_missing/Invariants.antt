-- `any_missing` meets its contract: the leaves before m have slots.
use Rattle.std.proofs.Common.{◌≡◌, ℕ, ◌<◌, true}
use Rattle.std.specs.Option.{is_some}
use Rattle.ternarytree.specs.Tables.{at}
use Rattle.ternarytree.proofs.climbing.any_missing.Given as goal

abbrev pub invariant-loop-m : goal.invariant-loop-m
invariant-loop-m l = (j : ℕ) → j < l.m → is_some (at l.tables.slots j) ≡ true
