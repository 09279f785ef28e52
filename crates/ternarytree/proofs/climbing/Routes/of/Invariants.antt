-- `Routes::of` meets its contract: the nodes before i have their ways.
use Rattle.std.proofs.Common.{◌≡◌, ℕ, ◌<◌, length}
use Rattle.ternarytree.specs.Building.{placed}
use Rattle.ternarytree.specs.Tables.{at, way_at, link_of}
use Rattle.ternarytree.proofs.climbing.Routes.of.Given as goal

abbrev pub invariant-loop-i : goal.invariant-loop-i
invariant-loop-i l = (length l.ways ≡ 256) × ((j : ℕ) → j < l.i → way_at l.ways j ≡ link_of (placed (at l.tables.parents j)))
