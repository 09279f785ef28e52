-- `wire` meets its contract: `Wiring` holds of the slots before k.
use Rattle.std.proofs.Common.{◌≡◌, length}
use Rattle.ternarytree.proofs.WireSteps.{Wiring}
use Rattle.ternarytree.proofs.reading.wire.Given as goal

abbrev pub invariant-loop-k : goal.invariant-loop-k
invariant-loop-k l =
    (l.tables.n ≡ l.e.n) × (length l.children ≡ 768) × Wiring l.e l.table l.top l.tables.parents l.children l.tables.slots l.k
