-- `any_short` meets its contract: what the rest answers is what the whole does.
use Rattle.std.proofs.Common.{◌≡◌, drop}
use Rattle.refusal.specs.Table.{short}
use Rattle.refusal.specs.Slices.{lengths}
use Rattle.refusal.proofs.any_short.Given as goal

abbrev pub invariant-loop-need : goal.invariant-loop-need
invariant-loop-need l = short (lengths (drop l.need-index l.lent)) ≡ short (lengths l.lent)
