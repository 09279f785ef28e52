-- `walk::across` meets its contract: as `beside`, where what is left of the state is as it was, and the words passed have the row added.
use mathlib.Core.Path.{◌≡◌}
use mathlib.Core.List.{◌++◌}
use lib.Bits.{bit_xor}
use lib.ListN.{take, drop}
use Rattle.dense_block.specs.Words.{xors, folded}
use Rattle.majorana.proofs.WalkLaws.{Walking}
use Rattle.majorana.proofs.walk.across.Given as goal

abbrev pub invariant-loop-at : goal.invariant-loop-at
invariant-loop-at l =
    (drop l.at l.s ≡ drop l.at l.initial.s)
    × (take l.at l.s ++ xors (drop l.at l.s) (drop l.at l.lo.x.now) ≡ xors l.initial.s l.lo.x.now)
    × Walking l.lo.x.now l.hi.x.now l.lo.z.now l.initial.s l.at l.apart l.first
    × (bit_xor l.second (folded (drop l.at l.hi.z.now) (drop l.at l.initial.s)) ≡ folded l.hi.z.now l.initial.s)
