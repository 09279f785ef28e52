-- `walk::beside` meets its contract: what was gathered and the rest make the whole, and past the end nothing is left.
use mathlib.Core.Path.{◌≡◌}
use lib.Bits.{bit_xor}
use lib.ListN.{drop}
use Rattle.dense_block.specs.Words.{folded}
use Rattle.majorana.proofs.WalkLaws.{Walking}
use Rattle.majorana.proofs.walk.beside.Given as goal

abbrev pub invariant-loop-at : goal.invariant-loop-at
invariant-loop-at l =
    Walking l.lo.x.now l.hi.x.now l.lo.z.now l.s l.at l.apart l.first
    × (bit_xor l.both (bit_xor (folded (drop l.at l.lo.z.now) (drop l.at l.s)) (folded (drop l.at l.hi.z.now) (drop l.at l.s))) ≡ bit_xor (folded l.lo.z.now l.s) (folded l.hi.z.now l.s))
