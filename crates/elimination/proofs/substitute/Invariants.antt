-- `elimination::substitute` meets its contract: the rows passed are met.
use Rattle.elimination.proofs.BackLaws.{Substituting}
use Rattle.elimination.proofs.substitute.Given as goal

abbrev pub invariant-loop-k : goal.invariant-loop-k
invariant-loop-k l = Substituting l.rows l.width l.k l.room l.initial.u l.u
