-- `past_all` meets its contract: top is past the qubits before i.
use Rattle.std.proofs.Common.{refl, arith}
use Rattle.trees.specs.Flatpacks.{past}
use Rattle.tree_sizes.specs.Sizes.{qubit_at}
use Rattle.ternarytree.proofs.EntrySteps.{past_more}
use Rattle.ternarytree.proofs.reading.past_all.Goals as goal

pub loop-i-init : goal.loop-i-init
unfolding past
loop-i-init c = refl

pub loop-i-preserved : goal.loop-i-preserved
loop-i-preserved c =
    omega (arith, c.max-top.ensures, c.qubit.ensures.0, past_more (qubit_at c.args.e.numbers.now) c.loop-i.i)
