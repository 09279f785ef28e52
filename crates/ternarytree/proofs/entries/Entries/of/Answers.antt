-- `Entries::of` meets its contract: slots that can be read have entries that can.
use Rattle.ternarytree.proofs.Answers.{readable}
use Rattle.ternarytree.proofs.entries.Entries.of.Goals as goal

pub invariant_of-result : goal.invariant_of-result
invariant_of-result c =
    let (some, few, long, full, low) = readable c.args.flat.modes c.args.flat.entries.now c.args.flat.filled.now c.requires in
    record { some = (some, few); long = (long, full); low = low }
