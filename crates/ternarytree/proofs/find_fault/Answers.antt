-- `find_fault` meets its contract: what `wire` finds in slots that can be read.
use Rattle.std.proofs.Common.{◌≡◌, false, sym, ap, ◌∙◌}
use Rattle.tree_sizes.specs.Sizes.{unreadable}
use Rattle.ternarytree.specs.Building.{fault_slot, fault_place}
use Rattle.ternarytree.specs.Reading.{slot_told}
use Rattle.ternarytree.proofs.EntrySteps.{read_is}
use Rattle.ternarytree.proofs.find_fault.Goals as goal
use Rattle.ternarytree.proofs.find_fault.Goals.{After-wire}

pub returns-then-unreadable : goal.returns-then-unreadable
unfolding fault_place
returns-then-unreadable c = rw (sym c.unreadable.ensures ∙ c.if-unreadable.true)

-- what was read
found_is : (c : After-wire) → unreadable c.args.flat.modes c.args.flat.entries.now c.args.flat.filled.now ≡ false
    → slot_told c.wire.result ≡ fault_place c.args.leaves c.args.flat.modes c.args.flat.entries.now c.args.flat.filled.now
unfolding fault_place
found_is c passed =
    let y = c.of.ensures in
    rw passed (c.wire.ensures.slot ∙ ap fault_slot (read_is c.of.result y.leaves y.n y.numbers y.filled))

pub returns-in-Ok : goal.returns-in-Ok
returns-in-Ok c = ap slot_told (sym c.in-Ok.is) ∙ found_is (goal.at.returns-in-Ok c).After-wire (sym c.unreadable.ensures ∙ c.if-unreadable.false)

pub returns-in-Err : goal.returns-in-Err
returns-in-Err c = ap slot_told (sym c.in-Err.is) ∙ found_is (goal.at.returns-in-Err c).After-wire (sym c.unreadable.ensures ∙ c.if-unreadable.false)
