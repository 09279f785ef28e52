-- `slot_under` meets its contract: tree by tree.
use mathlib.Core.Path.{sym, ap, ◌∙◌}
use Rattle.trees.specs.declared.Named.{Named}
use Rattle.trees.specs.Named.{under}
use Rattle.trees.proofs.NamedTrees.{jkmn_slot}
use Rattle.ternarytree.proofs.planting.slot_under.Goals as goal

pub returns-in-JordanWigner : goal.returns-in-JordanWigner
unfolding under
returns-in-JordanWigner c = sym (ap (λ (t : Named). under t c.args.k) c.in-JordanWigner.is)

pub returns-in-Parity : goal.returns-in-Parity
unfolding under
returns-in-Parity c = sym (ap (λ (t : Named). under t c.args.k) c.in-Parity.is)

pub returns-in-BravyiKitaev : goal.returns-in-BravyiKitaev
returns-in-BravyiKitaev c = c.bravyi_kitaev.ensures ∙ sym (ap (λ (t : Named). under t c.args.k) c.in-BravyiKitaev.is)

pub returns-in-Jkmn : goal.returns-in-Jkmn
returns-in-Jkmn c =
    let k = c.args.k in
    sym (jkmn_slot k) ∙ sym (ap (λ (t : Named). under t k) c.in-Jkmn.is)
