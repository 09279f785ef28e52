-- `pauli::meet` meets its contract: one parity for the sign of the phase, and one of both crossed products for whether the rows commute.
use mathlib.Core.Path.{ap, ◌∙◌}
use mathlib.Core.Bool.{not}
use Rattle.pauli.specs.Product.{lent}
use Rattle.pauli.proofs.Products.{met_phase, commute_by}
use Rattle.pauli.proofs.meet.Goals as goal

pub returns : goal.returns
returns c =
    let a = c.args in
    record {
      phase = met_phase a.left.phase.power a.right.phase.power a.left.z.now a.right.x.now c.add.ensures c.double_parity.ensures c.parity_and-sign.ensures;
      commute =
          ap not c.parity-clash.ensures
          ∙ commute_by (lent a.left) (lent a.right) _ c.fold_both.ensures.parity;
    }
