-- `report::pieces::put_number` meets its contract.
use mathlib.Core.Path.{refl}
use mathlib.Core.List.{[], ◌∷◌}
use Rattle.report.specs.Report.{digits_of}
use Rattle.report.proofs.Stores.{join}
use Rattle.report.proofs.pieces.put_number.Goals as goal

pub returns : goal.returns
returns c =
    let p = c.put_digits-e.ensures in
    let a = c.args in
    join a.out.now a.at (digits_of a.n) (a.end ∷ []) p.place p.bytes refl refl
