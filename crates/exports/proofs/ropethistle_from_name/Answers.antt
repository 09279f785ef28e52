-- A number above 3 is refused and nothing is touched; another builds its tree.
use Rattle.exports.proofs.Numbers.{number_refused, number_built}
use Rattle.exports.proofs.ropethistle_from_name.Goals as goal

pub returns-in_default : goal.returns-in_default
returns-in_default c = number_refused c.args.tree _ _ _ _ c.in_default.ensures c.into.ensures

pub returns : goal.returns
returns c = number_built c.args.tree _ _ _ _ c.from_name.result _ _ c.in-Some.ensures.0 c.in-Some.ensures.1 c.from_name.ensures c.into-2.ensures
