-- The flags of the bytes are handed on.
use Rattle.exports.proofs.ropethistle_from_flatpack.Goals as goal

pub returns : goal.returns
returns c = record {
  behind = c.from_flatpack.result;
  stands = c.into.ensures;
  holds = rw c.read.ensures at c.from_flatpack.ensures;
}
