-- `Tables::of` meets its contract: no place holds anything.
use Rattle.std.proofs.Common.{refl}
use Rattle.std.specs.Prelude.{None}
use lib.ListN.{get_or-replicate}
use Rattle.ternarytree.proofs.tables.Tables.of.Goals as goal

pub returns : goal.returns
returns c = record {
  nodes = refl;
  parents = λ j h. get_or-replicate 256 j None None h;
  slots = λ j h. get_or-replicate 512 j None None h;
}
