-- `coding::occupy_all` meets its contract: the state starts at the vacuum, and what is left to encode, from the state and phase so far, is the whole encoding.
use Prim.Native.Nat.{◌+◌, ◌*◌, ◌%◌}
use mathlib.Core.Path.{◌≡◌}
use lib.Count.{ones}
use Rattle.algebra.specs.Coding.{done, encode_from, encode}
use Rattle.dense_block.specs.Words.{value}
use Rattle.dense_block.proofs.Values.{Words}
use Rattle.majorana.specs.HeldRows.{modes_of}
use Rattle.majorana.proofs.coding.occupy_all.Given as goal

abbrev pub invariant-loop-k : goal.invariant-loop-k
invariant-loop-k l =
    Words l.s
    × (encode_from (modes_of l.rows) (value l.list) l.k (done (value l.s) ((l.f.power + 2 * ones l.fold) % 4))
    ≡ encode (modes_of l.rows) (value l.vacuum) (value l.list))
