-- `coding::read_off` meets its contract: what is left to decode, after the digits read so far, is the whole decoding.
use Prim.Native.Nat.{ℕ, ◌*◌, ◌^◌}
use mathlib.Core.Path.{◌≡◌}
use Rattle.algebra.specs.Coding.{decode_from, decode}
use Rattle.dense_block.specs.Words.{value}
use Rattle.dense_block.proofs.Values.{Words}
use Rattle.majorana.specs.HeldRows.{modes_of}
use Rattle.majorana.proofs.coding.read_off.Given as goal

abbrev pub invariant-loop-i : goal.invariant-loop-i
invariant-loop-i l =
    Words l.s
    × Words l.l
    × ((a : ℕ)
    × (value l.l ≡ a * 2 ^ l.i)
    × (decode_from (modes_of l.rows) (value l.vacuum) l.i a (value l.s) ≡ decode (modes_of l.rows) (value l.vacuum) (value l.initial.s)))
