-- `report::pieces::put_word` meets its contract: after i turns the first i bytes are stored.
use mathlib.Core.Path.{◌≡◌}
use lib.ListN.{length, take}
use lib.Seq.{sets}
use Rattle.report.proofs.pieces.put_word.Given as goal

abbrev pub invariant-loop-i : goal.invariant-loop-i
invariant-loop-i l = (length l.out ≡ length l.initial.out) × (l.out ≡ sets l.initial.out l.at (take l.i l.word))
