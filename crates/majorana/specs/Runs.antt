-- For the private functions, and needs no belief: what a run of encoding or decoding hands back and leaves, once no test of the input refuses.
use Rattle.std.specs.Prelude.{ℕ, List, Bool, true, false, Option, Some, None}
use Rattle.refusal.specs.Numbers.{Paper, bare}
use Rattle.algebra.specs.Coding as algebra
use Rattle.dense_block.specs.Words.{value, filled}
use Rattle.pauli.specs.declared.Phase.{Phase}
use Rattle.majorana.specs.Codes.{Told}

-- a phase, with the words of the state so far
abbrev pub kept : Option Phase → List ℕ → algebra.Encoded
kept (Some f) ws = algebra.done (value ws) f.power
kept None ws = algebra.refused

-- the list read, if the vacuum is left
abbrev pub read_off : Bool → ℕ → algebra.Decoded
read_off true l = algebra.found l
read_off false l = algebra.foreign

-- once no test refuses: what an encoding hands back and leaves in the string
abbrev pub ran : algebra.Encoded → Told
ran (algebra.done t f) = record { told = bare 0; phase = f }
ran algebra.refused = record { told = bare 15; phase = 0 }

abbrev pub ran_out : algebra.Encoded → ℕ → List ℕ → List ℕ
ran_out (algebra.done t f) w out = filled w t out
ran_out algebra.refused w out = out

-- and a decoding, in the list
abbrev pub ran_number : algebra.Decoded → Paper
ran_number (algebra.found l) = bare 0
ran_number algebra.foreign = bare 14

abbrev pub ran_list : algebra.Decoded → ℕ → List ℕ → List ℕ
ran_list (algebra.found l) w out = filled w l out
ran_list algebra.foreign w out = out
