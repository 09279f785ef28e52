-- For the private functions only: a power of i as the code has it.
use Rattle.std.specs.Prelude.{ℕ}
use Rattle.pauli.specs.declared.Phase.{Phase}

abbrev pub phase_of : ℕ → Phase
phase_of k = record { power = k }
