-- The number of each refusal, and the pair that 10 carries: the table of the numbers handed back.
use Rattle.std.specs.Prelude.{ℕ, Result, Ok, Err}
use Rattle.refusal.specs.declared.Refusal.{Refusal}
use Rattle.refusal.specs.declared.Refusal.TheVariants.{Size, Short, Qubits, Child, SelfChild, SecondParent, SecondEntry, Roots, Leaf, Commuting, Dependent, NoVacuum, Vacuum, Undecodable, Unencodable, Malformed, Value, OddModes}

-- an answer in numbers: 0 is done; the pair is that of 10, and 0 and 0 in every other answer
pub record Paper : Type 0 where
  pub number : ℕ
  pub first : ℕ
  pub second : ℕ

-- a number that carries no pair
abbrev pub bare : ℕ → Paper
bare k = record { number = k; first = 0; second = 0 }

abbrev pub paper : Refusal → Paper
paper Size = bare 1
paper Short = bare 2
paper Qubits = bare 3
paper Child = bare 4
paper SelfChild = bare 5
paper SecondParent = bare 6
paper SecondEntry = bare 7
paper Roots = bare 8
paper Leaf = bare 9
paper (Commuting i j) = record { number = 10; first = i; second = j }
paper Dependent = bare 11
paper NoVacuum = bare 12
paper Vacuum = bare 13
paper Undecodable = bare 14
paper Unencodable = bare 15
paper Malformed = bare 16
paper Value = bare 17
paper OddModes = bare 18

-- the answer of a call that hands back nothing more: done, or why it refused
abbrev pub Answer : Type 0
Answer = Result (Unit {0}) Refusal

-- what a call answered, in numbers
abbrev pub answered : {A : Type 0} → Result A Refusal → Paper
answered (Ok a) = bare 0
answered (Err r) = paper r
