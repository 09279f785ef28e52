-- Slices that are not too short hold what is needed of each, and the other way: by induction on the list of them.
use Prim.Native.Nat.{◌≤◌}
use mathlib.Core.Path.{◌≡◌, refl}
use mathlib.Core.List.{List, [], ◌∷◌}
use mathlib.Core.Bool.{false}
use borrow.Author.Tests.{ltb-false, le-ltb}
use lib.Dec.{ltb}
use Rattle.refusal.specs.Table.{Lent, ◌of◌, short}
use Rattle.refusal.proofs.Bools.{or_left, or_right}

-- a fact for each slice, in the order of the list
abbrev pub Hold : List Lent → Type 0
Hold [] = Unit
Hold ((need of have) ∷ rest) = (need ≤ have) × Hold rest

pub hold : (lent : List Lent) → short lent ≡ false → Hold lent
hold [] h = tt
hold ((need of have) ∷ rest) h = (ltb-false have need (or_left (ltb have need) (short rest) h), hold rest (or_right (ltb have need) (short rest) h))

pub long_enough : (lent : List Lent) → Hold lent → short lent ≡ false
long_enough [] h = refl
long_enough ((need of have) ∷ rest) h = rw (le-ltb have need h.0) (long_enough rest h.1)
