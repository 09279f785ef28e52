-- A text cut at a byte, with one byte more: by induction on the text.
use Prim.Native.Nat.{ℕ}
use mathlib.Core.Path.{◌≡◌, refl}
use mathlib.Core.List.{List, [], ◌∷◌, ◌++◌}
use mathlib.Core.Bool.{Bool, true, false, cond}
use lib.Dec.{eqb}
use borrow.Author.Tests.{eq-eqb}
use Rattle.flatpack_text.specs.Text.{Cut, put_first, cut}

-- one part more is ended
abbrev pub closed : Cut → Cut
closed c = record { ended = c.ended ++ (c.rest ∷ []); rest = [] }

-- the last part goes on
abbrev pub longer : Cut → ℕ → Cut
longer c b = record { ended = c.ended; rest = c.rest ++ (b ∷ []) }

-- the cut of a text with a before it
abbrev put : Bool → ℕ → Cut → Cut
put here a c = cond here (record { ended = [] ∷ c.ended; rest = c.rest }) (put_first a c.ended c.rest)

put_closed : (here : Bool) (a : ℕ) (parts : List (List ℕ)) (rest : List ℕ) → put here a (closed (record { ended = parts; rest = rest })) ≡ closed (put here a (record { ended = parts; rest = rest }))
put_closed true a parts rest = refl
put_closed false a [] rest = refl
put_closed false a (p ∷ parts) rest = refl

put_longer : (here : Bool) (a : ℕ) (parts : List (List ℕ)) (rest : List ℕ) (b : ℕ) → put here a (longer (record { ended = parts; rest = rest }) b) ≡ longer (put here a (record { ended = parts; rest = rest })) b
put_longer true a parts rest b = refl
put_longer false a [] rest b = refl
put_longer false a (p ∷ parts) rest b = refl

pub cut_closed : (at : ℕ) (t : List ℕ) → cut at (t ++ (at ∷ [])) ≡ closed (cut at t)
unfolding cut
cut_closed at [] = rw (eq-eqb at at refl)
cut_closed at (a ∷ t) = rw (cut_closed at t) (put_closed (eqb a at) a (cut at t).ended (cut at t).rest)

pub cut_longer : (at : ℕ) (t : List ℕ) (b : ℕ) → eqb b at ≡ false → cut at (t ++ (b ∷ [])) ≡ longer (cut at t) b
unfolding cut
cut_longer at [] b h = rw h
cut_longer at (a ∷ t) b h = rw (cut_longer at t b h) (put_longer (eqb a at) a (cut at t).ended (cut at t).rest b)
