-- What `maxnto` answers and leaves: the rows, or the first refusal. The order is 1, 18, 2.
use Rattle.std.specs.Prelude.{ℕ, ◌*◌, ◌%◌, ◌≡◌, List, [], ◌∷◌, Bool, ◌||◌, eqb, ltb, length}
use Rattle.refusal.specs.Numbers.{Paper, Answer, answered}
use Rattle.refusal.specs.Table.{◌gives◌, first_of, ◌of◌, short, on_done}
use Rattle.dense_block.specs.Words.{words_for}
use Rattle.dense_block.specs.Blocks.{laid, listed}
use Rattle.maxnto.specs.Formula.{x_part, z_part, phase_of}

-- what is lent: modes, and room for the X parts, the Z parts and the phases of the rows
pub record Input : Type 0 where
  pub n : ℕ
  pub xs : List ℕ
  pub zs : List ℕ
  pub ps : List ℕ

abbrev pub given : ℕ → List ℕ → List ℕ → List ℕ → Input
given n xs zs ps = record { n = n; xs = xs; zs = zs; ps = ps }

-- modes 0 or above 256
unfoldable pub bad_modes : ℕ → Bool
bad_modes n = eqb n 0 || ltb 256 n

-- n odd
unfoldable pub odd_modes : ℕ → Bool
odd_modes n = eqb (n % 2) 1

-- 2n rows of ceil(n / 64) words each, and 2n phases
unfoldable pub too_short : Input → Bool
too_short i = short ((2 * i.n * words_for i.n of length i.xs) ∷ (2 * i.n * words_for i.n of length i.zs) ∷ (2 * i.n of length i.ps) ∷ [])

unfoldable pub answer : Input → Paper
answer i = first_of ((bad_modes i.n gives 1) ∷ (odd_modes i.n gives 18) ∷ (too_short i gives 2) ∷ [])

unfoldable pub xs_left : Input → List ℕ
xs_left i = on_done (answer i) (laid (words_for i.n) (x_part i.n) (2 * i.n) i.xs) i.xs

unfoldable pub zs_left : Input → List ℕ
zs_left i = on_done (answer i) (laid (words_for i.n) (z_part i.n) (2 * i.n) i.zs) i.zs

unfoldable pub ps_left : Input → List ℕ
ps_left i = on_done (answer i) (listed (phase_of i.n) (2 * i.n) i.ps) i.ps

-- what `maxnto` promises of its answer r, and of the three slices at exit
pub record Built (i : Input) (r : Answer) (xs zs ps : List ℕ) : Type 0 where
  pub told : answered r ≡ answer i
  pub x_parts : xs ≡ xs_left i
  pub z_parts : zs ≡ zs_left i
  pub phases : ps ≡ ps_left i
