-- The answer of `maxnto`: which test refuses, and one outcome for each input.
use Prim.Native.Nat.{ℕ, ◌*◌, ◌^◌, ◌<◌}
use native.Mathlib.Nat.{lt_of_lt_of_le}
use mathlib.Core.Path.{◌≡◌}
use mathlib.Core.List.{List}
use mathlib.Core.Bool.{true, false}
use Rattle.refusal.specs.declared.Refusal.TheVariants.{Size, OddModes, Short}
use Rattle.std.specs.Prelude.{Ok, Err}
use Rattle.refusal.specs.Numbers.{Answer, bare}
use Rattle.refusal.proofs.Outcome.{one_outcome, answered_injective}
use lib.ListN.{get_or, drop}
use lib.Pow.{pow_mono}
use Rattle.dense_block.specs.Words.{value, words_for, term_of}
use Rattle.dense_block.specs.Blocks.{laid, listed}
use Rattle.dense_block.proofs.Values.{words_hold}
use Rattle.dense_block.proofs.Blocks.{row_laid, number_listed}
use Rattle.maxnto.specs.Formula.{x_part, z_part, phase_of, maxnto_row}
use Rattle.maxnto.specs.Call.{Input, bad_modes, odd_modes, too_short, answer, xs_left, zs_left, ps_left, Built}
use Rattle.maxnto.proofs.Phases.{x_part_lt, z_part_lt}

module _ (i : Input) where
  pub by_size : bad_modes i.n ≡ true → Built i (Err Size) i.xs i.zs i.ps
  unfolding answer xs_left zs_left ps_left
  by_size h = record { told = rw h; x_parts = rw h; z_parts = rw h; phases = rw h }

  pub by_odd : bad_modes i.n ≡ false → odd_modes i.n ≡ true → Built i (Err OddModes) i.xs i.zs i.ps
  unfolding answer xs_left zs_left ps_left
  by_odd h k = record { told = rw (h, k); x_parts = rw (h, k); z_parts = rw (h, k); phases = rw (h, k) }

  pub by_short : bad_modes i.n ≡ false → odd_modes i.n ≡ false → too_short i ≡ true → Built i (Err Short) i.xs i.zs i.ps
  unfolding answer xs_left zs_left ps_left
  by_short h k l = record { told = rw (h, k, l); x_parts = rw (h, k, l); z_parts = rw (h, k, l); phases = rw (h, k, l) }

  pub by_none : bad_modes i.n ≡ false → odd_modes i.n ≡ false → too_short i ≡ false → (xs zs ps : List ℕ)
      → xs ≡ laid (words_for i.n) (x_part i.n) (2 * i.n) i.xs
      → zs ≡ laid (words_for i.n) (z_part i.n) (2 * i.n) i.zs
      → ps ≡ listed (phase_of i.n) (2 * i.n) i.ps
      → Built i (Ok tt) xs zs ps
  unfolding answer xs_left zs_left ps_left
  by_none h k l xs zs ps x z p = record { told = rw (h, k, l); x_parts = rw (h, k, l) x; z_parts = rw (h, k, l) z; phases = rw (h, k, l) p }

pub maxnto_outcome : (i : Input) (r s : Answer) (xs xs' zs zs' ps ps' : List ℕ) → Built i r xs zs ps → Built i s xs' zs' ps'
    → (r ≡ s) × ((xs ≡ xs') × ((zs ≡ zs') × (ps ≡ ps')))
maxnto_outcome i r s xs xs' zs zs' ps ps' m n =
    (answered_injective (one_outcome m.told n.told), (one_outcome m.x_parts n.x_parts, (one_outcome m.z_parts n.z_parts, one_outcome m.phases n.phases)))

-- ---- done: row k of the storage is row k of the formula

columns_fit : (n v : ℕ) → v < 2 ^ n → v < 2 ^ (64 * words_for n)
columns_fit n v h = lt_of_lt_of_le h (pow_mono (words_hold n))

pub stored : (i : Input) (k : ℕ) → answer i ≡ bare 0 → k < 2 * i.n
    → (value (term_of (words_for i.n) (xs_left i) k) ≡ (maxnto_row i.n k).x)
    × (value (term_of (words_for i.n) (zs_left i) k) ≡ (maxnto_row i.n k).z)
    × (get_or (ps_left i) k 0 ≡ (maxnto_row i.n k).p)
unfolding xs_left zs_left ps_left
stored i k done h = (
  rw done (row_laid (words_for i.n) (x_part i.n) (2 * i.n) k i.xs h (columns_fit i.n (x_part i.n k) (x_part_lt i.n k))),
  rw done (row_laid (words_for i.n) (z_part i.n) (2 * i.n) k i.zs h (columns_fit i.n (z_part i.n k) (z_part_lt i.n k))),
  rw done (number_listed (phase_of i.n) (2 * i.n) k (drop (2 * i.n) i.ps) h),
)
