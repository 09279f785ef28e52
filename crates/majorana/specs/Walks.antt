-- For the private functions, and needs no belief: what a walk along the rows of a mode gathers beside a state, and what is told from it.
use Rattle.std.specs.Prelude.{ℕ, ◌%◌, ◌≤◌, ◌≡◌, List, Bool, not, ◌&&◌, eqb, ltb, length}
use Rattle.std.specs.Bool.{beq}
use Rattle.std.specs.Int.Bits.{bit_xor}
use Rattle.std.specs.Int.Count.{ones}
use Rattle.algebra.specs.Rows.{dot}
use Rattle.algebra.specs.Modes.{Modes, lo, hi, e}
use Rattle.dense_block.specs.Words.{folded, alike}
use Rattle.majorana.specs.declared.walk.Walk.{Walk}

-- rows as long as the state, which has at most four words
pub record Level (x0 x1 z0 z1 s : List ℕ) : Type 0 where
  pub few : length s ≤ 4
  pub x_lo : length x0 ≡ length s
  pub x_hi : length x1 ≡ length s
  pub z_lo : length z0 ≡ length s
  pub z_hi : length z1 ≡ length s

-- of the words: whether X parts are alike, and the folds
pub record Walked (x0 x1 z0 z1 s : List ℕ) (r : Walk) : Type 0 where
  pub apart : eqb r.apart 0 ≡ alike x0 x1
  pub first : r.first ≡ folded z0 s
  pub both : r.both ≡ bit_xor (folded z0 s) (folded z1 s)

-- of mode i and the bits s
pub record Looked (m : Modes) (i s : ℕ) (r : Walk) : Type 0 where
  pub apart : eqb r.apart 0 ≡ eqb (lo m i).x (hi m i).x
  pub first : ones r.first % 2 ≡ dot (lo m i).z s
  pub both : ones r.both % 2 ≡ dot (e m i) s

-- ---- with the phase difference d

abbrev pub paired_by : Walk → ℕ → Bool
paired_by r d = eqb r.apart 0 && eqb (d % 2) 0

abbrev pub seen_by : Walk → ℕ → Bool
seen_by r d = not (beq (eqb (ones r.both % 2) 1) (ltb 1 d))

abbrev pub empty_by : Walk → ℕ → Bool
empty_by r d = paired_by r d && not (seen_by r d)
