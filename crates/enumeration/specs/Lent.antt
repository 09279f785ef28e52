-- For the private functions, and needs no belief: what they ask of input that passed its tests, and what the writing leaves.
use Rattle.std.specs.Prelude.{ℕ, ◌≤◌, ◌<◌, ◌≡◌, List, false, length, get_or}
use Rattle.majorana.specs.Sets.{Set, bad_size}
use Rattle.enumeration.specs.Enumerations.{Outs, enumeration_short, new_words, new_phases, same_vacuum}

-- a map that passed its test: n numbers below n
pub record Maps (n : ℕ) (ms : List ℕ) : Type 0 where
  pub few : n ≤ 256
  pub long : n ≤ length ms
  pub within : (i : ℕ) → i < n → get_or ms i 0 < n

-- 1 and 2 do not refuse
pub record Held (s : Set) (vs ms : List ℕ) (old : Outs) : Type 0 where
  pub size : bad_size s.n s.q ≡ false
  pub long : enumeration_short s vs ms old ≡ false

-- the four outputs written over what they held
pub record Wrote (s : Set) (vs ms ox oz op ov xs zs ps ws : List ℕ) : Type 0 where
  pub x_rows : xs ≡ new_words s ms s.xs ox
  pub z_rows : zs ≡ new_words s ms s.zs oz
  pub phases : ps ≡ new_phases s ms op
  pub vacuum : ws ≡ same_vacuum s vs ov
