-- Flags of bytes: all of them, and that no slot of a flatpack is lost. Of n entries, at most 256, the flags are too few exactly if the bytes are (`flags_short`), and flag k is
-- byte k's for each of the 3n slots (`flag_at`).
use Prim.Native.Nat.{ℕ, ◌*◌, ◌≤◌, ◌<◌, min}
use native.Mathlib.Omega.{arith}
use mathlib.Core.Path.{◌≡◌, ap, ◌∙◌}
use mathlib.Core.List.{List, map}
use mathlib.Core.Bool.{Bool, false}
use native.Mathlib.Decide.{dec_le}
use borrow.Author.Tests.{le-ltb}
use lib.Dec.{ltb}
use lib.ListN.{length, take, get_or, length-take, length-map, get_or-map}
use lib.Seq.{get_or-take}
use Rattle.std.proofs.lemmas.List.{take_min}
use Rattle.exports.specs.Flags.{flag, flags}

-- ---- reading them

pub all_flags : (n : ℕ) (bytes : List ℕ) (out : List Bool) (m : ℕ) → m ≡ min (3 * min n 256) (length bytes) → take m out ≡ map flag (take m bytes) → take m out ≡ flags n bytes
unfolding flags
all_flags n bytes out m e h = h ∙ rw (e, take_min (3 * min n 256) bytes)

-- ---- nothing is lost

module _ (n : ℕ) (bytes : List ℕ) (h : n ≤ 256) where
  pub flags_short : ltb (length (flags n bytes)) (3 * n) ≡ ltb (length bytes) (3 * n)
  unfolding flags
  flags_short = rw (length-map, length-take) (go (dec_le (3 * n) (length bytes)))
    where
      go : Dec (3 * n ≤ length bytes) → ltb (min (3 * min n 256) (length bytes)) (3 * n) ≡ ltb (length bytes) (3 * n)
      go (yes k) = rw (le-ltb (min (3 * min n 256) (length bytes)) (3 * n) (omega arith), le-ltb (length bytes) (3 * n) k)
      go (no k) = let e : min (3 * min n 256) (length bytes) ≡ length bytes = omega (arith, k) in rw e

  pub flag_at : (k : ℕ) → k < 3 * n → get_or (flags n bytes) k false ≡ flag (get_or bytes k 0)
  unfolding flags
  flag_at k l = get_or-map flag (take (3 * min n 256) bytes) k 0 ∙ ap flag (get_or-take (3 * min n 256) bytes k 0 (omega arith))
