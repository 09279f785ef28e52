-- Lengths. A tree that is built leaves every slice as long as it was lent, since what is written takes no more words than the call tested for. And a row set and vacuum that are
-- long enough for the vacuum check are so for try_encode, decode_zbasis_state and check_rows, if what else is lent is.
use Prim.Native.Nat.{ℕ, ◌*◌, ◌≤◌}
use native.Mathlib.Omega.{arith}
use mathlib.Core.Path.{◌≡◌, ap, ◌∙◌}
use mathlib.Core.List.{List, [], ◌∷◌}
use mathlib.Core.Bool.{false}
use lib.ListN.{length, drop, length-append}
use Rattle.refusal.specs.Numbers.{Answer, bare}
use Rattle.refusal.specs.Table.{Lent, ◌of◌, short}
use Rattle.refusal.proofs.Rooms.{Hold, hold, long_enough}
use Rattle.algebra.specs.Modes.{Modes}
use Rattle.dense_block.specs.Words.{words_for, words_of, filled}
use Rattle.dense_block.proofs.Values.{length_words_of}
use Rattle.dense_block.proofs.Blocks.{length_laid, length_listed}
use Rattle.dense_block.proofs.Clears.{length_zeroed}
use Rattle.majorana.specs.Sets.{Set, given, width, set_lent}
use Rattle.majorana.specs.Checks.{vacuum_short, check_room, rows_short}
use Rattle.majorana.specs.Codes.{encode_short, decode_short}
use Rattle.ternarytree.specs.Building.{Outputs, needed, Built}
use Rattle.tree_encodings.specs.Encodings.{SameLengths, LongEnough}

-- a string that was written has its needed length
pub filled_long : (w v : ℕ) (out after : List ℕ) → after ≡ filled w v out → w ≤ length after
filled_long w v out after e = omega (arith, ap length e, length-append (words_of w v) (drop w out), length_words_of w v)

-- ---- of a tree that is built

module _ (m : Modes) (q : ℕ) (o : Outputs) (r : Answer) (xs zs ps vs room : List ℕ) (b : Built (bare 0) (words_for q) m o r xs zs ps vs room) (long : short (needed m.n (words_for q) o) ≡ false) where
  lent : Hold (needed m.n (words_for q) o)
  lent = hold (needed m.n (words_for q) o) long

  pub built_lengths : SameLengths o xs zs ps vs room
  built_lengths = record {
    x_parts = ap length b.x_parts ∙ length_laid (words_for q) (λ k. (m.row k).x) (2 * m.n) o.xs lent.0;
    z_parts = ap length b.z_parts ∙ length_laid (words_for q) (λ k. (m.row k).z) (2 * m.n) o.zs lent.1.0;
    phases = ap length b.phases ∙ length_listed (λ k. (m.row k).p) (2 * m.n) o.ps lent.1.1.0;
    vacuum = ap length b.vacuum ∙ length_zeroed (words_for q) o.vs;
    work = ap length b.work ∙ length_zeroed (4 * m.n * words_for q) o.room;
  }

  pub built_long : vacuum_short (given m.n q xs zs ps) vs ≡ false
  unfolding vacuum_short
  built_long =
      rw (built_lengths.x_parts, built_lengths.z_parts, built_lengths.phases, built_lengths.vacuum)
      (long_enough (set_lent m.n (words_for q) (length o.xs) (length o.zs) (length o.ps) ((words_for q of length o.vs) ∷ [])) (lent.0, (lent.1.0, (lent.1.1.0, (lent.1.1.1.0, tt)))))

-- ---- of any row set and vacuum

module _ (s : Set) (vs : List ℕ) (long : vacuum_short s vs ≡ false) where
  -- and more slices
  with_more : (more : List Lent) → Hold more → short (set_lent s.n (width s) (length s.xs) (length s.zs) (length s.ps) ((width s of length vs) ∷ more)) ≡ false
  unfolding vacuum_short
  with_more more h =
      let l = hold (set_lent s.n (width s) (length s.xs) (length s.zs) (length s.ps) ((width s of length vs) ∷ [])) long in
      long_enough (set_lent s.n (width s) (length s.xs) (length s.zs) (length s.ps) ((width s of length vs) ∷ more)) (l.0, (l.1.0, (l.1.1.0, (l.1.1.1.0, h))))

  pub calls_long : LongEnough s vs
  unfolding encode_short decode_short
  calls_long = record {
    encode = λ ls out a b. with_more ((words_for s.n of length ls) ∷ (width s of length out) ∷ []) (a, (b, tt));
    decode = λ ts out a b. with_more ((width s of length ts) ∷ (words_for s.n of length out) ∷ []) (a, (b, tt));
  }

  pub check_long : (room : List ℕ) → check_room s ≤ length room → rows_short s vs room ≡ false
  unfolding rows_short
  check_long room a = with_more ((check_room s of length room) ∷ []) (a, tt)
