-- Steps of `put_rows`: one row more, after the rows before it.
use Prim.Native.Nat.{ℕ, ◌+◌, ◌*◌, ◌<◌, ◌≤◌}
use native.Mathlib.Nat.{min-eq_left}
use native.Mathlib.Omega.{arith}
use mathlib.Core.Path.{◌≡◌, refl, sym, ap, ◌∙◌}
use mathlib.Core.List.{List, ◌++◌}
use lib.ListN.{length, take, drop, set, length-take, length-drop}
use Rattle.dense_block.specs.Words.{words_of}
use Rattle.dense_block.proofs.Blocks.{laid_none, laid_step, listed_step}
use Rattle.trees.specs.Trees.{Tree}
use Rattle.trees.specs.Paths.{row_at}
use Rattle.ternarytree.specs.Tables.{RowWritten, RowsWritten}

-- a row of w words that is lent
pub length_part : (a w k : ℕ) (xs : List ℕ) → a + w ≤ length xs → k ≡ w → length (take k (drop a xs)) ≡ w
length_part a w k xs h e = rw (length-take, length-drop, e) (min-eq_left (omega arith))

pub rows_start : (t : Tree) (slot : ℕ → ℕ) (w : ℕ) (xs zs ps : List ℕ) → RowsWritten t slot 0 w xs zs ps xs zs ps
rows_start t slot w xs zs ps = record {
  x_parts = sym (laid_none w (λ m. (row_at t (slot m)).x) xs);
  z_parts = sym (laid_none w (λ m. (row_at t (slot m)).z) zs);
  phases = refl;
}

pub rows_step : (t : Tree) (slot : ℕ → ℕ) (m w c k p : ℕ) (xs zs ps xs' zs' ps' nx nz : List ℕ)
    → RowsWritten t slot m w xs zs ps xs' zs' ps' → c ≡ slot m → k ≡ w → m * w + w ≤ length xs' → m * w + w ≤ length zs' → m < length ps
    → RowWritten t c p (take k (drop (m * w) xs')) (take k (drop (m * w) zs')) nx nz
    → RowsWritten t slot (m + 1) w xs zs ps (take (m * w) xs' ++ (nx ++ drop k (drop (m * w) xs'))) (take (m * w) zs' ++ (nz ++ drop k (drop (m * w) zs'))) (set ps' m p)
rows_step t slot m w c k p xs zs ps xs' zs' ps' nx nz r ec ek hx hz hp row = record {
  x_parts =
      laid_step w (λ m. (row_at t (slot m)).x) m k xs' xs nx r.x_parts
      (row.x_part ∙ ap (λ (n : ℕ). words_of n (row_at t c).x) (length_part (m * w) w k xs' hx ek) ∙ ap (λ (n : ℕ). words_of w (row_at t n).x) ec) ek;
  z_parts =
      laid_step w (λ m. (row_at t (slot m)).z) m k zs' zs nz r.z_parts
      (row.z_part ∙ ap (λ (n : ℕ). words_of n (row_at t c).z) (length_part (m * w) w k zs' hz ek) ∙ ap (λ (n : ℕ). words_of w (row_at t n).z) ec) ek;
  phases = listed_step (λ m. (row_at t (slot m)).p) m ps' ps hp r.phases (row.phase ∙ ap (λ (n : ℕ). (row_at t n).p) ec);
}
