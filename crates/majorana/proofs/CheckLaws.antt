-- The search for two rows that commute, as nested loops make it: what was passed does not commute. Rows written to a room, and loaded.
use Prim.Native.Nat.{ℕ, ◌+◌, ◌*◌, ◌^◌, ◌≤◌, ◌<◌}
use native.Mathlib.Decide.{dec_lt}
use native.Mathlib.Omega.{arith}
use mathlib.Core.Path.{◌≡◌, ◌∙◌}
use mathlib.Core.List.{List}
use mathlib.Core.Bool.{Bool, false}
use lib.ListN.{length, drop}
use Rattle.dense_block.specs.Words.{value, term_of, with_term}
use Rattle.dense_block.proofs.Values.{Words, value_below}
use Rattle.dense_block.proofs.Terms.{row_within, words_term, length_term, length_with, term_same, term_before, behind_with}
use Rattle.elimination.specs.Rooms.{row_at as eliminated}
use Rattle.elimination.proofs.Vacuums.{row_parts}
use Rattle.majorana.specs.Rooms.{Loaded}

-- ---- what was passed

-- no partner of j below k passes
abbrev pub Passed-row : (ℕ → ℕ → Bool) → ℕ → ℕ → Type 0
Passed-row test j k = (d : ℕ) → j < d → d < k → test j d ≡ false

-- no row below j has a partner below n that passes
abbrev pub Passed : (ℕ → ℕ → Bool) → ℕ → ℕ → Type 0
Passed test n j = (c d : ℕ) → c < j → c < d → d < n → test c d ≡ false

-- ---- rows written to a room one after the other

-- the rows below r are those of f, and what is behind all n rows is as it was
pub record Filled (r n width : ℕ) (f : ℕ → List ℕ) (before after : List ℕ) : Type 0 where
  pub at : (k : ℕ) → k < r → term_of width after k ≡ f k
  pub long : length after ≡ length before
  pub behind : drop (n * width) after ≡ drop (n * width) before

pub fill_next : (r n width : ℕ) (f : ℕ → List ℕ) (before ws : List ℕ) → r < n → n * width ≤ length before → length (f r) ≡ width
    → Filled r n width f before ws → Filled (r + 1) n width f before (with_term width ws r (f r))
fill_next r n width f before ws low room len filled = record {
  at = λ k h. go k (dec_lt k r) h;
  long = length_with width ws r (f r) len inside ∙ filled.long;
  behind = behind_with width ws r (f r) len inside (n * width) (row_within r n width (n * width) low (omega arith)) ∙ filled.behind;
}
  where
    inside : r * width + width ≤ length ws
    inside = omega (arith, row_within r n width (length before) low room, filled.long)

    go : (k : ℕ) → Dec (k < r) → k < r + 1 → term_of width (with_term width ws r (f r)) k ≡ f k
    go k (yes l) h = term_before width ws r (f r) len inside k l ∙ filled.at k l
    go k (no l) h = let e : k ≡ r = omega (arith, l) in rw e (term_same width ws r (f r) len inside)

-- ---- rows loaded, as the elimination reads them

pub loaded_rows : (rows w : ℕ) (xs zs before ws : List ℕ) (r : ℕ) → r * w + w ≤ length xs → Words xs → r < rows → Loaded rows w xs zs before ws
    → (value (term_of w xs r) < 2 ^ (64 * w)) × (eliminated (w + w) ws r ≡ value (term_of w xs r) + 2 ^ (64 * w) * value (term_of w zs r))
loaded_rows rows w xs zs before ws r inside px low loaded =
    let len = length_term w xs r inside in
    (rw len at (value_below (term_of w xs r) (words_term w xs r px)), row_parts (w + w) ws r w (term_of w xs r) (term_of w zs r) (loaded.at r low) len)
