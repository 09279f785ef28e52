-- What the two public functions answer: refused for their sizes, or done.
use Prim.Native.Nat.{ℕ, zero, suc, ◌+◌, ◌*◌, ◌/◌, ◌%◌, ◌^◌, ◌≤◌, ◌<◌}
use native.Mathlib.Nat.{mod-lt, mod-one, zero-mod}
use native.Mathlib.Omega.{arith}
use mathlib.Core.Path.{◌≡◌, refl, sym, ap, ◌∙◌}
use mathlib.Core.Bool.{Bool, true, false, cond, ◌&&◌}
use mathlib.Core.List.{List, [], ◌∷◌, ◌++◌}
use lib.Dec.{leb}
use lib.ListN.{length, take, drop}
use lib.Seq.{length-take-le}
use lib.Pow.{pow_pos, mod-pow-add}
use borrow.Author.Tests.{leb-true, le-leb, lt-leb}
use Rattle.refusal.proofs.Bools.{and_left, and_right, both}
use Rattle.algebra.specs.Rows.{bit}
use Rattle.algebra.proofs.Digits.{bit_zero}
use Rattle.dense_block.specs.Words.{value, term_of, filled, copied, zeroed}
use Rattle.dense_block.proofs.Values.{Words, words_take, filled_by}
use Rattle.dense_block.proofs.Columns.{bit_value}
use Rattle.dense_block.proofs.Terms.{words_term}
use Rattle.elimination.specs.Eliminated.{Eliminated, Substituted}
use Rattle.elimination.specs.Rooms.{row_at, fits, dependent_rows, RowsAnswered}
use Rattle.elimination.specs.Steps.{zero_among, Same}
use Rattle.elimination.specs.Solving.{left_at, right_at, solving_room, solved_rows, RowsSolved}
use Rattle.elimination.proofs.Dependence.{zero_dependent}
use Rattle.elimination.proofs.RoomLaws.{row_below, zeroed_same}
use Rattle.elimination.proofs.Solutions.{solution_same}
use Rattle.elimination.proofs.Substitution.{lefts, rights, answered, substituted}

-- what a room that fits tells
pub record Fitting (most widest rows width size : ℕ) : Type 0 where
  pub few : rows ≤ most
  pub narrow : width ≤ widest
  pub inside : rows * width ≤ size

pub fitting : (most widest rows width size : ℕ) → fits most widest rows width size ≡ true → Fitting most widest rows width size
unfolding fits
fitting most widest rows width size h =
    let rest = and_right (leb rows most) (leb width widest && leb (rows * width) size) h in
    record {
      few = leb-true rows most (and_left (leb rows most) (leb width widest && leb (rows * width) size) h);
      narrow = leb-true width widest (and_left (leb width widest) (leb (rows * width) size) rest);
      inside = leb-true (rows * width) size (and_right (leb width widest) (leb (rows * width) size) rest);
    }

pub fits_of : (most widest rows width size : ℕ) → Fitting most widest rows width size → fits most widest rows width size ≡ true
unfolding fits
fits_of most widest rows width size f = both (le-leb rows most f.few) (both (le-leb width widest f.narrow) (le-leb (rows * width) size f.inside))

module _ (rows width : ℕ) (ws : List ℕ) where
  pub dependent_refused : fits 512 8 rows width (length ws) ≡ false → RowsAnswered rows width ws false ws
  unfolding dependent_rows
  dependent_refused h = record { answer = rw h; room = rw h }

  -- the rows eliminated are vs, and us is the room with them cleared
  pub dependent_done : (vs us : List ℕ) (r : Bool) → fits 512 8 rows width (length ws) ≡ true → Words vs
      → Eliminated (64 * width) rows (row_at width ws) (row_at width vs) rows → Same (rows * width) ws vs
      → r ≡ zero_among rows (row_at width vs) → us ≡ zeroed (rows * width) vs → RowsAnswered rows width ws r us
  unfolding dependent_rows
  dependent_done vs us r h words done same found cleared = record {
    answer = rw h (found ∙ zero_dependent (64 * width) rows (row_at width ws) (row_at width vs) done (λ i _. row_below width vs i words));
    room = rw h (cleared ∙ zeroed_same (rows * width) ws vs same);
  }

-- ---- equations

value_take : (w : ℕ) (ws : List ℕ) → Words ws → value (take w ws) ≡ value ws % 2 ^ (64 * w)
value_take zero ws h = sym (mod-one (value ws))
value_take (suc w) [] h = sym (zero-mod (2 ^ (64 * suc w)))
value_take (suc w) (x ∷ ws) h =
    let e : 64 * suc w ≡ 64 * w + 64 = omega arith in
    let high : (x + 2 ^ 64 * value ws) / 2 ^ 64 ≡ value ws = omega (arith, h 0) in
    let low : (x + 2 ^ 64 * value ws) % 2 ^ 64 ≡ x = omega (arith, h 0) in
    rw (e, mod-pow-add (x + 2 ^ 64 * value ws) (64 * w) 64, high, low, value_take w ws (λ i. h (suc i))) (omega arith)

module _ (width : ℕ) (ws : List ℕ) (words : Words ws) (i : ℕ) where
  left_is : left_at width ws i ≡ row_at (width + 1) ws i % 2 ^ (64 * width)
  unfolding left_at row_at
  left_is = value_take width (term_of (width + 1) ws i) (words_term (width + 1) ws i words)

  right_is : right_at width ws i ≡ bit (row_at (width + 1) ws i) (64 * width)
  unfolding right_at row_at
  right_is =
      let e : 64 * width / 64 ≡ width = omega arith in
      let z : 64 * width % 64 ≡ 0 = omega arith in
      sym (bit_value (term_of (width + 1) ws i) (64 * width) (words_term (width + 1) ws i words) ∙ rw (e, z) (bit_zero _))

copied_part : (ds ss : List ℕ) → length ds ≤ length ss → copied ds ss ≡ take (length ds) ss
copied_part [] ss h = refl
copied_part (d ∷ ds) [] h = absurd (omega arith)
copied_part (d ∷ ds) (s ∷ ss) h = ap (λ (l : List ℕ). s ∷ l) (copied_part ds ss (omega arith))

module _ (rows width : ℕ) (ws vs : List ℕ) where
  pub solve_refused : solving_room rows width ws vs ≡ false → RowsSolved rows width ws vs false vs ws
  unfolding solved_rows
  solve_refused h = record { answer = rw h; string = rw h; room = rw h }

  -- too many words
  pub solve_wide : 4 < width → RowsSolved rows width ws vs false vs ws
  unfolding fits
  solve_wide h = solve_refused (rw (lt-leb (width + 1) 5 (omega arith)) (and_first (leb rows 256)))
    where
      and_first : (b : Bool) → ((b && false) && leb width (length vs)) ≡ false
      and_first true = refl
      and_first false = refl

  -- the room, or the string, too short
  pub solve_room_lem : fits 256 5 rows (width + 1) (length ws) ≡ false → RowsSolved rows width ws vs false vs ws
  solve_room_lem h = solve_refused (rw h)

  pub solve_string : fits 256 5 rows (width + 1) (length ws) ≡ true → length vs < width → RowsSolved rows width ws vs false vs ws
  solve_string h l = solve_refused (rw (h, lt-leb width (length vs) l))

  -- the rows eliminated are xs, and us is what substituting back made of the string
  module _ (xs us : List ℕ) (h : fits 256 5 rows (width + 1) (length ws) ≡ true) (long : width ≤ length vs) (words : Words ws)
      (done : Eliminated (64 * width) rows (row_at (width + 1) ws) (row_at (width + 1) xs) rows) (same : Same (rows * (width + 1)) ws xs) where
    room_passes : solving_room rows width ws vs ≡ true
    room_passes = both h (le-leb width (length vs) long)

    answer_is : (ok : Bool) → Substituted (64 * width) rows (row_at (width + 1) xs) ok (value us) → solved_rows rows width ws vs ≡ answered ok (value us % 2 ^ (64 * width))
    unfolding solved_rows
    answer_is ok s =
        let n = 64 * width in
        let f = row_at (width + 1) ws in
        rw room_passes
        (solution_same rows (lefts n f) (left_at width ws) (rights n f) (right_at width ws) n n (omega arith) (λ i _. left_is width ws words i) (λ i _. right_is width ws words i)
        (λ i _. mod-lt (f i) (pow_pos n))
        ∙ substituted n rows f (row_at (width + 1) xs) done ok (value us) s)

    cleared_is : (ts : List ℕ) → ts ≡ zeroed (rows * (width + 1)) xs → ts ≡ cond (solving_room rows width ws vs) (zeroed (rows * (width + 1)) ws) ws
    cleared_is ts c = rw room_passes (c ∙ zeroed_same (rows * (width + 1)) ws xs same)

    pub solve_none : (ok : Bool) (ts : List ℕ) → ok ≡ false → Substituted (64 * width) rows (row_at (width + 1) xs) ok (value us) → ts ≡ zeroed (rows * (width + 1)) xs
        → RowsSolved rows width ws vs ok vs ts
    solve_none ok ts off s c = let e = answer_is false (rw off at s) in rw off (record { answer = rw e; string = rw e; room = cleared_is ts c })

    pub solve_found : (ok : Bool) (ts os : List ℕ) → ok ≡ true → Substituted (64 * width) rows (row_at (width + 1) xs) ok (value us) → ts ≡ zeroed (rows * (width + 1)) xs
        → Words us → width ≤ length us → os ≡ copied (take width vs) us → RowsSolved rows width ws vs ok (os ++ drop width vs) ts
    solve_found ok ts os on s c w l o = let e = answer_is true (rw on at s) in rw on (record { answer = rw e; string = rw e filled_in; room = cleared_is ts c })
      where
        first : os ≡ take width us
        first =
            let n = length-take-le width vs long in
            o ∙ copied_part (take width vs) us (omega (arith, n)) ∙ ap (λ (k : ℕ). take k us) n

        filled_in : os ++ drop width vs ≡ filled width (value us % 2 ^ (64 * width)) vs
        filled_in =
            ap (λ (l : List ℕ). l ++ drop width vs) first ∙ filled_by (take width us) vs width (length-take-le width us l) (words_take width us w)
            ∙ ap (λ (x : ℕ). filled width x vs) (value_take width us w)
