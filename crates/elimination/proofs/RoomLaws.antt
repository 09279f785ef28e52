-- Rows in a room: what adding one row to another makes of the rows, and then a sweep and an elimination, step by step.
use Prim.Native.Nat.{ℕ, zero, suc, ◌+◌, ◌*◌, ◌^◌, ◌≤◌, ◌<◌}
use native.Mathlib.Nat.{lt_of_lt_of_le}
use native.Mathlib.Numerals.{add-one}
use native.Mathlib.Decide.{dec_lt, ℕ_discrete}
use native.Mathlib.Omega.{arith}
use mathlib.Core.Path.{◌≡◌, refl, sym, ap, ap₂, ◌∙◌}
use mathlib.Core.Logic.{◌≢◌}
use mathlib.Core.List.{List, [], ◌∷◌}
use mathlib.Core.Bool.{true, false}
use lib.ListN.{length, get_or, drop, set, length-set, length-take, length-drop}
use lib.Seq.{get_or-set_same, get_or-set_other, ext_get_or}
use lib.Pow.{pow_mono}
use lib.Bits.{bit_xor, xor_zero_r}
use borrow.Author.Tests.{eqb-true, eqb-false}
use Rattle.refusal.proofs.Bools.{never}
use Rattle.algebra.specs.Rows.{bit}
use Rattle.algebra.specs.Choices.{pick}
use Rattle.algebra.proofs.Digits.{bit_lt}
use Rattle.dense_block.specs.Words.{value, column, xors, zeroed, strays, term_of}
use Rattle.dense_block.proofs.Values.{Words, value_below}
use Rattle.dense_block.proofs.Alongs.{length_along, value_xors}
use Rattle.dense_block.proofs.Strays.{below_of, no_strays}
use Rattle.dense_block.proofs.Terms.{row_within, words_term, length_term, term_at}
use Rattle.elimination.specs.Eliminated.{Lowest, Swept, Eliminated}
use Rattle.elimination.specs.Rooms.{row_at}
use Rattle.elimination.specs.Steps.{Added, Same}
use Rattle.elimination.proofs.Elimination.{start, step_dead, step_sweep}

-- ---- words added

pub added_start : (from to : ℕ) (ws : List ℕ) → Added from to 0 ws ws
added_start from to ws = record { at = λ i h. absurd (omega arith); other = λ j h. refl; long = refl }

-- one word more
pub added_step : (from to n : ℕ) (ws vs : List ℕ) → from + n < to → to + n < length ws → Added from to n ws vs
    → Added from to (n + 1) ws (set vs (to + n) (bit_xor (get_or vs (to + n) 0) (get_or vs (from + n) 0)))
added_step from to n ws vs before inside a = record {
  at = λ i h. go i h (ℕ_discrete i n);
  other = λ j h. get_or-set_other vs (to + n) j new 0 (h n (omega arith)) ∙ a.other j (λ i l. h i (omega arith));
  long = length-set vs (to + n) new ∙ a.long;
}
  where
    new : ℕ
    new = bit_xor (get_or vs (to + n) 0) (get_or vs (from + n) 0)

    go : (i : ℕ) → i < n + 1 → Dec (i ≡ n) → get_or (set vs (to + n) new) (to + i) 0 ≡ bit_xor (get_or ws (to + i) 0) (get_or ws (from + i) 0)
    go i h (yes e) =
        rw (e, get_or-set_same vs (to + n) new 0 (omega (arith, a.long)))
        (ap₂ bit_xor (a.other (to + n) (λ i l. omega arith)) (a.other (from + n) (λ i l. omega arith)))
    go i h (no e) = get_or-set_other vs (to + n) (to + i) new 0 (omega (arith, e)) ∙ a.at i (omega (arith, e))

-- ---- rows

-- row i lies before row r
pub row_before : (i r width : ℕ) → i < r → i * width + width ≤ r * width
row_before i r width h = row_within i r width (r * width) h (omega arith)

-- a column of a row, read
module _ (width : ℕ) (ws : List ℕ) (r : ℕ) (row : List ℕ) (e : row ≡ term_of width ws r) (p : ℕ) where
  pub row_on : column row p ≡ true → bit (row_at width ws r) p ≡ 1
  unfolding row_at column
  row_on h = eqb-true (bit (value (term_of width ws r)) p) 1 (rw e at h)

  pub row_off : column row p ≡ false → bit (row_at width ws r) p ≡ 0
  unfolding row_at column
  row_off h = omega (arith, eqb-false (bit (value (term_of width ws r)) p) 1 (rw e at h), bit_lt (value (term_of width ws r)) p)

-- a row is zero if it has no column at or above 0
module _ (width : ℕ) (ws : List ℕ) (r : ℕ) (row : List ℕ) (e : row ≡ term_of width ws r) where
  pub row_zero : strays row 0 ≡ false → row_at width ws r ≡ 0
  unfolding row_at
  row_zero h = omega (arith, below_of (term_of width ws r) 0 (rw e at h))

  pub row_full : strays row 0 ≡ true → row_at width ws r ≢ 0
  unfolding row_at
  row_full h z = never (rw e at h) (no_strays (term_of width ws r) 0 (omega arith))

-- a row has no columns beyond its words
pub row_below : (width : ℕ) (ws : List ℕ) (r : ℕ) → Words ws → row_at width ws r < 2 ^ (64 * width)
unfolding row_at
row_below width ws r h =
    lt_of_lt_of_le (value_below (term_of width ws r) (words_term width ws r h)) (pow_mono (omega (arith, length-take width (drop (r * width) ws))))

row_ext : (width : ℕ) (ws vs : List ℕ) (i : ℕ) → length vs ≡ length ws
    → ((x : ℕ) → x < width → get_or vs (i * width + x) 0 ≡ get_or ws (i * width + x) 0) → row_at width vs i ≡ row_at width ws i
unfolding row_at
row_ext width ws vs i l h =
    ap value (ext_get_or 0 (term_of width vs i) (term_of width ws i) (simp (length-take, length-drop, l)) (λ x g. each x (short x g)))
  where
    short : (x : ℕ) → x < length (term_of width vs i) → x < width
    short x g = omega (arith, length-take width (drop (i * width) vs))

    each : (x : ℕ) → x < width → get_or (term_of width vs i) x 0 ≡ get_or (term_of width ws i) x 0
    each x g = term_at width vs i x g ∙ h x g ∙ sym (term_at width ws i x g)

get_d_xors : (ds ss : List ℕ) (i : ℕ) → i < length ds → i < length ss → get_or (xors ds ss) i 0 ≡ bit_xor (get_or ds i 0) (get_or ss i 0)
get_d_xors [] ss i h k = absurd (omega arith)
get_d_xors (d ∷ ds) [] i h k = absurd (omega arith)
get_d_xors (d ∷ ds) (s ∷ ss) zero h k = refl
get_d_xors (d ∷ ds) (s ∷ ss) (suc i) h k = get_d_xors ds ss i (omega arith) (omega arith)

-- row s added to row r
module _ (width : ℕ) (ws vs : List ℕ) (s r : ℕ) (sr : s < r) (fits : r * width + width ≤ length ws) (a : Added (s * width) (r * width) width ws vs) where
  row_added : Words ws → row_at width vs r ≡ bit_xor (row_at width ws r) (row_at width ws s)
  unfolding row_at
  row_added h = ap value lists ∙ value_xors (term_of width ws r) (term_of width ws s) (omega (arith, lr, ls)) (words_term width ws r h) (words_term width ws s h)
    where
      lr : length (term_of width ws r) ≡ width
      lr = length_term width ws r fits

      ls : length (term_of width ws s) ≡ width
      ls = length_term width ws s (omega (arith, row_before s r width sr))

      lv : length (term_of width vs r) ≡ width
      lv = length_term width vs r (omega (arith, a.long))

      each : (x : ℕ) → x < width → get_or (term_of width vs r) x 0 ≡ get_or (xors (term_of width ws r) (term_of width ws s)) x 0
      each x g =
          term_at width vs r x g ∙ a.at x g
          ∙ sym (get_d_xors (term_of width ws r) (term_of width ws s) x (omega (arith, lr)) (omega (arith, ls)) ∙ ap₂ bit_xor (term_at width ws r x g) (term_at width ws s x g))

      lists : term_of width vs r ≡ xors (term_of width ws r) (term_of width ws s)
      lists =
          ext_get_or 0 (term_of width vs r) (xors (term_of width ws r) (term_of width ws s)) (lv ∙ sym (length_along bit_xor (term_of width ws r) (term_of width ws s) ∙ lr))
          (λ x g. each x (omega (arith, lv)))

  -- every other row
  row_kept : (i : ℕ) → i ≢ r → row_at width vs i ≡ row_at width ws i
  row_kept i h = row_ext width ws vs i a.long (λ x g. a.other (i * width + x) (λ y k. apart x y g k (dec_lt i r)))
    where
      apart : (x y : ℕ) → x < width → y < width → Dec (i < r) → i * width + x ≢ r * width + y
      apart x y b c (yes l) = omega (arith, row_before i r width l)
      apart x y b c (no l) = omega (arith, row_before r i width (omega (arith, l, h)))

  past_kept : (k : ℕ) → r < k → Same (k * width) ws vs
  past_kept k h = record { long = a.long; behind = λ j g. a.other j (λ i l. omega (arith, row_before r k width h)) }

same_trans : {size : ℕ} {a b c : List ℕ} → Same size a b → Same size b c → Same size a c
same_trans h k = record { long = k.long ∙ h.long; behind = λ j g. k.behind j g ∙ h.behind j g }

-- words cleared
pub zeroed_same : (size : ℕ) (ws vs : List ℕ) → Same size ws vs → zeroed size vs ≡ zeroed size ws
zeroed_same zero ws vs h = ext_get_or 0 vs ws h.long (λ j l. h.behind j (omega arith))
zeroed_same (suc n) [] [] h = refl
zeroed_same (suc n) [] (v ∷ vs) h = absurd (omega (arith, h.long))
zeroed_same (suc n) (w ∷ ws) [] h = absurd (omega (arith, h.long))
zeroed_same (suc n) (w ∷ ws) (v ∷ vs) h =
    ap {B = List ℕ} (λ (x : List ℕ). 0 ∷ x) (zeroed_same n ws vs (record { long = omega (arith, h.long); behind = λ j g. h.behind (suc j) (omega arith) }))

-- ---- a sweep, after the rows before row r

pub record Sweeping (k width s p r : ℕ) (ws vs : List ℕ) : Type 0 where
  pub same : Same (k * width) ws vs
  pub words : Words vs
  pub kept : (i : ℕ) → i ≤ s → i < k → row_at width vs i ≡ row_at width ws i
  pub swept : (i : ℕ) → s < i → i < r → row_at width vs i ≡ bit_xor (row_at width ws i) (pick (bit (row_at width ws i) p) (row_at width ws s))
  pub left : (i : ℕ) → r ≤ i → i < k → row_at width vs i ≡ row_at width ws i

module _ (k width s p : ℕ) (ws : List ℕ) where
  pub sweeping_start : Words ws → Sweeping k width s p (s + 1) ws ws
  sweeping_start h = record {
    same = record { long = refl; behind = λ j g. refl };
    words = h;
    kept = λ i a b. refl;
    swept = λ i a b. absurd (omega arith);
    left = λ i a b. refl;
  }

  module _ (r : ℕ) (vs : List ℕ) (w : Sweeping k width s p r ws vs) where
    -- row r has column p, and row s is added
    pub sweeping_on : (us : List ℕ) → s < r → r < k → k * width ≤ length ws → bit (row_at width vs r) p ≡ 1 → Words us → Added (s * width) (r * width) width vs us
        → Sweeping k width s p (r + 1) ws us
    sweeping_on us sr rk inside o words a = record {
      same = same_trans w.same (past_kept width vs us s r sr fits a k rk);
      words = words;
      kept = λ i h l. row_kept width vs us s r sr fits a i (omega arith) ∙ w.kept i h l;
      swept = λ i h l. go i h l (ℕ_discrete i r);
      left = λ i h l. row_kept width vs us s r sr fits a i (omega arith) ∙ w.left i (omega arith) l;
    }
      where
        fits : r * width + width ≤ length vs
        fits = omega (arith, row_before r k width rk, w.same.long)

        go : (i : ℕ) → s < i → i < r + 1 → Dec (i ≡ r) → row_at width us i ≡ bit_xor (row_at width ws i) (pick (bit (row_at width ws i) p) (row_at width ws s))
        go i h l (yes e) =
            let same = w.left r (omega arith) rk in
            rw (e, row_added width vs us s r sr fits a w.words, same, w.kept s (omega arith) (omega arith), rw same at o)
        go i h l (no e) = row_kept width vs us s r sr fits a i e ∙ w.swept i h (omega (arith, e))

    -- row r does not
    pub sweeping_off : r < k → bit (row_at width vs r) p ≡ 0 → Sweeping k width s p (r + 1) ws vs
    sweeping_off rk z = record {
      same = w.same;
      words = w.words;
      kept = w.kept;
      swept = λ i h l. go i h l (ℕ_discrete i r);
      left = λ i h l. w.left i (omega arith) l;
    }
      where
        go : (i : ℕ) → s < i → i < r + 1 → Dec (i ≡ r) → row_at width vs i ≡ bit_xor (row_at width ws i) (pick (bit (row_at width ws i) p) (row_at width ws s))
        go i h l (yes e) =
            let same = w.left r (omega arith) rk in
            rw (e, same, rw same at z, xor_zero_r)
        go i h l (no e) = w.swept i h (omega (arith, e))

    pub sweeping_end : k ≤ r → Swept k s p (row_at width ws) (row_at width vs)
    sweeping_end h = record { kept = w.kept; added = λ i a b. w.swept i a (omega arith) }

-- ---- elimination of the k rows of ws, after row s

pub record Eliminating (n k width s : ℕ) (ws vs : List ℕ) : Type 0 where
  pub same : Same (k * width) ws vs
  pub words : Words vs
  pub done : Eliminated n k (row_at width ws) (row_at width vs) s

module _ (n k width : ℕ) (ws : List ℕ) where
  pub eliminating_start : Words ws → Eliminating n k width 0 ws ws
  eliminating_start h = record { same = record { long = refl; behind = λ j g. refl }; words = h; done = start n k (row_at width ws) }

  module _ (s : ℕ) (vs : List ℕ) (w : Eliminating n k width s ws vs) (p : ℕ) (found : Lowest n (row_at width vs s) p) where
    -- a column of row s is found, and swept from the later rows
    pub eliminating_sweep : (us : List ℕ) → s < k → p < n → Words us → Swept k s p (row_at width vs) (row_at width us) → Same (k * width) vs us → Eliminating n k width (s + 1) ws us
    eliminating_sweep us sk pn words swept same = record {
      same = same_trans w.same same;
      words = words;
      done = rw add-one (step_sweep n k (row_at width ws) (row_at width vs) (row_at width us) s p w.done sk pn (found.has pn) found.below swept);
    }

    -- row s has none
    pub eliminating_none : n ≤ p → Eliminating n k width (s + 1) ws vs
    eliminating_none np =
        let e : p ≡ n = omega (arith, found.within) in
        record {
          same = w.same;
          words = w.words;
          done = rw add-one (step_dead n k (row_at width ws) (row_at width vs) s w.done (rw e at found.below));
        }
