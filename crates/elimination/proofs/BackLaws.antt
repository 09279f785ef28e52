-- Substituting back in a room, step by step: the string's words stand for the number that meets the rows passed.
use Prim.Native.Nat.{ℕ, ◌+◌, ◌-◌, ◌*◌, ◌/◌, ◌^◌, ◌≤◌, ◌<◌}
use native.Mathlib.Nat.{one-mul}
use native.Mathlib.Omega.{arith}
use mathlib.Core.Path.{◌≡◌, refl, ap, ◌∙◌}
use mathlib.Core.Logic.{◌≢◌}
use mathlib.Core.List.{List}
use mathlib.Core.Bool.{Bool, true, false}
use lib.ListN.{length, length-set}
use borrow.Author.Tests.{eqb-true, eqb-false}
use Rattle.algebra.specs.Rows.{dot}
use Rattle.algebra.proofs.Digits.{bit_of_zero}
use Rattle.algebra.proofs.Dots.{dot_lt}
use Rattle.dense_block.specs.Words.{value, put_bit, put, odd, term_of}
use Rattle.dense_block.proofs.Values.{Words}
use Rattle.dense_block.proofs.Columns.{value_put}
use Rattle.elimination.specs.Eliminated.{Lowest, Settled, Met, Substituted, met, unmet}
use Rattle.elimination.specs.Rooms.{row_at}
use Rattle.elimination.proofs.Substitution.{met_start, met_even, met_unmet, met_set}

pub length_put : (ws : List ℕ) (j : ℕ) (on : Bool) → length (put ws j on) ≡ length ws
unfolding put
length_put ws j on = length-set ws (j / 64) _

-- a number with one digit
put_zero : (j : ℕ) → put_bit 0 j true ≡ 2 ^ j
unfolding put_bit
put_zero j = rw bit_of_zero (omega (arith, one-mul (2 ^ j)))

-- the rows of ws from k on are met; us is the string at first, vs now
pub record Substituting (rows width k : ℕ) (ws us vs : List ℕ) : Type 0 where
  pub within : k ≤ rows
  pub long : length vs ≡ length us
  pub words : Words vs
  pub meets : Met (64 * width) rows (row_at (width + 1) ws) k (value vs)

module _ (rows width : ℕ) (ws us : List ℕ) where
  pub substituting_start : (zs : List ℕ) → value zs ≡ 0 → width < length zs → Words zs → us ≡ put zs (64 * width) true → Words us → Substituting rows width rows ws us us
  substituting_start zs z h words e w = record {
    within = omega arith;
    long = refl;
    words = w;
    meets = rw one (met_start (64 * width) rows (row_at (width + 1) ws));
  }
    where
      one : value us ≡ 2 ^ (64 * width)
      one = ap value e ∙ value_put zs (64 * width) true (omega arith) words ∙ ap (λ (x : ℕ). put_bit x (64 * width) true) z ∙ put_zero (64 * width)

  pub substituting_end : (k : ℕ) (vs : List ℕ) → Substituting rows width k ws us vs → k ≤ 0 → Substituted (64 * width) rows (row_at (width + 1) ws) true (value vs)
  substituting_end k vs s h = let e : k ≡ 0 = omega arith in met (rw e at s.meets)

  module _ (k : ℕ) (vs : List ℕ) (s : Substituting rows width k ws us vs) (pos : 0 < k) (row : List ℕ) (e : row ≡ term_of (width + 1) ws (k - 1)) where
    parity : (d : ℕ) → dot (value row) (value vs) ≡ d → dot (row_at (width + 1) ws (k - 1)) (value vs) ≡ d
    unfolding row_at
    parity d h = rw e at h

    odd_row : odd row vs ≡ true → dot (row_at (width + 1) ws (k - 1)) (value vs) ≡ 1
    unfolding odd
    odd_row h = parity 1 (eqb-true (dot (value row) (value vs)) 1 h)

    even_row : odd row vs ≡ false → dot (row_at (width + 1) ws (k - 1)) (value vs) ≡ 0
    unfolding odd
    even_row h = parity 0 (omega (arith, eqb-false (dot (value row) (value vs)) 1 h, dot_lt (value row) (value vs)))

    lowest_row : (p : ℕ) → Lowest (64 * width) (value row) p → Lowest (64 * width) (row_at (width + 1) ws (k - 1)) p
    unfolding row_at
    lowest_row p l = rw e at l

    -- row k - 1 is met
    pub substituting_even : odd row vs ≡ false → Substituting rows width (k - 1) ws us vs
    substituting_even h = record {
      within = omega (arith, s.within);
      long = s.long;
      words = s.words;
      meets = met_even (64 * width) rows (row_at (width + 1) ws) k (value vs) pos s.meets (even_row h);
    }

    module _ (h : odd row vs ≡ true) (p : ℕ) (l : Lowest (64 * width) (value row) p) where
      -- its lowest column is set
      pub substituting_set : (ts : List ℕ) → p ≢ 64 * width → Settled (64 * width) rows (row_at (width + 1) ws) (k - 1) → width < length us → ts ≡ put vs p true → Words ts
          → Substituting rows width (k - 1) ws us ts
      substituting_set ts ne settled inside new words = record {
        within = omega (arith, s.within);
        long = ap length new ∙ length_put vs p true ∙ s.long;
        words = words;
        meets = rw (ap value new ∙ value_put vs p true (omega (arith, l.within, s.long)) s.words)
            (met_set (64 * width) rows (row_at (width + 1) ws) k (value vs) pos s.meets p s.within (omega (arith, l.within, ne)) (lowest_row p l) settled (odd_row h));
      }

      -- it has none
      pub substituting_unmet : p ≡ 64 * width → Substituted (64 * width) rows (row_at (width + 1) ws) false (value vs)
      substituting_unmet q =
          let z = rw q at (lowest_row p l).below in
          unmet (k - 1) (omega (arith, s.within)) z (met_unmet (64 * width) rows (row_at (width + 1) ws) k (value vs) pos s.meets z (odd_row h))
