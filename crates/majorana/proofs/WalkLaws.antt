-- A walk along the rows of a mode: what was gathered so far and what the rest would give make the whole; and what is told from it is what the algebra says of the mode.
use Prim.Native.Nat.{ℕ, zero, suc, ◌+◌, ◌*◌, ◌/◌, ◌%◌, ◌≤◌, ◌<◌}
use native.Mathlib.Nat.{add-zero}
use native.Mathlib.Omega.{arith}
use mathlib.Core.Path.{◌≡◌, refl, sym, ap, ◌∙◌}
use mathlib.Core.List.{List}
use mathlib.Core.Bool.{Bool, true, false, not, ◌&&◌, beq}
use borrow.Author.Tests.{eq-eqb, ne_eqb, eqb-true, eqb-false}
use lib.Dec.{eqb, ltb}
use lib.ListN.{length, get_or, set, drop, drop_of_length-le}
use lib.Seq.{get_or-drop, drop-drop, drop-set-lt}
use lib.Bits.{bit_and, bit_or, bit_xor, or_add_and, and_le_r, xor_self}
use lib.Count.{ones}
use Rattle.refusal.proofs.Bools.{not_not}
use Rattle.algebra.specs.Rows.{dot}
use Rattle.algebra.specs.Modes.{Modes, e, d, paired, empty}
use Rattle.algebra.specs.Coding.{seen}
use Rattle.algebra.proofs.Digits.{xor_same}
use Rattle.algebra.proofs.Dots.{dot_lt}
use Rattle.dense_block.specs.Words.{value, folded, alike, term_of}
use Rattle.dense_block.proofs.Values.{Words}
use Rattle.dense_block.proofs.Terms.{words_term, length_term}
use Rattle.dense_block.proofs.Alikes.{alike_step}
use Rattle.dense_block.proofs.Folds.{folded_dot, both_dot, fold_next, fold_past}
use Rattle.majorana.specs.declared.walk.Walk.{Walk}
use Rattle.majorana.specs.Sets.{modes_at}
use Rattle.majorana.specs.Held.{Held}
use Rattle.majorana.specs.Walks.{Level, Walked, Looked, paired_by, seen_by, empty_by}
use Rattle.majorana.proofs.ModeLaws.{parity_half, parity_other, d_below, paired_even, x_lo, x_hi, z_lo, z_hi, same_x, reads_is}

-- ---- columns in which two rows differ

differ_eq : (x y : ℕ) → eqb (bit_xor x y) 0 ≡ eqb x y
differ_eq x y = go (eqb x y) refl
  where
    go : (b : Bool) → eqb x y ≡ b → eqb (bit_xor x y) 0 ≡ eqb x y
    go true h = let s = eqb-true x y h in rw s (eq-eqb (bit_xor y y) 0 (xor_self y) ∙ sym (eq-eqb y y refl))
    go false h = ne_eqb (bit_xor x y) 0 (λ k. eqb-false x y h (xor_same x y k)) ∙ sym h

apart_next : (a x y : ℕ) → eqb (bit_or a (bit_xor x y)) 0 ≡ (eqb a 0 && eqb x y)
apart_next zero x y = differ_eq x y
apart_next (suc a) x y =
    ne_eqb (bit_or (suc a) (bit_xor x y)) 0 (λ h. omega (arith, h, or_add_and (suc a) (bit_xor x y), and_le_r (suc a) (bit_xor x y)))
    ∙ sym (ap (λ (b : Bool). b && eqb x y) (ne_eqb (suc a) 0 (omega arith)))

-- ---- the loop

pub record Walking (x0 x1 z0 s : List ℕ) (i apart first : ℕ) : Type 0 where
  pub alikes : (eqb apart 0 && alike (drop i x0) (drop i x1)) ≡ alike x0 x1
  pub firsts : bit_xor first (folded (drop i z0) (drop i s)) ≡ folded z0 s

module _ {x0 x1 z0 z1 s : List ℕ} (l : Level x0 x1 z0 z1 s) (i apart first : ℕ) (k : Walking x0 x1 z0 s i apart first) where
  pub walk_next : i < length s → Walking x0 x1 z0 s (i + 1) (bit_or apart (bit_xor (get_or x0 i 0) (get_or x1 i 0))) (bit_xor first (bit_and (get_or z0 i 0) (get_or s i 0)))
  walk_next h = record {
    alikes =
        ap (λ (b : Bool). b && alike (drop (i + 1) x0) (drop (i + 1) x1)) (apart_next apart (get_or x0 i 0) (get_or x1 i 0))
        ∙ assoc (eqb apart 0) (eqb (get_or x0 i 0) (get_or x1 i 0)) (alike (drop (i + 1) x0) (drop (i + 1) x1))
        ∙ ap (λ (b : Bool). eqb apart 0 && b) (sym (alike_step x0 x1 i (omega (arith, l.x_lo)) (omega (arith, l.x_hi)))) ∙ k.alikes;
    firsts = fold_next z0 s i first _ (omega (arith, l.z_lo)) h k.firsts;
  }
    where
      assoc : (a b c : Bool) → ((a && b) && c) ≡ (a && (b && c))
      assoc true b c = refl
      assoc false b c = refl

  -- past the end nothing is left
  same_end : (a b : List ℕ) (j : ℕ) → length a ≤ j → length b ≤ j → alike (drop j a) (drop j b) ≡ true
  same_end a b j p q = rw (drop_of_length-le a p, drop_of_length-le b q)

  left_end : (j : ℕ) → length s ≤ j → alike (drop j x0) (drop j x1) ≡ true
  left_end j h = same_end x0 x1 j (omega (arith, l.x_lo)) (omega (arith, l.x_hi))

  pub walk_past : length s ≤ i → Walking x0 x1 z0 s (i + 1) apart first
  walk_past h = record {
    alikes = ap (λ (b : Bool). eqb apart 0 && b) (left_end (i + 1) (omega arith) ∙ sym (left_end i h)) ∙ k.alikes;
    firsts = fold_past z0 s i first _ (omega (arith, l.z_lo)) k.firsts;
  }

-- where the state is changed on the way, what is left of it is as it was

pub still : (i : ℕ) (s t : List ℕ) → drop i s ≡ drop i t → get_or s i 0 ≡ get_or t i 0
still i s t h =
    ap (λ (k : ℕ). get_or s k 0) (sym (add-zero i)) ∙ sym (get_or-drop i s 0 0) ∙ ap (λ (l : List ℕ). get_or l 0 0) h ∙ get_or-drop i t 0 0
    ∙ ap (λ (k : ℕ). get_or t k 0) (add-zero i)

pub still_past : (i : ℕ) (s t : List ℕ) → drop i s ≡ drop i t → drop (i + 1) s ≡ drop (i + 1) t
still_past i s t h = sym (drop-drop 1 i s) ∙ ap (drop 1) h ∙ drop-drop 1 i t

pub still_next : (i v : ℕ) (s t : List ℕ) → drop i s ≡ drop i t → drop (i + 1) (set s i v) ≡ drop (i + 1) t
still_next i v s t h = drop-set-lt (i + 1) s i v (omega arith) ∙ still_past i s t h

-- ---- what is told

-- of mode i of rows that are held
module _ {n w : ℕ} {xs zs ps : List ℕ} (held : Held n w xs zs ps) (i : ℕ) (low : i < n) (s : List ℕ) where
  pub level : length s ≡ w → Level (term_of w xs (2 * i)) (term_of w xs (2 * i + 1)) (term_of w zs (2 * i)) (term_of w zs (2 * i + 1)) s
  level e = record {
    few = omega (arith, held.fits.words);
    x_lo = length_term w xs (2 * i) (x_lo held i low) ∙ sym e;
    x_hi = length_term w xs (2 * i + 1) (x_hi held i low) ∙ sym e;
    z_lo = length_term w zs (2 * i) (z_lo held i low) ∙ sym e;
    z_hi = length_term w zs (2 * i + 1) (z_hi held i low) ∙ sym e;
  }

  pub tells : Words s → (r : Walk) → Walked (term_of w xs (2 * i)) (term_of w xs (2 * i + 1)) (term_of w zs (2 * i)) (term_of w zs (2 * i + 1)) s r
      → Looked (modes_at n w xs zs ps) i (value s) r
  tells pt r k =
      let lo = words_term w zs (2 * i) held.z_words in
      let hi = words_term w zs (2 * i + 1) held.z_words in
      record {
        apart = k.apart ∙ same_x held i low;
        first = ap (λ (u : ℕ). ones u % 2) k.first ∙ folded_dot (term_of w zs (2 * i)) s lo pt;
        both = reads_is held i low (value s) _ (ap (λ (u : ℕ). ones u % 2) k.both ∙ both_dot (term_of w zs (2 * i)) s (term_of w zs (2 * i + 1)) s lo pt hi pt);
      }

module _ {m : Modes} {i s : ℕ} {r : Walk} (t : Looked m i s r) where
  pub paired_told : paired_by r (d m i) ≡ paired m i
  unfolding paired
  paired_told = ap (λ (b : Bool). b && eqb (d m i % 2) 0) t.apart

  pub seen_told : seen_by r (d m i) ≡ eqb (seen m i s) 1
  unfolding seen
  seen_told =
      ap (λ (u : ℕ). not (beq (eqb u 1) (ltb 1 (d m i)))) t.both
      ∙ parity_other (dot (e m i) s) (d m i) (dot_lt (e m i) s) (d_below m i)

  pub empty_told : empty_by r (d m i) ≡ empty m i s
  unfolding empty
  empty_told = rw (paired_told, t.both) (go (paired m i) refl)
    where
      u : ℕ
      u = dot (e m i) s

      half : d m i % 2 ≡ 0 → ltb 1 (d m i) ≡ eqb (d m i) 2
      half h = over (d m i) (d_below m i) h
        where
          over : (k : ℕ) → k < 4 → k % 2 ≡ 0 → ltb 1 k ≡ eqb k 2
          over zero h l = refl
          over (suc zero) h l = absurd (omega arith)
          over (suc (suc zero)) h l = refl
          over (suc (suc (suc k))) h l = absurd (omega arith)

      go : (b : Bool) → paired m i ≡ b → (b && not (not (beq (eqb u 1) (ltb 1 (d m i))))) ≡ (b && eqb u (d m i / 2))
      go false h = refl
      go true h = let p = paired_even m i h in not_not _ ∙ ap (beq (eqb u 1)) (half p) ∙ parity_half u (d m i) (dot_lt (e m i) s) (d_below m i) p
