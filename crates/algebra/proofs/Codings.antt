-- Encoding and decoding, mode by mode: what decoding finds, and, with e and c dual, that every list encodes and is decoded again. By induction on the modes.
use Prim.Native.Nat.{ℕ, zero, suc, ◌+◌, ◌*◌, ◌/◌, ◌%◌, ◌^◌, ◌<◌, ◌≤◌}
use native.Mathlib.Nat.{pow-suc, div-div-eq-div-mul, div-one, div-lt_iff_lt-mul}
use native.Mathlib.Omega.{arith}
use mathlib.Core.Path.{◌≡◌, refl, ap, ◌∙◌, sym}
use mathlib.Core.Bool.{Bool, true, false, cond}
use lib.Dec.{eqb}
use lib.Pow.{pow_pos}
use lib.Bits.{bit_xor, xor_zero_r}
use borrow.Author.Tests.{eqb-true, eq-eqb}
use Rattle.algebra.specs.Rows.{bit, dot, Row, state, phase}
use Rattle.algebra.specs.Modes.{Modes, lo, c, e, paired, empty, vacuum_rule, Majorana}
use Rattle.algebra.specs.Coding.{when, done, occupy, encode_from, Decoded, found, foreign, seen, decode_from, decode}
use Rattle.algebra.specs.Choices.{pick, combo}
use Rattle.algebra.proofs.Digits.{bit_lt, xor_assoc, xor_back}
use Rattle.algebra.proofs.Dots.{dot_lt, dot_xor_r}
use Rattle.algebra.proofs.Duals.{is_paired, reads_vacuum, dual_other, reads_own}

-- ---- one mode taken back

-- a list from mode k is its digit k below the list from the next mode
from_mode : (l k : ℕ) → 2 * (l / 2 ^ suc k) + bit l k ≡ l / 2 ^ k
unfolding bit
from_mode l k = rw (pow-suc, ← div-div-eq-div-mul l (2 ^ k) 2) (omega arith)

when_state : (b : ℕ) (r : Row) (s : ℕ) → when b (state r) s ≡ bit_xor s (pick b r.x)
when_state zero r s = sym (xor_zero_r s)
when_state (suc b) r s = refl

module _ (m : Modes) (v l k : ℕ) where
  -- what the modes below k make of v, and what mode k makes of it
  flipped : bit_xor v (combo (c m) (suc k) l) ≡ bit_xor (bit_xor v (combo (c m) k l)) (pick (bit l k) (c m k))
  unfolding combo
  flipped = sym (xor_assoc v (combo (c m) k l) (pick (bit l k) (c m k)))

  take_back : when (bit l k) (state (lo m k)) (bit_xor v (combo (c m) (suc k) l)) ≡ bit_xor v (combo (c m) k l)
  take_back = rw (flipped, when_state (bit l k) (lo m k), xor_back)

  put_back : (s b : ℕ) → bit l k ≡ b → when b (state (lo m k)) s ≡ bit_xor v (combo (c m) k l) → s ≡ bit_xor v (combo (c m) (suc k) l)
  put_back s b g h = rw (flipped, g, ← h, when_state b (lo m k), xor_back)

-- ---- what decoding finds

cond_found : (t : Bool) (x : Decoded) (l : ℕ) → cond t x foreign ≡ found l → (t ≡ true) × (x ≡ found l)
cond_found true x l h = (refl, h)
cond_found false x l h = ((cc), (cc))

seen_lt : (m : Modes) (k s : ℕ) → seen m k s < 2
unfolding seen
seen_lt m k s = omega arith

module _ (m : Modes) (v l : ℕ) where
  -- a list whose digits at k and above are those of a, and a state that its modes below k make of v
  finds : (k a s : ℕ) → decode_from m v k a s ≡ found l → (l / 2 ^ k ≡ a) × (s ≡ bit_xor v (combo (c m) k l))
  unfolding decode_from combo
  finds zero a s h =
      let p = cond_found (eqb s v) (found a) l h in
      (div-one l ∙ (cc), eqb-true s v p.0 ∙ sym (xor_zero_r v))
  finds (suc k) a s h =
      let t = when (seen m k s) (state (lo m k)) s in
      let r = finds k (2 * a + seen m k s) t (cond_found (paired m k) (decode_from m v k (2 * a + seen m k s) t) l h).1 in
      let digits = from_mode l k ∙ r.0 in
      (omega (arith, seen_lt m k s, bit_lt l k), put_back m v l k s (seen m k s) (omega (arith, seen_lt m k s, bit_lt l k)) r.1)

  module _ (s : ℕ) (h : decode m v s ≡ found l) where
    pub decoded_below : l < 2 ^ m.n
    unfolding decode
    decoded_below =
        let low : l / 2 ^ m.n < 1 = omega (arith, (finds m.n 0 s h).0) in
        omega (arith, (div-lt_iff_lt-mul (pow_pos m.n)).0 low)

    pub decoded_state : s ≡ bit_xor v (combo (c m) m.n l)
    unfolding decode
    decoded_state = (finds m.n 0 s h).1

-- ---- every list encodes

-- the modes below k are empty in s
abbrev pub Clean : Modes → ℕ → ℕ → Type 0
Clean m k s = (i : ℕ) → i < k → empty m i s ≡ true

module _ (m : Modes) (v : ℕ) (maj : Majorana m) (vac : vacuum_rule m v ≡ true) where
  -- the modes below k stay empty when mode k is occupied
  stays_clean : (k s : ℕ) → k < m.n → Clean m (suc k) s → Clean m k (bit_xor s (c m k))
  unfolding empty
  stays_clean k s h clean i g = rw unread (clean i (omega arith))
    where
      unread : dot (e m i) (bit_xor s (c m k)) ≡ dot (e m i) s
      unread = rw (dot_xor_r, dual_other m maj (is_paired m v vac) i k (omega arith) h (omega arith)) (omega (arith, dot_lt (e m i) s))

  pub encodes : (l k s f : ℕ) → k ≤ m.n → Clean m k s → (t : ℕ) × (g : ℕ) × (encode_from m l k (done s f) ≡ done t g)
  unfolding encode_from occupy
  encodes l zero s f h clean = (s, f, refl)
  encodes l (suc k) s f h clean = go (bit l k) (λ s f clean. encodes l k s f (omega arith) clean)
    where
      go : (b : ℕ) → ((s f : ℕ) → Clean m k s → (t : ℕ) × (g : ℕ) × (encode_from m l k (done s f) ≡ done t g))
          → (t : ℕ) × (g : ℕ) × (encode_from m l k (when b (occupy m k) (done s f)) ≡ done t g)
      go zero rest = rest s f (λ i g. clean i (omega arith))
      go (suc b) rest = rw (clean k (omega arith)) (rest (state (lo m k) s) ((f + phase (lo m k) s) % 4) (stays_clean k s h clean))

  -- ---- decoding gives it back

  -- after the modes above k are taken back, mode k is seen as it was put
  seen_own : (l k : ℕ) → k < m.n → seen m k (bit_xor v (combo (c m) (suc k) l)) ≡ bit l k
  unfolding seen
  seen_own l k h =
      rw (dot_xor_r, reads_own m maj (is_paired m v vac) l k (suc k) (omega arith) h, reads_vacuum m v vac k h) (omega (arith, bit_lt l k))

  pub decodes : (l k : ℕ) → k ≤ m.n → decode_from m v k (l / 2 ^ k) (bit_xor v (combo (c m) k l)) ≡ found l
  unfolding decode_from combo
  decodes l zero h = rw (xor_zero_r v, eq-eqb v v refl) (ap found (div-one l))
  decodes l (suc k) h = rw (is_paired m v vac k h, seen_own l k h, take_back m v l k, from_mode l k) (decodes l k (omega arith))
