-- One mode of an encoding and of a decoding, as the loops go through them: the highest mode left, and the rest.
use Prim.Native.Nat.{ℕ, suc, ◌+◌, ◌-◌, ◌*◌, ◌/◌, ◌%◌, ◌^◌, ◌≤◌, ◌<◌}
use native.Mathlib.Nat.{pow-suc, mul_assoc, mul_comm, mul-div_cancel, add-mul, one-mul, add-zero}
use native.Mathlib.Omega.{arith}
use mathlib.Core.Path.{◌≡◌, refl, ap, ◌∙◌}
use mathlib.Core.Bool.{Bool, true, false, cond}
use borrow.Author.Tests.{eqb-true, eqb-false}
use lib.Bits.{bit_xor}
use lib.Count.{ones}
use lib.Dec.{eqb}
use lib.Pow.{pow_pos}
use Rattle.algebra.specs.Rows.{bit, common, dot, Row, state, phase}
use Rattle.algebra.specs.Modes.{Modes, lo, paired, empty}
use Rattle.algebra.specs.Coding.{when, Encoded, done, refused, occupy, encode_from, found, foreign, seen, decode_from}
use Rattle.algebra.proofs.Digits.{bit_lt}
use Rattle.algebra.proofs.Dots.{ones_zero, ones_xor}
use Rattle.algebra.proofs.Operators.{encode_refused_lem}
use Rattle.dense_block.specs.Words.{digit, put_bit}
use Rattle.pauli.proofs.Products.{digit_dot}
use Rattle.majorana.specs.Runs.{read_off}

-- ---- encoding

module _ (m : Modes) (l : ℕ) where
  step : (i : ℕ) (a : Encoded) → 0 < i → encode_from m l i a ≡ encode_from m l (i - 1) (when (bit l (i - 1)) (occupy m (i - 1)) a)
  unfolding encode_from
  step i a h = go i (i - 1) (omega arith)
    where
      go : (i j : ℕ) → i ≡ suc j → encode_from m l i a ≡ encode_from m l j (when (bit l j) (occupy m j) a)
      go i j e = rw e

  pub step_none : (i : ℕ) (a : Encoded) → i ≤ 0 → encode_from m l i a ≡ a
  unfolding encode_from
  step_none i a h = let z : i ≡ 0 = omega arith in rw z

  pub step_skip : (i : ℕ) (a : Encoded) → 0 < i → eqb (bit l (i - 1)) 1 ≡ false → encode_from m l i a ≡ encode_from m l (i - 1) a
  step_skip i a h e =
      let z : bit l (i - 1) ≡ 0 = omega (arith, eqb-false (bit l (i - 1)) 1 e, bit_lt l (i - 1)) in
      step i a h ∙ rw z

  pub step_take : (i s f : ℕ) → 0 < i → eqb (bit l (i - 1)) 1 ≡ true → empty m (i - 1) s ≡ true
      → encode_from m l i (done s f) ≡ encode_from m l (i - 1) (done (state (lo m (i - 1)) s) ((f + phase (lo m (i - 1)) s) % 4))
  unfolding occupy
  step_take i s f h e g = step i (done s f) h ∙ rw (eqb-true (bit l (i - 1)) 1 e, g)

  pub step_refuse : (i s f : ℕ) → 0 < i → eqb (bit l (i - 1)) 1 ≡ true → empty m (i - 1) s ≡ false → encode_from m l i (done s f) ≡ refused
  unfolding occupy
  step_refuse i s f h e g = step i (done s f) h ∙ rw (eqb-true (bit l (i - 1)) 1 e, g) (encode_refused_lem m l (i - 1))

-- the phase so far is what was added and twice the ones folded

double : (p x y : ℕ) → x % 2 ≡ y % 2 → (p + 2 * x) % 4 ≡ (p + 2 * y) % 4
double p x y h = omega arith

pub phase_none : (0 + 2 * ones 0) % 4 ≡ 0
phase_none = omega (arith, ones_zero)

pub phase_next : (r : Row) (s f g fold first : ℕ) → g ≡ (f + r.p) % 4 → ones first % 2 ≡ dot r.z s
    → (g + 2 * ones (bit_xor fold first)) % 4 ≡ ((f + 2 * ones fold) % 4 + phase r s) % 4
unfolding dot
phase_next r s f g fold first e h =
    double g (ones (bit_xor fold first)) (ones fold + common r.z s) (omega (arith, ones_xor fold first, h))
    ∙ sums r.p (ones fold) (common r.z s) e
  where
    sums : (p a t : ℕ) → g ≡ (f + p) % 4 → (g + 2 * (a + t)) % 4 ≡ ((f + 2 * a) % 4 + (p + 2 * t) % 4) % 4
    sums p a t e = omega arith

pub counted : (f u : ℕ) → (f + 2 * digit (eqb (u % 2) 1)) % 4 ≡ (f + 2 * u) % 4
counted f u = omega (arith, digit_dot (u % 2) (omega arith))

-- ---- decoding

pub picked : (b : Bool) (l : ℕ) → read_off b l ≡ cond b (found l) foreign
picked true l = refl
picked false l = refl

seen_lt : (m : Modes) (k s : ℕ) → seen m k s < 2
unfolding seen
seen_lt m k s = omega arith

module _ (m : Modes) (v : ℕ) where
  back : (i a s : ℕ) → 0 < i
      → decode_from m v i a s ≡ cond (paired m (i - 1)) (decode_from m v (i - 1) (2 * a + seen m (i - 1) s) (when (seen m (i - 1) s) (state (lo m (i - 1))) s)) foreign
  unfolding decode_from
  back i a s h = go i (i - 1) (omega arith)
    where
      go : (i j : ℕ) → i ≡ suc j → decode_from m v i a s ≡ cond (paired m j) (decode_from m v j (2 * a + seen m j s) (when (seen m j s) (state (lo m j)) s)) foreign
      go i j e = rw e

  pub back_end : (i a s : ℕ) → i ≤ 0 → decode_from m v i a s ≡ cond (eqb s v) (found a) foreign
  unfolding decode_from
  back_end i a s h = let z : i ≡ 0 = omega arith in rw z

  pub back_unpaired : (i a s : ℕ) → 0 < i → paired m (i - 1) ≡ false → decode_from m v i a s ≡ foreign
  back_unpaired i a s h e = back i a s h ∙ rw e

  pub back_seen : (i a s : ℕ) → 0 < i → paired m (i - 1) ≡ true → eqb (seen m (i - 1) s) 1 ≡ true
      → decode_from m v i a s ≡ decode_from m v (i - 1) (2 * a + 1) (state (lo m (i - 1)) s)
  back_seen i a s h e g = back i a s h ∙ rw (e, eqb-true (seen m (i - 1) s) 1 g)

  pub back_unseen : (i a s : ℕ) → 0 < i → paired m (i - 1) ≡ true → eqb (seen m (i - 1) s) 1 ≡ false
      → decode_from m v i a s ≡ decode_from m v (i - 1) (2 * a) s
  back_unseen i a s h e g =
      let z : seen m (i - 1) s ≡ 0 = omega (arith, seen_lt m (i - 1) s, eqb-false (seen m (i - 1) s) 1 g) in
      back i a s h ∙ rw (e, z, add-zero)

-- ---- the digits read so far, one place down

twice : (a i : ℕ) → 0 < i → a * 2 ^ i ≡ 2 * a * 2 ^ (i - 1)
twice a i h = go i (i - 1) (omega arith)
  where
    go : (i j : ℕ) → i ≡ suc j → a * 2 ^ i ≡ 2 * a * 2 ^ j
    go i j e = rw (e, pow-suc, mul_comm 2 a, mul_assoc, mul_comm (2 ^ j) 2)

pub digit_none : (x a i : ℕ) → 0 < i → x ≡ a * 2 ^ i → x ≡ 2 * a * 2 ^ (i - 1)
digit_none x a i h e = e ∙ twice a i h

pub digit_one : (x a i : ℕ) → 0 < i → x ≡ a * 2 ^ i → put_bit x (i - 1) true ≡ (2 * a + 1) * 2 ^ (i - 1)
unfolding put_bit bit
digit_one x a i h e =
    let f : x / 2 ^ (i - 1) ≡ 2 * a = ap (λ (k : ℕ). k / 2 ^ (i - 1)) (digit_none x a i h e) ∙ mul-div_cancel (2 * a) (pow_pos (i - 1)) in
    let z : x / 2 ^ (i - 1) % 2 ≡ 0 = omega arith in
    rw z (omega (arith, digit_none x a i h e, add-mul (2 * a) 1 (2 ^ (i - 1)), one-mul (2 ^ (i - 1))))
