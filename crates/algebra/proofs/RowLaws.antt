-- Laws of rows: the product acts as its factors one after the other, it is associative with the identity neutral, it needs no more columns than they, and its two
-- orders differ by a sign exactly if the rows anticommute. By the laws of the dot product; a doubled count is known by its parity.
use Prim.Native.Nat.{ℕ, ◌+◌, ◌*◌, ◌%◌, ◌<◌}
use native.Mathlib.Nat.{add_comm, mod-add-mod, add-mod-mod}
use native.Mathlib.Omega.{arith}
use mathlib.Core.Path.{◌≡◌, ap, sym}
use mathlib.Core.Logic.{◌↔◌, ◌≢◌, ◌⊎◌, inl, inr}
use lib.Bits.{xor_comm, xor_zero_l, xor_zero_r, xor_lt}
use lib.Pow.{pow_pos}
use Rattle.algebra.specs.Rows.{common, dot, Row, OnColumns, state, phase, times, identity, clash, Anticommute}
use Rattle.algebra.proofs.Digits.{zero_or_one, xor_assoc}
use Rattle.algebra.proofs.Dots.{common_comm, common_zero_r, twice_dot, dot_xor_l, dot_xor_r}

-- ---- the product acts as the composition

pub times_state : (r s : Row) (t : ℕ) → state (times r s) t ≡ state r (state s t)
times_state r s t = rw (xor_comm r.x s.x) (sym (xor_assoc t s.x r.x))

-- a sign is known by its parity
sign : (a k : ℕ) → (a + 2 * (k % 2)) % 4 ≡ (a + 2 * k) % 4
sign a k = omega arith

pub times_phase : (r s : Row) (t : ℕ) → phase (times r s) t ≡ (phase s t + phase r (state s t)) % 4
times_phase r s t = simp (twice_dot, dot_xor_l, dot_xor_r, sign, mod-add-mod, add-mod-mod) (ap (λ (k : ℕ). k % 4) (omega arith))

-- ---- a monoid

first : (a b c : ℕ) → (a % 4 + b + c) % 4 ≡ (a + b + c) % 4
first a b c = omega arith

second : (a b c : ℕ) → (a + b % 4 + c) % 4 ≡ (a + b + c) % 4
second a b c = omega arith

pub times_assoc : (r s t : Row) → times (times r s) t ≡ times r (times s t)
times_assoc r s t = λ i. record {
  p = assoc_p i;
  x = xor_assoc r.x s.x t.x i;
  z = xor_assoc r.z s.z t.z i;
}
  where
    assoc_p : (times (times r s) t).p ≡ (times r (times s t)).p
    assoc_p = simp (twice_dot, dot_xor_l, dot_xor_r, sign, first, second) (ap (λ (k : ℕ). k % 4) (omega arith))

pub identity_times : (r : Row) → r.p < 4 → times identity r ≡ r
identity_times r h = λ i. record { p = same_p i; x = xor_zero_l r.x i; z = xor_zero_l r.z i }
  where
    same_p : (times identity r).p ≡ r.p
    same_p = rw (common_comm 0 r.x, common_zero_r) (omega arith)

pub times_identity : (r : Row) → r.p < 4 → times r identity ≡ r
times_identity r h = λ i. record { p = same_p i; x = xor_zero_r r.x i; z = xor_zero_r r.z i }
  where
    same_p : (times r identity).p ≡ r.p
    same_p = rw common_zero_r (omega arith)

-- ---- on q columns

pub identity_on : (q : ℕ) → OnColumns q identity
identity_on q = record { phase_small = omega arith; x_low = pow_pos q; z_low = pow_pos q }

-- a product of rows on q columns is a row on q columns
pub times_on : (q : ℕ) (r s : Row) → OnColumns q r → OnColumns q s → OnColumns q (times r s)
times_on q r s h k = record {
  phase_small = omega arith;
  x_low = xor_lt q r.x s.x h.x_low k.x_low;
  z_low = xor_lt q r.z s.z h.z_low k.z_low;
}

-- ---- two rows anticommute exactly if the two orders' phases differ, and then by 2

pub clash_dot : (r s : Row) → clash r s ≡ (dot r.x s.z + dot r.z s.x) % 2
unfolding clash dot
clash_dot r s = omega arith

pub clash_lt : (r s : Row) → clash r s < 2
unfolding clash
clash_lt r s = omega arith

pub clash_comm : (r s : Row) → clash r s ≡ clash s r
unfolding clash
clash_comm r s = rw (common_comm s.x r.z, common_comm s.z r.x) (omega arith)

pub clash_self : (r : Row) → clash r r ≡ 0
unfolding clash
clash_self r = rw (common_comm r.z r.x) (omega arith)

pub clash_identity : (r : Row) → clash identity r ≡ 0
unfolding clash
clash_identity r = rw (common_comm 0 r.z, common_comm 0 r.x, common_zero_r, common_zero_r)

-- the phases of the two orders differ by twice the clash
pub orders : (r s : Row) → (times r s).p ≡ ((times s r).p + 2 * clash r s) % 4
unfolding clash
orders r s = rw (add_comm s.p r.p, common_comm s.z r.x) (swapped (r.p + s.p) (common r.z s.x) (common r.x s.z))
  where
    swapped : (q u v : ℕ) → (q + 2 * u) % 4 ≡ ((q + 2 * v) % 4 + 2 * ((v + u) % 2)) % 4
    swapped q u v = omega arith

-- a and b, powers of i, differ by twice c
same_sign : (a b c : ℕ) → b < 4 → a ≡ (b + 2 * c) % 4 → c ≡ 0 → a ≡ b
same_sign a b c h e k = omega arith

other_sign : (a b c : ℕ) → b < 4 → a ≡ (b + 2 * c) % 4 → c ≡ 1 → (a ≢ b) × (a ≡ (b + 2) % 4)
other_sign a b c h e k = let o : a ≡ (b + 2) % 4 = rw k at e in (omega arith, o)

module _ (r s : Row) where
  small : (times s r).p < 4
  small = omega arith

  clashes : (times r s).p ≢ (times s r).p → Anticommute r s
  clashes h = go (zero_or_one (clash r s) (clash_lt r s))
    where
      go : (clash r s ≡ 0) ⊎ (clash r s ≡ 1) → Anticommute r s
      go (inl e) = absurd (h (same_sign (times r s).p (times s r).p (clash r s) small (orders r s) e))
      go (inr e) = e

  pub anticommute_differ : Anticommute r s ↔ ((times r s).p ≢ (times s r).p)
  anticommute_differ = (λ h. (other_sign (times r s).p (times s r).p (clash r s) small (orders r s) h).0, clashes)

  pub anticommute_sign : Anticommute r s ↔ ((times r s).p ≡ ((times s r).p + 2) % 4)
  anticommute_sign = (λ h. (other_sign (times r s).p (times s r).p (clash r s) small (orders r s) h).1, λ h. clashes (omega (arith, small)))

-- clash is bilinear over products
pub clash_times_l : (r s t : Row) → clash (times r s) t ≡ (clash r t + clash s t) % 2
clash_times_l r s t = simp (clash_dot, dot_xor_l) (four (dot r.x t.z) (dot s.x t.z) (dot r.z t.x) (dot s.z t.x))
  where
    four : (a b c d : ℕ) → ((a + b) % 2 + (c + d) % 2) % 2 ≡ ((a + c) % 2 + (b + d) % 2) % 2
    four a b c d = simp (mod-add-mod, add-mod-mod) (ap (λ (n : ℕ). n % 2) (omega arith))

pub clash_times_r : (r s t : Row) → clash r (times s t) ≡ (clash r s + clash r t) % 2
clash_times_r r s t = omega (arith, clash_comm r (times s t), clash_times_l s t r, clash_comm s r, clash_comm t r)
