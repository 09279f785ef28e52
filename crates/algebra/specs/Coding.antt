-- Occupation lists and basis states. A list is a number: its binary digit i is 1 if mode i is occupied.
use Rattle.std.specs.Prelude.{ℕ, zero, suc, ◌+◌, ◌*◌, ◌/◌, ◌%◌, cond, eqb}
use Rattle.algebra.specs.Rows.{bit, dot, state, phase}
use Rattle.algebra.specs.Modes.{Modes, lo, e, d, paired, empty}

abbrev pub when : {A : Type 0} → ℕ → (A → A) → A → A
when zero f a = a
when (suc b) f a = f a

-- ---- encoding: from the highest occupied mode down

-- a basis state and its phase
pub data Encoded : Type 0 where
  done : ℕ → ℕ → Encoded
  refused : Encoded

-- X parts must agree, d be even, and e_i·s = d/2 mod 2 at the present bits s; then the phase grows by p0 + 2(z0·s) and s becomes s xor c_i
unfoldable pub occupy : Modes → ℕ → Encoded → Encoded
occupy m i (done s f) = cond (empty m i s) (done (state (lo m i) s) ((f + phase (lo m i) s) % 4)) refused
occupy m i refused = refused

-- the modes below k
unfoldable pub encode_from : Modes → ℕ → ℕ → Encoded → Encoded
encode_from m l zero a = a
encode_from m l (suc k) a = encode_from m l k (when (bit l k) (occupy m k) a)

-- it starts at v with phase 0
unfoldable pub encode : Modes → ℕ → ℕ → Encoded
encode m v l = encode_from m l m.n (done v 0)

-- ---- decoding: over all modes from the highest

pub data Decoded : Type 0 where
  found : ℕ → Decoded
  foreign : Decoded

-- 1 if e_i·s differs from d/2
unfoldable pub seen : Modes → ℕ → ℕ → ℕ
seen m i s = (dot (e m i) s + d m i / 2) % 2

-- the modes below k, with l the list of those above: X parts agree, d even; an occupied mode makes s into s xor c_i; at the end s must be v
unfoldable pub decode_from : Modes → ℕ → ℕ → ℕ → ℕ → Decoded
decode_from m v zero l s = cond (eqb s v) (found l) foreign
decode_from m v (suc k) l s = cond (paired m k) (decode_from m v k (2 * l + seen m k s) (when (seen m k s) (state (lo m k)) s)) foreign

unfoldable pub decode : Modes → ℕ → ℕ → Decoded
decode m v s = decode_from m v m.n 0 s
