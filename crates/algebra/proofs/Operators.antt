-- Encoding applies the γ_2i of the occupied modes, the highest first: the bits and the phase that it ends with are those that their product gives. By induction on
-- the modes, with a product acting as its factors one after the other.
use Prim.Native.Nat.{ℕ, zero, suc, ◌+◌, ◌%◌, ◌^◌, ◌<◌}
use native.Mathlib.Omega.{arith}
use mathlib.Core.Path.{◌≡◌, refl, sym, ap, ◌∙◌}
use mathlib.Core.Bool.{Bool, true, false, cond}
use lib.Bits.{bit_xor, xor_zero_r, xor_lt}
use Rattle.algebra.specs.Rows.{bit, Row, state, phase, times}
use Rattle.algebra.specs.Modes.{Modes, lo, c, empty}
use Rattle.algebra.specs.Coding.{when, done, refused, occupy, encode_from, encode}
use Rattle.algebra.specs.Choices.{pick, combo}
use Rattle.algebra.specs.Operators.{applied}
use Rattle.algebra.proofs.Dots.{common_comm, common_zero_r}
use Rattle.algebra.proofs.RowLaws.{times_state, times_phase}
use Rattle.algebra.proofs.ChoiceLaws.{combo_below}

-- turns add in any order
turns : (f a b : ℕ) → ((f + a) % 4 + b) % 4 ≡ (f + (a + b) % 4) % 4
turns f a b = omega arith

-- t and g are the bits and the phase that a row makes of s and f
abbrev Acts : Row → ℕ → ℕ → ℕ → ℕ → Type 0
Acts r s f t g = (t ≡ state r s) × (g ≡ (f + phase r s) % 4)

module _ (m : Modes) (l : ℕ) where
  -- what is refused stays so
  pub encode_refused_lem : (k : ℕ) → encode_from m l k refused ≡ refused
  unfolding encode_from occupy
  encode_refused_lem zero = refl
  encode_refused_lem (suc k) = rw (skip (bit l k)) (encode_refused_lem k)
    where
      skip : (b : ℕ) → when b (occupy m k) refused ≡ refused
      skip zero = refl
      skip (suc b) = refl

  -- what encoding the modes below k ends with
  abbrev Ends : ℕ → ℕ → ℕ → Type 0
  Ends k t g = (s f : ℕ) → f < 4 → encode_from m l k (done s f) ≡ done t g → Acts (applied m l k) s f t g

  acts : (k t g : ℕ) → Ends k t g
  unfolding encode_from occupy applied
  acts zero t g s f h q = (rw xor_zero_r (cc), rw (common_comm 0 s, common_zero_r) (omega (arith, same)))
    where
      same : g ≡ f
      same = cc
  acts (suc k) t g s f h q = go (bit l k) q (acts k t g)
    where
      by : (o : Bool) → encode_from m l k (cond o (done (state (lo m k) s) ((f + phase (lo m k) s) % 4)) refused) ≡ done t g → Ends k t g
          → Acts (times (applied m l k) (lo m k)) s f t g
      by true q rest =
          let r = rest (state (lo m k) s) ((f + phase (lo m k) s) % 4) (omega arith) q in
          (r.0 ∙ sym (times_state (applied m l k) (lo m k) s), r.1 ∙ turns f (phase (lo m k) s) _ ∙ ap (λ (p : ℕ). (f + p) % 4) (sym (times_phase (applied m l k) (lo m k) s)))
      by false q rest = let z = encode_refused_lem k in ((cc), (cc))

      go : (b : ℕ) → encode_from m l k (when b (occupy m k) (done s f)) ≡ done t g → Ends k t g → Acts (when b (λ r. times r (lo m k)) (applied m l k)) s f t g
      go zero q rest = rest s f h q
      go (suc b) q rest = by (empty m k s) q rest

  -- the X part of the product is the xor of the c of occupied modes
  applied_x : (k : ℕ) → (applied m l k).x ≡ combo (c m) k l
  unfolding applied combo
  applied_x zero = refl
  applied_x (suc k) = go (bit l k) (applied_x k)
    where
      go : (b : ℕ) → (applied m l k).x ≡ combo (c m) k l → (when b (λ r. times r (lo m k)) (applied m l k)).x ≡ bit_xor (combo (c m) k l) (pick b (c m k))
      go zero e = e ∙ sym (xor_zero_r (combo (c m) k l))
      go (suc b) e = ap (λ (x : ℕ). bit_xor x (c m k)) e

  module _ (v s f : ℕ) (h : encode m v l ≡ done s f) where
    pub encoded_acts : (s ≡ state (applied m l m.n) v) × (f ≡ phase (applied m l m.n) v)
    unfolding encode
    encoded_acts = let r = acts m.n s f v 0 (omega arith) h in (r.0, omega (arith, r.1))

    -- the state is v xor the xor of the c of occupied modes
    pub encoded_state : s ≡ bit_xor v (combo (c m) m.n l)
    encoded_state = encoded_acts.0 ∙ ap (bit_xor v) (applied_x m.n)

    -- it has q bits if v and each c have
    pub encoded_below : (q : ℕ) → v < 2 ^ q → ((i : ℕ) → i < m.n → c m i < 2 ^ q) → s < 2 ^ q
    encoded_below q hv hc = rw encoded_state (xor_lt q v (combo (c m) m.n l) hv (combo_below q (c m) m.n l hc))
