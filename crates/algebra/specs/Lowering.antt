-- What it means that the lowering operator (γ_2i + i γ_2i+1) / 2 of mode i kills a basis state: what it makes of the state has no amplitude anywhere.
use Rattle.std.specs.Prelude.{ℕ, zero, suc, ◌+◌, ◌≡◌, cond, eqb, ℤ, pos, neg_ℤ, ◌+ℤ◌}
use Rattle.algebra.specs.Rows.{state, phase}
use Rattle.algebra.specs.Modes.{Modes, lo, hi}

-- re + i im, with whole numbers re and im
pub record Gaussian : Type 0 where
  pub re : ℤ
  pub im : ℤ

-- 0: no amplitude
abbrev pub nothing : Gaussian
nothing = record { re = pos 0; im = pos 0 }

abbrev pub plus : Gaussian → Gaussian → Gaussian
plus a b = record { re = a.re +ℤ b.re; im = a.im +ℤ b.im }

-- i^k: one factor i more takes (re, im) to (-im, re)
abbrev pub power_of_i : ℕ → Gaussian
power_of_i zero = record { re = pos 1; im = pos 0 }
power_of_i (suc k) = record { re = neg_ℤ (power_of_i k).im; im = (power_of_i k).re }

-- the amplitude at the basis state t of i^k times the basis state u
abbrev pub amplitude : ℕ → ℕ → ℕ → Gaussian
amplitude k u t = cond (eqb u t) (power_of_i k) nothing

-- the amplitude at t of what γ_2i + i γ_2i+1 makes of s: two basis states, the second with one power of i more
unfoldable pub lowered : Modes → ℕ → ℕ → ℕ → Gaussian
lowered m i s t = plus (amplitude (phase (lo m i) s) (state (lo m i) s) t) (amplitude (phase (hi m i) s + 1) (state (hi m i) s) t)

-- every amplitude is zero. The operator is half of that sum, and half a number is zero exactly if the number is
abbrev pub Kills : Modes → ℕ → ℕ → Type 0
Kills m i s = (t : ℕ) → lowered m i s t ≡ nothing
