-- A row of a tree has no bit past the columns, and a phase below 4.
use Prim.Native.Nat.{ℕ, zero, suc, ◌*◌, ◌/◌, ◌%◌, ◌^◌, ◌<◌}
use native.Mathlib.Omega.{arith}
use mathlib.Core.Path.{◌≡◌, refl}
use lib.Bits.{xor_lt}
use lib.Pow.{pow_pos, pow-lt}
use Rattle.refusal.specs.Search.{Least, found, none}
use Rattle.algebra.specs.Rows.{Row, identity}
use Rattle.trees.specs.Trees.{onward, Tree, up}
use Rattle.trees.specs.Paths.{join, letter_at, letter, above, row_at}
use Rattle.trees.proofs.Sound.{parent_names}

pub record Within (q : ℕ) (r : Row) : Type 0 where
  pub p_low : r.p < 4
  pub x_low : r.x < 2 ^ q
  pub z_low : r.z < 2 ^ q

low_identity : (q : ℕ) → Within q identity
low_identity q = record { p_low = omega arith; x_low = pow_pos q; z_low = pow_pos q }

low_join : (q : ℕ) (r s : Row) → Within q r → Within q s → Within q (join r s)
low_join q r s a b = record { p_low = omega arith; x_low = xor_lt q r.x s.x a.x_low b.x_low; z_low = xor_lt q r.z s.z a.z_low b.z_low }

low_letter_at : (q l b : ℕ) → b < 2 ^ q → Within q (letter_at l b)
low_letter_at q zero b h = record { p_low = omega arith; x_low = h; z_low = pow_pos q }
low_letter_at q (suc zero) b h = record { p_low = omega arith; x_low = h; z_low = h }
low_letter_at q (suc (suc l)) b h = record { p_low = omega arith; x_low = pow_pos q; z_low = h }

module _ (t : Tree) (q : ℕ) (columns : (i : ℕ) → i < t.n → t.qubit i < q) where
  low_letter : (k : ℕ) → k < 3 * t.n → Within q (letter t k)
  unfolding letter
  low_letter k h = low_letter_at q (k % 3) (2 ^ t.qubit (k / 3)) (pow-lt (columns (k / 3) (omega arith)))

  low_above : (f i : ℕ) → Within q (above t f i)
  unfolding above
  low_above zero i = low_identity q
  low_above (suc f) i = go (up t i) refl (λ k. low_above f (k / 3))
    where
      go : (o : Least) → up t i ≡ o → ((k : ℕ) → Within q (above t f (k / 3))) → Within q (onward o identity (λ k. join (letter t k) (above t f (k / 3))))
      go (found k) e rest = low_join q (letter t k) (above t f (k / 3)) (low_letter k (parent_names t _ _ k e).0) (rest k)
      go none e rest = low_identity q

  pub low_row : (k : ℕ) → k < 3 * t.n → Within q (row_at t k)
  unfolding row_at
  low_row k h = low_join q (letter t k) (above t t.n (k / 3)) (low_letter k h) (low_above t.n (k / 3))
