-- Steps of `add_row`: what is written and what is still to be written make the row of a slot.
use Prim.Native.Nat.{ℕ, zero, suc, ◌+◌, ◌-◌, ◌/◌, ◌%◌, ◌^◌, ◌<◌}
use native.Mathlib.Omega.{arith}
use mathlib.Core.Path.{◌≡◌, refl, sym, ap, ◌∙◌}
use mathlib.Core.Logic.{◌≢◌}
use mathlib.Core.List.{List}
use lib.ListN.{length}
use Rattle.std.specs.Prelude.{Some, None}
use Rattle.ternarytree.specs.declared.climbing.Way.{Way}
use lib.Bits.{bit_xor, xor_zero_r}
use Rattle.algebra.specs.Rows.{Row, identity}
use Rattle.algebra.proofs.Digits.{xor_assoc}
use Rattle.dense_block.specs.Words.{value}
use Rattle.dense_block.proofs.Values.{Words}
use Rattle.trees.specs.Trees.{Tree, up}
use Rattle.trees.specs.Paths.{join, letter_at, letter, above, row_at}
use Rattle.ternarytree.specs.Tables.{link_of, lettered, Added}
use Rattle.ternarytree.proofs.Codes.{link_none, link_some}
use Rattle.ternarytree.proofs.Flips.{value_flipped}

-- the row from letter l of node i up, with f steps left
pub row_up : Tree → ℕ → ℕ → ℕ → Row
row_up t f i l = join (letter_at l (2 ^ t.qubit i)) (above t f i)

-- the same with f letters left, at most
abbrev pub row_left : Tree → ℕ → ℕ → ℕ → Row
row_left t zero i l = identity
row_left t (suc f) i l = row_up t f i l

pub row_left_more : (t : Tree) (f g i l : ℕ) → f ≡ suc g → row_left t f i l ≡ row_up t g i l
row_left_more t f g i l e = rw e

pub row_left_none : (t : Tree) (f i l : ℕ) → f ≡ 0 → row_left t f i l ≡ identity
row_left_none t f i l e = rw e

-- what is written to vx and vz with phase p, and the row r that is still to be written, make the row of slot k
pub record Left (t : Tree) (k vx vz p : ℕ) (xs zs : List ℕ) (r : Row) : Type 0 where
  pub phase : (row_at t k).p ≡ (p + r.p) % 4
  pub x_part : bit_xor vx (row_at t k).x ≡ bit_xor (value xs) r.x
  pub z_part : bit_xor vz (row_at t k).z ≡ bit_xor (value zs) r.z

-- ---- letters

letter_p : (l b : ℕ) → (letter_at l 0).p ≡ (letter_at l b).p
letter_p zero b = refl
letter_p (suc zero) b = refl
letter_p (suc (suc l)) b = refl

pub letter_small : (l : ℕ) → (letter_at l 0).p < 2
letter_small zero = omega arith
letter_small (suc zero) = omega arith
letter_small (suc (suc l)) = omega arith

put_x : (l q : ℕ) (ws : List ℕ) → q / 64 < length ws → Words ws → value (lettered (letter_at l 1).x ws q) ≡ bit_xor (value ws) (letter_at l (2 ^ q)).x
put_x zero q ws h w = value_flipped ws q h w
put_x (suc zero) q ws h w = value_flipped ws q h w
put_x (suc (suc l)) q ws h w = sym (xor_zero_r (value ws))

put_z : (l q : ℕ) (ws : List ℕ) → q / 64 < length ws → Words ws → value (lettered (letter_at l 1).z ws q) ≡ bit_xor (value ws) (letter_at l (2 ^ q)).z
put_z zero q ws h w = sym (xor_zero_r (value ws))
put_z (suc zero) q ws h w = value_flipped ws q h w
put_z (suc (suc l)) q ws h w = value_flipped ws q h w

add_turns : (p a b : ℕ) → (p + (a + b) % 4) % 4 ≡ ((p + a) % 4 + b) % 4
add_turns p a b = omega arith

-- ---- turns of the loop

module _ (t : Tree) (k vx vz : ℕ) where
  pub left_start : (f : ℕ) (xs zs : List ℕ) → t.n ≡ f → value xs ≡ vx → value zs ≡ vz → Left t k vx vz 0 xs zs (row_up t f (k / 3) (k % 3))
  unfolding row_up row_at letter
  left_start f xs zs e ex ez = rw (← e) (record { phase = omega arith; x_part = rw ex; z_part = rw ez })

  -- letter l of node i is written
  pub left_letter : (i l f p y q : ℕ) (xs zs xs' zs' : List ℕ) → Left t k vx vz p xs zs (row_up t f i l) → t.qubit i ≡ q → y ≡ (letter_at l 0).p
      → q / 64 < length xs → q / 64 < length zs → Words xs → Words zs
      → xs' ≡ lettered (letter_at l 1).x xs q → zs' ≡ lettered (letter_at l 1).z zs q
      → Left t k vx vz ((p + y) % 4) xs' zs' (above t f i)
  unfolding row_up
  left_letter i l f p y q xs zs xs' zs' r eq ey hx hz wx wz ex ez = record {
    phase = r.phase ∙ rw (ey, letter_p l (2 ^ t.qubit i)) (add_turns p (letter_at l (2 ^ t.qubit i)).p (above t f i).p);
    x_part = r.x_part ∙ rw (ex, put_x l q xs hx wx, eq) (sym (xor_assoc (value xs) (letter_at l (2 ^ q)).x (above t f i).x));
    z_part = r.z_part ∙ rw (ez, put_z l q zs hz wz, eq) (sym (xor_assoc (value zs) (letter_at l (2 ^ q)).z (above t f i).z));
  }

  -- nothing is left to write
  pub left_none : (p : ℕ) (xs zs xs' zs' : List ℕ) (r : Row) → vx ≡ value xs → vz ≡ value zs → r ≡ identity → p < 4 → Left t k vx vz p xs' zs' r → Added t k p xs zs xs' zs'
  left_none p xs zs xs' zs' r ex ez e h l = record {
    phase = sym (l.phase ∙ rw e (omega arith));
    x_part = sym (rw (← ex) (l.x_part ∙ rw e (xor_zero_r (value xs'))));
    z_part = sym (rw (← ez) (l.z_part ∙ rw e (xor_zero_r (value zs'))));
  }

  pub left_step : (p : ℕ) (xs zs : List ℕ) (r r' : Row) → r ≡ r' → Left t k vx vz p xs zs r → Left t k vx vz p xs zs r'
  left_step p xs zs r r' e l = rw e at l

-- ---- what is above a node

pub above_stop : (t : Tree) (f i : ℕ) → link_of (up t i) ≡ None → above t f i ≡ identity
unfolding above
above_stop t zero i h = refl
above_stop t (suc f) i h = rw (link_none (up t i) h)

pub above_zero : (t : Tree) (f i : ℕ) → f ≡ 0 → above t f i ≡ identity
unfolding above
above_zero t zero i h = refl
above_zero t (suc f) i h = absurd (omega arith)

pub above_step : (t : Tree) (f i : ℕ) (w : Way) → link_of (up t i) ≡ Some w → f ≢ 0 → above t f i ≡ row_up t (f - 1) w.node w.letter
unfolding above row_up letter
above_step t zero i w h p = absurd (p refl)
above_step t (suc f) i w h p =
    let e : suc f - 1 ≡ f = omega arith in
    let (k, is, node, letter) = link_some (up t i) w h in
    rw (e, is, node, letter)

-- and after one letter more
pub above_left : (t : Tree) (f g i : ℕ) (w : Way) → g ≡ f → link_of (up t i) ≡ Some w → above t f i ≡ row_left t g w.node w.letter
unfolding above
above_left t f g i w e h = rw e (go f)
  where
    go : (f : ℕ) → above t f i ≡ row_left t f w.node w.letter
    go zero = refl
    go (suc f) = above_step t (suc f) i w h (λ z. omega arith) ∙ ap (λ (m : ℕ). row_up t m w.node w.letter) (omega arith)
