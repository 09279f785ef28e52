-- What mode i reads is dual to what mode j flips: rows 2j and 2i, and rows 2j and 2i + 1, anticommute, and mode i has one X part.
use Prim.Native.Nat.{ℕ, ◌+◌, ◌*◌, ◌/◌, ◌%◌, ◌≤◌, ◌<◌}
use native.Mathlib.Omega.{arith}
use mathlib.Core.Path.{◌≡◌, ◌∙◌, sym}
use mathlib.Core.Logic.{◌≢◌}
use mathlib.Core.Bool.{true}
use borrow.Author.Tests.{eqb-true, eq-eqb}
use lib.Dec.{eqb}
use Rattle.refusal.proofs.Bools.{and_left, and_right, both}
use Rattle.refusal.proofs.Searches.{all_at, all_of}
use Rattle.algebra.specs.Rows.{bit, dot}
use Rattle.algebra.specs.Modes.{Modes, lo, hi, c, e, d, paired, empty, vacuum_rule, Majorana}
use Rattle.algebra.specs.Choices.{combo}
use Rattle.algebra.proofs.Dots.{dot_comm, dot_xor_l}
use Rattle.algebra.proofs.RowLaws.{clash_dot}
use Rattle.algebra.proofs.ChoiceLaws.{combo_unread, combo_read}

-- ---- the vacuum rule, mode by mode

module _ (m : Modes) (v : ℕ) where
  pub all_empty : vacuum_rule m v ≡ true → (i : ℕ) → i < m.n → empty m i v ≡ true
  unfolding vacuum_rule
  all_empty h = all_at m.n (λ i. empty m i v) h

  pub is_paired : vacuum_rule m v ≡ true → (i : ℕ) → i < m.n → paired m i ≡ true
  unfolding empty
  is_paired h i l = and_left (paired m i) (eqb (dot (e m i) v) (d m i / 2)) (all_empty h i l)

  pub reads_vacuum : vacuum_rule m v ≡ true → (i : ℕ) → i < m.n → dot (e m i) v ≡ d m i / 2
  unfolding empty
  reads_vacuum h i l = eqb-true (dot (e m i) v) (d m i / 2) (and_right (paired m i) (eqb (dot (e m i) v) (d m i / 2)) (all_empty h i l))

  pub vacuum_of_lem : ((i : ℕ) → i < m.n → paired m i ≡ true) → ((i : ℕ) → i < m.n → dot (e m i) v ≡ d m i / 2) → vacuum_rule m v ≡ true
  unfolding vacuum_rule empty
  vacuum_of_lem h k = all_of m.n (λ i. empty m i v) (λ i l. both (h i l) (eq-eqb (dot (e m i) v) (d m i / 2) (k i l)))

-- a mode that has the rows of another is empty in the same states
pub empty_same : (m o : Modes) (i j s : ℕ) → lo m i ≡ lo o j → hi m i ≡ hi o j → empty m i s ≡ empty o j s
unfolding empty paired e d
empty_same m o i j s a b = rw (a, b)

-- X parts agree
pub agree : (m : Modes) (i : ℕ) → paired m i ≡ true → (lo m i).x ≡ (hi m i).x
unfolding paired
agree m i h = eqb-true (lo m i).x (hi m i).x (and_left (eqb (lo m i).x (hi m i).x) (eqb (d m i % 2) 0) h)

-- ---- e and c are dual

module _ (m : Modes) (maj : Majorana m) (pairs : (i : ℕ) → i < m.n → paired m i ≡ true) where
  -- whether row j anticommutes with row 2i + 1, by the X part of row 2i
  with_hi : (i j : ℕ) → i < m.n → j < 2 * m.n → j ≢ 2 * i + 1 → (dot (m.row j).x (hi m i).z + dot (m.row j).z (c m i)) % 2 ≡ 1
  unfolding Majorana
  with_hi i j h k ne =
      rw (agree m i (pairs i h)) (sym (clash_dot (m.row j) (hi m i)) ∙ maj j (2 * i + 1) k (omega arith) ne)

  pub dual_same : (i : ℕ) → i < m.n → dot (e m i) (c m i) ≡ 1
  unfolding e
  dual_same i h =
      rw (dot_xor_l, dot_comm (hi m i).z (c m i)) (omega (arith, with_hi i (2 * i) h (omega arith) (omega arith)))

  pub dual_other : (i j : ℕ) → i < m.n → j < m.n → i ≢ j → dot (e m i) (c m j) ≡ 0
  unfolding Majorana e
  dual_other i j h k ne =
      let a = sym (clash_dot (lo m j) (lo m i)) ∙ maj (2 * j) (2 * i) (omega arith) (omega arith) (omega arith) in
      let b = with_hi i (2 * j) h (omega arith) (omega arith) in
      rw (dot_xor_l, dot_comm (lo m i).z (c m j), dot_comm (hi m i).z (c m j)) (omega (arith, a, b))

  -- mode i reads nothing of what the modes below k ≤ i flip, and whether it is occupied itself
  pub reads_none : (l i k : ℕ) → i < m.n → k ≤ i → dot (e m i) (combo (c m) k l) ≡ 0
  reads_none l i k h g = combo_unread (e m i) (c m) l k (λ j a. dual_other i j h (omega arith) (omega arith))

  pub reads_own : (l i k : ℕ) → i < k → k ≤ m.n → dot (e m i) (combo (c m) k l) ≡ bit l i
  reads_own l i k h g = combo_read (e m i) (c m) l k i h (dual_same i (omega arith)) (λ j a ne. dual_other i j (omega arith) (omega arith) ne)
