-- The tables that a text's entries are put into hold its flatpack: number by number, and so at every node and slot.
use Prim.Native.Nat.{ℕ, zero, suc, ◌+◌, ◌-◌, ◌*◌, ◌/◌, ◌%◌, ◌≤◌, ◌<◌}
use native.Mathlib.Omega.{arith}
use mathlib.Core.Path.{◌≡◌, refl, sym, ap, ◌∙◌}
use mathlib.Core.List.{List, [], ◌∷◌}
use mathlib.Core.Bool.{Bool, true, false, cond, not}
use lib.Dec.{eqb, ltb}
use lib.ListN.{length, get_or, set, replicate, length-replicate, get_or-eq_default}
use lib.Seq.{get_or-set_same, get_or-set_other}
use borrow.Author.Tests.{eqb-true, eqb-false, ltb-true, ltb-false, ne_eqb, eq-eqb}
use Rattle.dense_block.specs.Words.{copied}
use Rattle.std.specs.Prelude.{Some, None}
use Rattle.tree_sizes.specs.Sizes.{qubit_at}
use Rattle.ternarytree.specs.Building.{slot_at}
use Rattle.flatpack_text.specs.Text.{Slot, empty, numbered, Entry}
use Rattle.flatpack_text.specs.Machine.{slot_number, numbers_of}
use Rattle.flatpack_text.specs.Entries.{placed, plain_at, filled_at}
use Rattle.report.specs.Output.{blank_entry, entry_at, slot_in, flat_slot, pack}
use Rattle.flatpack_text.proofs.Tables.{length_numbers}
use Rattle.flatpack_text.proofs.Placing.{length_placed}

-- ---- what was placed

pub placed_in : {A : Type 0} (f : ℕ → A) (n : ℕ) (d : List A) (k : ℕ) (z : A) → k < n → n ≤ length d → get_or (placed f n d) k z ≡ f k
placed_in f zero d k z h l = absurd (omega arith)
placed_in f (suc n) d k z h l = go (eqb k n) refl (λ m. placed_in f n d k z m (omega arith))
  where
    go : (b : Bool) → eqb k n ≡ b → (k < n → get_or (placed f n d) k z ≡ f k) → get_or (set (placed f n d) n (f n)) k z ≡ f k
    go true e before = let s = eqb-true k n e in rw s (get_or-set_same (placed f n d) n (f n) z (omega (arith, length_placed f n d)))
    go false e before =
        let s : k ≡ n → ⊥ = eqb-false k n e in
        get_or-set_other (placed f n d) n k (f n) z s ∙ before (omega arith)

pub placed_past : {A : Type 0} (f : ℕ → A) (n : ℕ) (d : List A) (k : ℕ) (z : A) → n ≤ k → get_or (placed f n d) k z ≡ get_or d k z
placed_past f zero d k z h = refl
placed_past f (suc n) d k z h =
    let s : k ≡ n → ⊥ = λ e. omega arith in
    get_or-set_other (placed f n d) n k (f n) z s ∙ placed_past f n d k z (omega arith)

-- a blank table
pub blank_at : {A : Type 0} (n k : ℕ) (z : A) → get_or (replicate n z) k z ≡ z
blank_at zero k z = refl
blank_at (suc n) zero z = refl
blank_at (suc n) (suc k) z = blank_at n k z

-- ---- what the reader's table holds

copied_at : (d ss : List ℕ) (k : ℕ) → k < length ss → length ss ≤ length d → get_or (copied d ss) k 0 ≡ get_or ss k 0
copied_at [] ss k h l = absurd (omega arith)
copied_at (a ∷ d) [] k h l = absurd (omega arith)
copied_at (a ∷ d) (s ∷ ss) zero h l = refl
copied_at (a ∷ d) (s ∷ ss) (suc k) h l = copied_at d ss k (omega arith) (omega arith)

four_more : (i j : ℕ) → 4 * suc i + j ≡ suc (suc (suc (suc (4 * i + j))))
four_more i j = omega arith

pub qubit_number : (es : List Entry) (i : ℕ) → get_or (numbers_of es) (4 * i) 0 ≡ (entry_at es i).qubit
qubit_number [] i = refl
qubit_number (e ∷ es) zero = refl
qubit_number (e ∷ es) (suc i) = let h : 4 * suc i ≡ suc (suc (suc (suc (4 * i)))) = omega arith in rw h (qubit_number es i)

pub slot_number_lem : (es : List Entry) (i l : ℕ) → l < 3 → get_or (numbers_of es) (4 * i + l + 1) 0 ≡ slot_number (slot_in (entry_at es i) l)
slot_number_lem [] i zero h = refl
slot_number_lem [] i (suc zero) h = refl
slot_number_lem [] i (suc (suc l)) h = refl
slot_number_lem (e ∷ es) zero zero h = refl
slot_number_lem (e ∷ es) zero (suc zero) h = refl
slot_number_lem (e ∷ es) zero (suc (suc zero)) h = refl
slot_number_lem (e ∷ es) zero (suc (suc (suc l))) h = absurd (omega arith)
slot_number_lem (e ∷ es) (suc i) l h = let g : 4 * suc i + l + 1 ≡ suc (suc (suc (suc (4 * i + l + 1)))) = omega arith in rw g (slot_number_lem es i l h)

-- ---- the entries of a text of at most 256, in the tables that a tree is built from

module _ (es : List Entry) (d table : List ℕ) (few : length es ≤ 256) (room : 1024 ≤ length d) (holds : table ≡ copied d (numbers_of es)) where
  -- number k of the table, of the entries' own numbers
  pub table_at : (k : ℕ) → k < 4 * length es → get_or table k 0 ≡ get_or (numbers_of es) k 0
  table_at k h = ap (λ (l : List ℕ). get_or l k 0) holds ∙ copied_at d (numbers_of es) k (omega (arith, length_numbers es)) (omega (arith, length_numbers es))

  abbrev pub plain : List ℕ
  plain = placed (plain_at table) (4 * length es) (replicate 1024 0)

  abbrev pub full : List Bool
  full = placed (filled_at table) (3 * length es) (replicate 768 false)

  pub plain_long : length plain ≡ 1024
  plain_long = length_placed (plain_at table) (4 * length es) (replicate 1024 0) ∙ length-replicate {A = ℕ} 1024 0

  pub full_long : length full ≡ 768
  full_long = length_placed (filled_at table) (3 * length es) (replicate 768 false) ∙ length-replicate 768 false

  pub qubit_same : (j : ℕ) → qubit_at plain j ≡ (pack es).qubit j
  unfolding plain_at
  qubit_same j = go (ltb j (length es)) refl
    where
      go : (b : Bool) → ltb j (length es) ≡ b → qubit_at plain j ≡ (entry_at es j).qubit
      go true e =
          let h = ltb-true j (length es) e in
          let z : 4 * j % 4 ≡ 0 = omega arith in
          placed_in (plain_at table) (4 * length es) (replicate 1024 0) (4 * j) 0 (omega arith) (omega (arith, length-replicate {A = ℕ} 1024 0))
          ∙ rw (eq-eqb (4 * j % 4) 0 z) (table_at (4 * j) (omega arith) ∙ qubit_number es j)
      go false e =
          let h = ltb-false j (length es) e in
          placed_past (plain_at table) (4 * length es) (replicate 1024 0) (4 * j) 0 (omega arith) ∙ blank_at 1024 (4 * j) 0
          ∙ sym (ap (λ (e : Entry). e.qubit) (get_or-eq_default es blank_entry h))

  pub slot_same : (k : ℕ) → slot_at plain full k ≡ (pack es).slot k
  unfolding plain_at filled_at
  slot_same k = go (ltb k (3 * length es)) refl
    where
      a : ℕ
      a = 4 * (k / 3) + k % 3 + 1

      by_slot : (s : Slot) {v : ℕ} → v ≡ slot_number s → cond (not (eqb v 0)) (Some (v - 1)) None ≡ flat_slot s
      by_slot empty h = rw h
      by_slot (numbered n) h =
          let z : n + 1 ≡ 0 → ⊥ = λ e. omega arith in
          let m : n + 1 - 1 ≡ n = omega arith in
          rw (h, ne_eqb (n + 1) 0 z, m)

      none_left : (l : ℕ) → flat_slot (slot_in blank_entry l) ≡ None
      none_left zero = refl
      none_left (suc zero) = refl
      none_left (suc (suc l)) = refl

      go : (b : Bool) → ltb k (3 * length es) ≡ b → slot_at plain full k ≡ flat_slot (slot_in (entry_at es (k / 3)) (k % 3))
      go true e =
          let h = ltb-true k (3 * length es) e in
          let z : a % 4 ≡ 0 → ⊥ = λ e. omega arith in
          let f : get_or full k false ≡ not (eqb (get_or table a 0) 0) = placed_in (filled_at table) (3 * length es) (replicate 768 false) k false h (omega (arith, length-replicate 768 false)) in
          let p : get_or plain a 0 ≡ get_or table a 0 - 1 =
          placed_in (plain_at table) (4 * length es) (replicate 1024 0) a 0 (omega arith) (omega (arith, length-replicate {A = ℕ} 1024 0)) ∙ rw (ne_eqb (a % 4) 0 z) in
          rw (f, p) (by_slot (slot_in (entry_at es (k / 3)) (k % 3)) (table_at a (omega arith) ∙ slot_number_lem es (k / 3) (k % 3) (omega arith)))
      go false e =
          let h = ltb-false k (3 * length es) e in
          let f : get_or full k false ≡ false = placed_past (filled_at table) (3 * length es) (replicate 768 false) k false h ∙ blank_at 768 k false in
          let m : entry_at es (k / 3) ≡ blank_entry = get_or-eq_default es blank_entry (omega arith) in
          rw (f, m) (sym (none_left (k % 3)))
