-- What an enumeration that is done means in the algebra: new mode i has the old rows of mode map[i], each old mode is one of the new ones, the vacuum is the same string, and
-- what held of the old set holds of the new one. So it passes the row check, and demand 3 holds of it. Where it is refused by 10, the pair is that of the row check: the first two
-- rows that commute.
use Prim.Native.Nat.{ℕ, ◌+◌, ◌*◌, ◌/◌, ◌≤◌, ◌<◌}
use native.Mathlib.Decide.{dec_lt}
use native.Mathlib.Omega.{arith}
use mathlib.Core.Path.{◌≡◌, refl, sym, ap, ◌∙◌}
use mathlib.Core.List.{List, [], ◌∷◌}
use mathlib.Core.Bool.{Bool, true, false, not}
use borrow.Author.Tests.{eqb-true, not-false}
use lib.Dec.{eqb}
use lib.ListN.{length, get_or, take, drop, length-append}
use lib.Seq.{length-take-le, take_at}
use Rattle.refusal.specs.declared.Refusal.TheVariants.{Commuting}
use Rattle.std.specs.Prelude.{Ok, Err}
use Rattle.refusal.specs.Numbers.{Paper, bare}
use Rattle.refusal.specs.Search.{Pair}
use Rattle.refusal.specs.Table.{◌gives◌, ◌names◌, first_of, ◌of◌, short}
use Rattle.refusal.proofs.Bools.{or_left, or_right}
use Rattle.refusal.proofs.Rooms.{long_enough}
use Rattle.refusal.proofs.Searches.{some_at, none_at, none_of, all_at, all_of}
use Rattle.algebra.specs.Modes.{lo, hi, empty, vacuum_rule, Majorana, commuting_pair}
use Rattle.algebra.specs.Choices.{dependent}
use Rattle.algebra.specs.Faithful.{Faithful}
use Rattle.algebra.proofs.Duals.{empty_same}
use Rattle.algebra.proofs.Pairs.{commuting_none}
use Rattle.algebra.proofs.Independence.{anticommuting_independent}
use Rattle.dense_block.specs.Words.{value, strays, term_of}
use Rattle.majorana.specs.Sets.{Set, given, width, modes, trimmed, bits, bad_size, set_lent, bad_row_at, bad_rows, bad_set}
use Rattle.majorana.specs.Checks.{vacuum_bad, check_room, rows_short, rows_checked}
use Rattle.majorana.specs.Findings.{FirstCommuting}
use Rattle.majorana.specs.Accepted.{Sound}
use Rattle.majorana.proofs.Theorems.{checked_sound, faithful}
use Rattle.majorana.proofs.FindingTheorems.{commuting_first, pair_named, without_none}
use Rattle.enumeration.specs.Orders.{among, permutation, old_row, enumerated_words, enumerated_phases}
use Rattle.enumeration.specs.Enumerations.{Outs, enumeration_short, enumeration_bad, enumeration_checked, new_words, new_phases, same_vacuum, Enumerated}
use Rattle.enumeration.specs.Lent.{Maps, Held}
use Rattle.enumeration.proofs.OrderLaws.{numbers_differ, old_row_even, old_row_odd, old_row_low, length_enumerated, length_phases, term_enumerated, phase_enumerated, row_enumerated}
use Rattle.enumeration.proofs.Permutations.{permutation_all}
use Rattle.enumeration.proofs.EnumerationAnswers.{lengths, maps, row_check}

-- two rows of the new order that are one row of the old are one row
pub old_row_apart : (n : ℕ) (ms : List ℕ) → permutation n ms ≡ true → (j k : ℕ) → j < 2 * n → k < 2 * n → old_row ms j ≡ old_row ms k → j ≡ k
old_row_apart n ms h j k a b q = go (dec_lt (j / 2) (k / 2)) (dec_lt (k / 2) (j / 2))
  where
    same : get_or ms (j / 2) 0 ≡ get_or ms (k / 2) 0
    same = omega arith

    go : Dec (j / 2 < k / 2) → Dec (k / 2 < j / 2) → j ≡ k
    go (yes u) v = absurd (numbers_differ n ms h (k / 2) (j / 2) (omega arith) u same)
    go (no u) (yes v) = absurd (numbers_differ n ms h (j / 2) (k / 2) (omega arith) v (sym same))
    go (no u) (no v) = omega (arith, u, v)

module _ (s : Set) (vs ms : List ℕ) (old new : Outs) (h : Enumerated s vs ms old (Ok tt) new) where
  -- the set that is written
  abbrev pub written : Set
  written = given s.n s.q new.xs new.zs new.ps

  -- ---- no test refused

  passed : (bad_size s.n s.q ≡ false) × (enumeration_short s vs ms old ≡ false) × (enumeration_bad s vs ms ≡ false)
  unfolding enumeration_checked
  passed =
      go (bad_size s.n s.q) (enumeration_short s vs ms old) (enumeration_bad s vs ms) (commuting_pair (modes s)) (dependent (modes s)) (vacuum_rule (modes s) (bits s.q vs))
      (ap (λ (p : Paper). p.number) (sym h.answer))
    where
      go : (size short bad : Bool) (commute : Pair) (dep rule : Bool)
          → (first_of ((size gives 1) ∷ (short gives 2) ∷ (bad gives 17) ∷ (commute names 10) ∷ (dep gives 11) ∷ (not rule gives 13) ∷ [])).number ≡ 0
          → (size ≡ false) × (short ≡ false) × (bad ≡ false)
      go true short bad commute dep rule h = absurd (omega arith)
      go false true bad commute dep rule h = absurd (omega arith)
      go false false true commute dep rule h = absurd (omega arith)
      go false false false commute dep rule h = (refl, refl, refl)

  held : Held s vs ms old
  held = record { size = passed.0; long = passed.1 }

  pub map_permutes : permutation s.n ms ≡ true
  unfolding enumeration_bad
  map_permutes = not-false (permutation s.n ms) (or_right (vacuum_bad s vs) (not (permutation s.n ms)) passed.2)

  pub old_sound : Sound s vs
  old_sound = checked_sound s vs old.room (sym (row_check s vs ms old held map_permutes) ∙ sym h.answer)

  -- ---- what was written

  mapped : Maps s.n ms
  mapped = maps s vs ms old held map_permutes

  new_x : new.xs ≡ new_words s ms s.xs old.xs
  new_x = rw (← h.answer) at h.x_rows

  new_z : new.zs ≡ new_words s ms s.zs old.zs
  new_z = rw (← h.answer) at h.z_rows

  new_p : new.ps ≡ new_phases s ms old.ps
  new_p = rw (← h.answer) at h.phases

  new_v : new.vs ≡ same_vacuum s vs old.vs
  new_v = rw (← h.answer) at h.vacuum

  same_words : trimmed s.q new.vs ≡ trimmed s.q vs
  same_words = ap (take (width s)) new_v ∙ take_at (take (width s) vs) (drop (width s) old.vs) (width s) (length-take-le (width s) vs (lengths s vs ms old held).vacuum)

  -- the same vacuum
  pub same_vacuum_lem : bits s.q new.vs ≡ bits s.q vs
  same_vacuum_lem = ap value same_words

  -- new row k is the old row
  pub new_row : (k : ℕ) → k < 2 * s.n → (modes written).row k ≡ (modes s).row (old_row ms k)
  new_row k low = rw (new_x, new_z, new_p) (row_enumerated mapped (lengths s vs ms old held).read k low (drop (2 * s.n * width s) old.xs) (drop (2 * s.n * width s) old.zs) (drop (2 * s.n) old.ps))

  -- new mode i has the old rows of mode map[i]
  pub new_mode : (i : ℕ) → i < s.n → (lo (modes written) i ≡ lo (modes s) (get_or ms i 0)) × (hi (modes written) i ≡ hi (modes s) (get_or ms i 0))
  new_mode i low =
      (new_row (2 * i) (omega arith) ∙ ap (modes s).row (old_row_even ms i), new_row (2 * i + 1) (omega arith) ∙ ap (modes s).row (old_row_odd ms i))

  -- and each old mode is one of the new ones
  pub no_mode_lost : (j : ℕ) → j < s.n → (i : ℕ) × (i < s.n) × (get_or ms i 0 ≡ j)
  unfolding among
  no_mode_lost j low =
      let r = some_at s.n (λ i. eqb (get_or ms i 0) j) (permutation_all s.n ms map_permutes j low) in
      (r.0, r.1, eqb-true (get_or ms r.0 0) j r.2)

  -- new mode i is empty in the states in which old mode map[i] is
  pub new_empty : (i v : ℕ) → i < s.n → empty (modes written) i v ≡ empty (modes s) (get_or ms i 0) v
  new_empty i v low = let r = new_mode i low in empty_same (modes written) (modes s) i (get_or ms i 0) v r.0 r.1

  -- ---- the set that is written is sound

  row_good : (k : ℕ) → k < 2 * s.n → bad_row_at s.q (width s) new.xs new.zs new.ps k ≡ false
  unfolding bad_row_at bad_rows vacuum_bad
  row_good k low =
      let f = (lengths s vs ms old held).read in
      let x = ap (λ (l : List ℕ). term_of (width s) l k) new_x ∙ term_enumerated s.n (width s) ms mapped s.xs f.x_rows k low (drop (2 * s.n * width s) old.xs) in
      let z = ap (λ (l : List ℕ). term_of (width s) l k) new_z ∙ term_enumerated s.n (width s) ms mapped s.zs f.z_rows k low (drop (2 * s.n * width s) old.zs) in
      let p = ap (λ (l : List ℕ). get_or l k 0) new_p ∙ phase_enumerated s.n ms s.ps k low (drop (2 * s.n) old.ps) in
      let good = or_left (bad_set s) (strays (trimmed s.q vs) s.q) old_sound.good in
      rw (p, x, z) (none_at (2 * s.n) (bad_row_at s.q (width s) s.xs s.zs s.ps) good (old_row ms k) (old_row_low mapped k low))

  new_good : vacuum_bad written new.vs ≡ false
  unfolding vacuum_bad bad_rows
  new_good =
      let rows : bad_set written ≡ false = none_of (2 * s.n) (bad_row_at s.q (width s) new.xs new.zs new.ps) row_good in
      let plain = or_right (bad_set s) (strays (trimmed s.q vs) s.q) old_sound.good in
      rw (rows, same_words, plain)

  new_majorana : Majorana (modes written)
  unfolding Majorana
  new_majorana j k a b apart =
      rw (new_row j a, new_row k b) (old_sound.rows (old_row ms j) (old_row ms k) (old_row_low mapped j a) (old_row_low mapped k b) (λ q. apart (old_row_apart s.n ms map_permutes j k a b q)))

  new_vacuum : vacuum_rule (modes written) (bits s.q new.vs) ≡ true
  unfolding vacuum_rule
  new_vacuum =
      rw same_vacuum_lem (all_of s.n (λ i. empty (modes written) i (bits s.q vs)) (λ i low.
      new_empty i (bits s.q vs) low ∙ all_at s.n (λ i. empty (modes s) i (bits s.q vs)) old_sound.vacuum (get_or ms i 0) (mapped.within i low)))

  pub new_sound : Sound written new.vs
  new_sound = record { size = passed.0; good = new_good; rows = new_majorana; vacuum = new_vacuum }

  -- so that demand 3 holds of it
  pub new_faithful : Faithful (modes written) (bits s.q new.vs)
  new_faithful = faithful written new.vs new_sound

  -- and it passes the row check
  pub new_checked_lem : (room : List ℕ) → check_room s ≤ length room → rows_checked written new.vs room ≡ bare 0
  unfolding rows_checked rows_short
  new_checked_lem room enough =
      rw (passed.0, long, new_good, commuting_none (modes written) new_majorana, anticommuting_independent (modes written) new_majorana, new_vacuum)
    where
      words : (xs rest ys : List ℕ) → 2 * s.n * width s ≤ length xs → ys ≡ new_words s ms xs rest → 2 * s.n * width s ≤ length ys
      words xs rest ys l q = omega (arith, ap length q, length-append (enumerated_words (width s) s.n ms xs) (drop (2 * s.n * width s) rest), length_enumerated s.n (width s) ms mapped xs l)

      phases : 2 * s.n ≤ length new.ps
      phases = omega (arith, ap length new_p, length-append (enumerated_phases s.n ms s.ps) (drop (2 * s.n) old.ps), length_phases s.n ms s.ps)

      vacuum : width s ≤ length new.vs
      vacuum = omega (arith, ap length new_v, length-append (take (width s) vs) (drop (width s) old.vs), length-take-le (width s) vs (lengths s vs ms old held).vacuum)

      long : short (set_lent s.n (width s) (length new.xs) (length new.zs) (length new.ps) ((width s of length new.vs) ∷ (check_room s of length room) ∷ [])) ≡ false
      long = let f = (lengths s vs ms old held).read in
          long_enough (set_lent s.n (width s) (length new.xs) (length new.zs) (length new.ps) ((width s of length new.vs) ∷ (check_room s of length room) ∷ []))
          (words s.xs old.xs new.xs f.x_rows new_x, (words s.zs old.zs new.zs f.z_rows new_z, (phases, (vacuum, (enough, tt)))))

-- ---- refused by 10

pub enumeration_pair : (i j : ℕ) (s : Set) (vs ms : List ℕ) (old new : Outs) → Enumerated s vs ms old (Err (Commuting i j)) new → FirstCommuting (modes s) i j
unfolding enumeration_checked
enumeration_pair i j s vs ms old new h =
    let m = modes s in
    commuting_first m i j
    (pair_named i j (bad_size s.n s.q) (enumeration_short s vs ms old) (enumeration_bad s vs ms) false (commuting_pair m) (dependent m) (vacuum_rule m (bits s.q vs))
    (h.answer ∙ without_none (bad_size s.n s.q) (enumeration_short s vs ms old) (enumeration_bad s vs ms) _))
