-- Mode enumeration: which test refuses, what it leaves, and one outcome. Past the map's own test the table is that of the row check.
use Prim.Native.Nat.{ℕ, zero, suc, ◌≤◌}
use mathlib.Core.Path.{◌≡◌, refl, sym, ap, ◌∙◌}
use mathlib.Core.List.{List, [], ◌∷◌}
use mathlib.Core.Bool.{Bool, true, false, ◌||◌}
use lib.ListN.{length}
use Rattle.refusal.specs.declared.Refusal.{Refusal}
use Rattle.refusal.specs.declared.Refusal.TheVariants.{Size, Short, Value}
use Rattle.std.specs.Prelude.{Ok, Err}
use Rattle.refusal.specs.Numbers.{Paper, Answer, bare, paper}
use Rattle.refusal.specs.Table.{Lent, ◌of◌, short, if_zero, on_done, past_two}
use Rattle.refusal.proofs.Bools.{or_false}
use Rattle.refusal.proofs.Outcome.{one_outcome, answered_injective, refused_number}
use Rattle.refusal.proofs.Rooms.{long_enough}
use Rattle.dense_block.specs.Words.{zeroed}
use Rattle.majorana.specs.Sets.{Set, width, bad_size, set_lent}
use Rattle.majorana.specs.Held.{Fits}
use Rattle.majorana.specs.Checks.{vacuum_bad, check_room, rows_short, rows_checked, RowsChecked}
use Rattle.majorana.proofs.SetLaws.{in_size, few_words, held_in}
use Rattle.enumeration.specs.Orders.{permutation}
use Rattle.enumeration.specs.Enumerations.{Outs, outs, enumeration_short, enumeration_bad, enumeration_checked, Enumerated}
use Rattle.enumeration.specs.Lent.{Maps, Held, Wrote}
use Rattle.enumeration.proofs.OrderLaws.{maps_of}

-- an output of a refused call
refused_stays : (why : Refusal) (p : Paper) (new old : List ℕ) → paper why ≡ p → old ≡ on_done p new old
refused_stays why p new old e = go p.number (λ z. refused_number why (ap (λ (p : Paper). p.number) e ∙ z))
  where
    go : (k : ℕ) → (k ≡ 0 → ⊥) → old ≡ if_zero k new old
    go zero h = absurd (h refl)
    go (suc k) h = refl

-- what 1 and 2 leave known of the ten slices
pub record Lengths (s : Set) (vs ms : List ℕ) (o : Outs) : Type 0 where
  pub modes : s.n ≤ 256
  pub words : width s ≤ 4
  pub read : Fits s.n (width s) s.xs s.zs s.ps
  pub written : Fits s.n (width s) o.xs o.zs o.ps
  pub vacuum : width s ≤ length vs
  pub map : s.n ≤ length ms
  pub new_vacuum : width s ≤ length o.vs
  pub room : check_room s ≤ length o.room

module _ (s : Set) (vs ms : List ℕ) (old : Outs) where
  pub enumerated_size : bad_size s.n s.q ≡ true → Enumerated s vs ms old (Err Size) old
  unfolding enumeration_checked
  enumerated_size h = record { answer = rw h; x_rows = rw h; z_rows = rw h; phases = rw h; vacuum = rw h; left = rw h }

  pub enumerated_short : bad_size s.n s.q ≡ false → enumeration_short s vs ms old ≡ true → Enumerated s vs ms old (Err Short) old
  unfolding enumeration_checked
  enumerated_short h k = record { answer = rw (h, k); x_rows = rw (h, k); z_rows = rw (h, k); phases = rw (h, k); vacuum = rw (h, k); left = rw (h, k) }

  module _ (held : Held s vs ms old) where
    pub lengths : Lengths s vs ms old
    unfolding enumeration_short
    lengths =
        let size = in_size s.n s.q held.size in
        let few = few_words s.q size.qubits_high in
        let r = held_in s.n (width s) s.xs s.zs s.ps others size.modes_high few held.long in
        let o = r.1.1.1 in
        record {
          modes = size.modes_high;
          words = few;
          read = r.0;
          written = record { modes = size.modes_high; words = few; x_rows = o.0; z_rows = o.1.0; p_rows = o.1.1.0 };
          vacuum = r.1.0;
          map = r.1.1.0;
          new_vacuum = o.1.1.1.0;
          room = o.1.1.1.1.0;
        }
      where
        others : List Lent
        others = (width s of length vs) ∷ (s.n of length ms) ∷ set_lent s.n (width s) (length old.xs) (length old.zs) (length old.ps) ((width s of length old.vs) ∷ (check_room s of length old.room) ∷ [])

    -- the map decides
    pub enumerated_map : permutation s.n ms ≡ false → (room : List ℕ) → room ≡ zeroed (check_room s) old.room
        → Enumerated s vs ms old (Err Value) (outs old.xs old.zs old.ps old.vs room)
    unfolding enumeration_checked enumeration_bad
    enumerated_map h room e = record {
      answer = sym table;
      x_rows = rw table;
      z_rows = rw table;
      phases = rw table;
      vacuum = rw table;
      left = e ∙ sym (ap (λ (p : Paper). past_two p (zeroed (check_room s) old.room) old.room) table);
    }
      where
        bad : (b : Bool) → (b || true) ≡ true
        bad true = refl
        bad false = refl

        table : enumeration_checked s vs ms old ≡ bare 17
        table = rw (held.size, held.long, h, bad (vacuum_bad s vs))

    module _ (good : permutation s.n ms ≡ true) where
      pub maps : Maps s.n ms
      maps = maps_of s.n ms good lengths.modes lengths.map

      -- what is left is the row check
      pub row_check : enumeration_checked s vs ms old ≡ rows_checked s vs old.room
      unfolding enumeration_checked enumeration_bad rows_checked rows_short
      row_check = rw (held.size, held.long, good, or_false (vacuum_bad s vs), rows_long)
        where
          rows_long : short (set_lent s.n (width s) (length s.xs) (length s.zs) (length s.ps) ((width s of length vs) ∷ (check_room s of length old.room) ∷ [])) ≡ false
          rows_long = long_enough (set_lent s.n (width s) (length s.xs) (length s.zs) (length s.ps) ((width s of length vs) ∷ (check_room s of length old.room) ∷ [])) (lengths.read.x_rows, (lengths.read.z_rows, (lengths.read.p_rows, (lengths.vacuum, (lengths.room, tt)))))

      pub enumerated_refused : (why : Refusal) (room : List ℕ) → RowsChecked s vs old.room (Err why) room
          → Enumerated s vs ms old (Err why) (outs old.xs old.zs old.ps old.vs room)
      enumerated_refused why room h =
          let answer : paper why ≡ enumeration_checked s vs ms old = h.answer ∙ sym row_check in
          record {
            answer = answer;
            x_rows = refused_stays why (enumeration_checked s vs ms old) _ old.xs answer;
            z_rows = refused_stays why (enumeration_checked s vs ms old) _ old.zs answer;
            phases = refused_stays why (enumeration_checked s vs ms old) _ old.ps answer;
            vacuum = refused_stays why (enumeration_checked s vs ms old) _ old.vs answer;
            left = rw row_check h.left;
          }

      pub enumerated_done : (xs zs ps ws room : List ℕ) → RowsChecked s vs old.room (Ok tt) room → Wrote s vs ms old.xs old.zs old.ps old.vs xs zs ps ws
          → Enumerated s vs ms old (Ok tt) (outs xs zs ps ws room)
      enumerated_done xs zs ps ws room h wrote =
          let answer : enumeration_checked s vs ms old ≡ bare 0 = row_check ∙ sym h.answer in
          record {
            answer = sym answer;
            x_rows = rw answer wrote.x_rows;
            z_rows = rw answer wrote.z_rows;
            phases = rw answer wrote.phases;
            vacuum = rw answer wrote.vacuum;
            left = rw row_check h.left;
          }

-- ---- one outcome

pub enumeration_outcome : (s : Set) (vs ms : List ℕ) (old : Outs) (r t : Answer) (a b : Outs) → Enumerated s vs ms old r a → Enumerated s vs ms old t b → (r ≡ t) × (a ≡ b)
enumeration_outcome s vs ms old r t a b h k =
    let x = one_outcome h.x_rows k.x_rows in
    let z = one_outcome h.z_rows k.z_rows in
    let p = one_outcome h.phases k.phases in
    let v = one_outcome h.vacuum k.vacuum in
    let w = one_outcome h.left k.left in
    (answered_injective (one_outcome h.answer k.answer), λ i. record { xs = x i; zs = z i; ps = p i; vs = v i; room = w i })
