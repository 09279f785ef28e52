-- Steps of the loops over the entries, and what a slot holds by the table of the entries.
use Prim.Native.Nat.{ℕ, ◌+◌, ◌<◌, max}
use native.Mathlib.Decide.{dec_lt}
use native.Mathlib.Numerals.{add-one}
use native.Mathlib.Omega.{arith}
use mathlib.Core.Path.{◌≡◌, refl, sym, ap}
use mathlib.Core.Bool.{Bool, true, false}
use mathlib.Core.List.{List}
use lib.Dec.{eqb}
use lib.ListN.{set, length, get_or-eq_default}
use borrow.Author.Tests.{eq-eqb, ne_eqb}
use Rattle.refusal.specs.Search.{Least, found, none, some_below, least_below}
use Rattle.refusal.proofs.Searches.{some_of, none_of, least_found, least_none, least_missing}
use Rattle.trees.specs.Trees.{some, twice_in}
use Rattle.std.specs.Prelude.{Option, Some, None}
use Rattle.std.specs.Option.{is_some}
use Rattle.refusal.proofs.Bools.{never}
use Rattle.trees.specs.Flatpacks.{entry_in, past, child_of}
use Rattle.tree_sizes.specs.Sizes.{qubit_at}
use Rattle.ternarytree.specs.Building.{placed, slot_at, flat}
use Rattle.ternarytree.specs.declared.entries.Entries.{Entries}
use Rattle.ternarytree.specs.Reading.{read}
use Rattle.ternarytree.specs.Tables.{at, Holds, AtMost, child_in}
use Rattle.ternarytree.proofs.Codes.{held_some, held_none, mark}

module _ (qubit : ℕ → ℕ) where
  pub no_entry_lem : (q : ℕ) → entry_in 0 qubit q ≡ none
  unfolding entry_in least_below
  no_entry_lem q = refl

  pub entry_mark : (i : ℕ) (l : List (Option ℕ)) → Holds 256 (entry_in i qubit) l → qubit i < 256 → length l ≡ 256 → is_some (at l (qubit i)) ≡ false
      → Holds 256 (entry_in (i + 1) qubit) (set l (qubit i) (Some i))
  unfolding entry_in
  entry_mark i l h small len z =
      mark 256 (λ q k. eqb (qubit k) q) l i h (qubit i) small (omega arith) z (eq-eqb (qubit i) (qubit i) refl) (λ q ne. ne_eqb (qubit i) q (λ e. ne (sym e)))

  -- no entry before i has the qubit of entry i
  pub no_earlier : (i : ℕ) (l : List (Option ℕ)) → Holds 256 (entry_in i qubit) l → qubit i < 256 → is_some (at l (qubit i)) ≡ false → some_below i (λ k. eqb (qubit k) (qubit i)) ≡ false
  unfolding entry_in
  no_earlier i l h small z = none_of i (λ k. eqb (qubit k) (qubit i)) (least_missing i (λ k. eqb (qubit k) (qubit i)) (held_none _ _ (h (qubit i) small) z))

  pub twice_at : (n i : ℕ) (l : List (Option ℕ)) → i < n → Holds 256 (entry_in i qubit) l → qubit i < 256 → is_some (at l (qubit i)) ≡ true → twice_in n qubit ≡ true
  unfolding twice_in entry_in
  twice_at n i l h holds small ne =
      some_of n (λ j. some_below j (λ k. eqb (qubit k) (qubit j))) i h (go (least_below i (λ k. eqb (qubit k) (qubit i))) refl)
    where
      go : (o : Least) → least_below i (λ k. eqb (qubit k) (qubit i)) ≡ o → some_below i (λ k. eqb (qubit k) (qubit i)) ≡ true
      go (found j) e = let r = least_found i (λ k. eqb (qubit k) (qubit i)) j e in some_of i (λ k. eqb (qubit k) (qubit i)) j r.low r.passes
      go none e = absurd (never (held_some _ _ (holds (qubit i) small) ne) (ap some e))

  pub twice_none : (n : ℕ) → ((j : ℕ) → j < n → some_below j (λ k. eqb (qubit k) (qubit j)) ≡ false) → twice_in n qubit ≡ false
  unfolding twice_in
  twice_none n h = none_of n (λ j. some_below j (λ k. eqb (qubit k) (qubit j))) h

  pub past_more : (i : ℕ) → past qubit (i + 1) ≡ max (past qubit i) (qubit i + 1)
  unfolding past
  past_more i = rw (add-one i)

-- ---- what a slot holds

-- the table tells the entry of every number
module _ (n : ℕ) (es : List ℕ) (fs : List Bool) (leaves : Bool) (l : List (Option ℕ)) (small : AtMost n 255 (qubit_at es)) (len : length l ≡ 256) (holds : Holds 256 (entry_in n (qubit_at es)) l) where
  entry_any : (q : ℕ) → placed (at l q) ≡ entry_in n (qubit_at es) q
  unfolding entry_in
  entry_any q = go (dec_lt q 256)
    where
      go : Dec (q < 256) → placed (at l q) ≡ least_below n (λ i. eqb (qubit_at es i) q)
      go (yes h) = holds q h
      go (no h) =
          rw (get_or-eq_default l None {n = q} (omega (arith, h)), least_none n (λ i. eqb (qubit_at es i) q) (λ i g. ne_eqb (qubit_at es i) q (λ e. omega (arith, small i g, h))))

  pub child_is : (k : ℕ) → child_in l (past (qubit_at es) n) leaves (slot_at es fs k) ≡ (flat leaves n es fs).child k
  unfolding child_of
  child_is k = go (slot_at es fs k)
    where
      go : (s : Option ℕ) → child_in l (past (qubit_at es) n) leaves s ≡ child_of leaves (record { n = n; qubit = qubit_at es; slot = slot_at es fs }) s
      go None = refl
      go (Some q) = rw (entry_any q)

-- the tree that is read, by its parts
pub read_is : {leaves : Bool} {n : ℕ} {es : List ℕ} {fs : List Bool} (e : Entries) → e.leaves ≡ leaves → e.n ≡ n → e.numbers.now ≡ es → e.filled.now ≡ fs → read e ≡ flat leaves n es fs
read_is e l n es fs = rw (l, n, es, fs)
