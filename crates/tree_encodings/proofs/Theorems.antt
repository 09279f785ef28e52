-- What the calls that build trees leave when they are done is an encoding that the calls of `majorana` accept. Below, a call is its contract: `FlatBuilt` of
-- from_flatpack and from_flatpack_naive, `NamedBuilt` of from_name, `RowsChecked` of check_rows, `Encodes` of try_encode and `Decodes` of decode_zbasis_state.
--
-- In plain words: take the row set that lies in the slices at exit, on the q qubits that were asked for (a named tree's: on as many as it has nodes), and the vacuum at
-- exit.
--   Its sizes, phases and high bits pass, its rows anticommute in pairs, and the vacuum meets the rule: `flatpack_sound`, `named_sound`.
--   The slices are as long as they were lent: `flatpack_same_lengths`, `named_same_lengths`. So they are long enough: try_encode, given a list of ceil(n/64) words or more
--   and room for ceil(q/64), does not answer 2, nor does decode_zbasis_state, given a string of ceil(q/64) and room for ceil(n/64): `flatpack_long`, `named_long`.
--   In any room of 4n·ceil(q/64) words or more the row check accepts it: `flatpack_checked`, `named_checked`; so check_rows answers done: `flatpack_check_done`,
--   `named_check_done`.
--   Every list of n bits encodes on it, no two lists get the same string, decoding gives the list back, and it refuses exactly the strings that no call of try_encode
--   leaves: `flatpack_encodes`, `named_encodes`. These ask for lists, strings and rooms of the needed lengths, and nothing of the slices in which the tree was built.
--
-- The idea: below 2n the rows that are stored are the tree's (`flatpack_stored`, `named_stored`), and the tests look at no other row. Rows that anticommute in pairs are
-- independent. The building call tested every length that the other calls need of a row set and a vacuum, and writing changes none.
use Prim.Native.Nat.{ℕ, zero, suc, ◌+◌, ◌*◌, ◌<◌, ◌≤◌}
use native.Mathlib.Omega.{arith}
use mathlib.Core.Path.{◌≡◌, refl, sym, ap, ◌∙◌}
use mathlib.Core.List.{List, [], ◌∷◌}
use mathlib.Core.Bool.{Bool, true, false, ◌||◌}
use borrow.Author.Tests.{le-ltb, ne_eqb}
use lib.Dec.{ltb}
use lib.ListN.{length, take}
use lib.Pow.{pow_pos}
use Rattle.std.specs.Prelude.{Ok}
use Rattle.refusal.specs.Numbers.{Paper, bare, Answer, answered}
use Rattle.refusal.specs.Table.{Rule, ◌gives◌, first_of, short}
use Rattle.refusal.proofs.Bools.{or_left, or_right}
use Rattle.refusal.proofs.Outcome.{answered_injective}
use Rattle.refusal.proofs.Searches.{none_of, all_same}
use Rattle.algebra.specs.Modes.{Modes, vacuum_rule, Majorana}
use Rattle.algebra.proofs.Duals.{empty_same}
use Rattle.algebra.proofs.Pairs.{commuting_none}
use Rattle.algebra.proofs.Independence.{anticommuting_independent}
use Rattle.dense_block.specs.Words.{value, words_for, zeroed, term_of}
use Rattle.dense_block.proofs.Strays.{no_strays}
use Rattle.majorana.specs.Sets.{Set, given, modes, trimmed, bits, bad_size, bad_row_at, bad_rows, bad_set}
use Rattle.majorana.specs.Checks.{vacuum_short, vacuum_bad, check_room, rows_checked, RowsChecked}
use Rattle.majorana.specs.Accepted.{Sound}
use Rattle.majorana.proofs.Theorems.{encode_always, encode_apart, decode_back, decode_refuses_uncalled}
use Rattle.trees.specs.Leaves.{rows}
use Rattle.trees.specs.Named.{named_tree}
use Rattle.tree_sizes.specs.Sizes.{outside, reaches}
use Rattle.tree_sizes.proofs.SizeLaws.{inside}
use Rattle.ternarytree.specs.Building as tree
use Rattle.tree_encodings.specs.Encodings.{SameLengths, LongEnough, FaithfulCalls}
use Rattle.ternarytree.proofs.Answers.{tested}
use Rattle.ternarytree.proofs.Theorems.{Finished, flatpack_finished, named_finished, Stores, flatpack_stored, named_stored}
use Rattle.tree_encodings.proofs.Lengths.{filled_long, built_lengths, built_long, calls_long, check_long}

-- ---- a row set and vacuum that are sound and long enough

module _ (s : Set) (vs : List ℕ) (sound : Sound s vs) (long : vacuum_short s vs ≡ false) where
  -- pass the row check
  sound_checked : (room : List ℕ) → check_room s ≤ length room → rows_checked s vs room ≡ bare 0
  unfolding rows_checked
  sound_checked room enough =
      rw (sound.size, check_long s vs long room enough, sound.good, commuting_none (modes s) sound.rows, anticommuting_independent (modes s) sound.rows, sound.vacuum)

  check_done : (room : List ℕ) (r : Answer) (after : List ℕ) → check_room s ≤ length room → RowsChecked s vs room r after → r ≡ Ok tt
  check_done room r after enough c = answered_injective (c.answer ∙ sound_checked room enough)

  -- demand 3 at the calls
  faithful_calls : FaithfulCalls s vs
  faithful_calls =
      let l = calls_long s vs long in
      record {
        encodes = λ ls out r after a b c. encode_always s vs sound ls out r after a (l.encode ls out b c);
        apart = λ ls ks out pout r t after pafter a b c h d e f. encode_apart s vs sound ls ks out pout r t after pafter a (l.encode ls out b c) h d (l.encode ks pout e f);
        back = λ ls out dout r after t list a b c h d.
            let made = encode_always s vs sound ls out r after a (l.encode ls out b c) h in
            decode_back s vs sound ls out dout r after t list a (l.encode ls out b c) h (l.decode after dout (filled_long _ made.string out after made.words) d);
        refuses = λ ts out r after a b c. decode_refuses_uncalled s vs sound ts out r after a (l.decode ts out b c);
      }

-- ---- rows that are stored in a set

-- zeros stand for 0
zeros : (w : ℕ) (ws : List ℕ) → value (take w (zeroed w ws)) ≡ 0
zeros zero ws = refl
zeros (suc w) [] = refl
zeros (suc w) (x ∷ ws) = rw (zeros w ws)

in_size : (n q : ℕ) → outside n ≡ false → outside q ≡ false → bad_size n q ≡ false
unfolding bad_size
in_size n q h g =
    let a = inside n h in
    let b = inside q g in
    rw (ne_eqb n 0 (λ e. omega arith), le-ltb 256 n a.1, ne_eqb q 0 (λ e. omega arith), le-ltb 256 q b.1)

-- a building call that is done: it passed 1 and 2, and the rows m and the all-zero vacuum are written
record Complete (m : Modes) (q : ℕ) (o : tree.Outputs) (r : Answer) (xs zs ps vs room : List ℕ) : Type 0 where
  built : tree.Built (bare 0) (words_for q) m o r xs zs ps vs room
  finished : Finished m q
  stored : Stores (words_for q) m xs zs ps
  size : bad_size m.n q ≡ false
  long : short (tree.needed m.n (words_for q) o) ≡ false

module _ {m : Modes} {q : ℕ} {o : tree.Outputs} {r : Answer} {xs zs ps vs room : List ℕ} (g : Complete m q o r xs zs ps vs room) where
  -- the set that is stored
  abbrev kept : Set
  kept = given m.n q xs zs ps

  -- its rows below 2n are those of m
  row_same : (k : ℕ) → k < 2 * m.n → (modes kept).row k ≡ m.row k
  row_same k h = rw (g.stored.phase k h, g.stored.x_part k h, g.stored.z_part k h)

  row_good : (k : ℕ) → k < 2 * m.n → bad_row_at q (words_for q) xs zs ps k ≡ false
  unfolding bad_row_at
  row_good k h =
      let w = g.finished.within k h in
      rw (
        g.stored.phase k h,
        le-ltb 3 (m.row k).p (omega (arith, w.p_low)),
        no_strays (term_of (words_for q) xs k) q (rw (g.stored.x_part k h) w.x_low),
        no_strays (term_of (words_for q) zs k) q (rw (g.stored.z_part k h) w.z_low),
      )

  vacuum_zero : bits q vs ≡ 0
  vacuum_zero = rw g.built.vacuum (zeros (words_for q) o.vs)

  kept_good : vacuum_bad kept vs ≡ false
  unfolding vacuum_bad bad_rows
  kept_good =
      let sets : bad_set kept ≡ false = none_of (2 * m.n) (bad_row_at q (words_for q) xs zs ps) row_good in
      rw (sets, no_strays (trimmed q vs) q (rw vacuum_zero (pow_pos q)))

  kept_majorana : Majorana (modes kept)
  unfolding Majorana
  kept_majorana j k a b apart = rw (row_same j a, row_same k b) (g.finished.majorana j k a b apart)

  kept_rule : vacuum_rule (modes kept) (bits q vs) ≡ true
  unfolding vacuum_rule
  kept_rule =
      rw vacuum_zero
      (all_same m.n _ _ (λ i h. empty_same (modes kept) m i i 0 (row_same (2 * i) (omega arith)) (row_same (2 * i + 1) (omega arith))) ∙ g.finished.rule)

  stored_sound : Sound kept vs
  stored_sound = record { size = g.size; good = kept_good; rows = kept_majorana; vacuum = kept_rule }

  stored_lengths : SameLengths o xs zs ps vs room
  stored_lengths = built_lengths m q o r xs zs ps vs room g.built g.long

  stored_long : vacuum_short kept vs ≡ false
  stored_long = built_long m q o r xs zs ps vs room g.built g.long

  stored_calls_long : LongEnough kept vs
  stored_calls_long = calls_long kept vs stored_long

  stored_checked : (work : List ℕ) → 4 * m.n * words_for q ≤ length work → rows_checked kept vs work ≡ bare 0
  stored_checked = sound_checked kept vs stored_sound stored_long

  stored_check_done : (work : List ℕ) (a : Answer) (after : List ℕ) → 4 * m.n * words_for q ≤ length work → RowsChecked kept vs work a after → a ≡ Ok tt
  stored_check_done = check_done kept vs stored_sound stored_long

  stored_encodes : FaithfulCalls kept vs
  stored_encodes = faithful_calls kept vs stored_sound stored_long

-- ---- flatpacks, with leaves or naive

module _ (i : tree.Input) (r : Answer) (xs zs ps vs room : List ℕ) (b : tree.FlatBuilt i r xs zs ps vs room) (fine : r ≡ Ok tt) where
  flatpack_complete : Complete (rows i.leaves (tree.tree_of i)) i.q i.out r xs zs ps vs room
  unfolding tree.bad_size tree.too_short
  flatpack_complete =
      let e : tree.answer i ≡ bare 0 = sym b.told ∙ ap answered fine in
      let z : (tree.answer i).number ≡ 0 = ap (λ (a : Paper). a.number) e in
      let t = tested i (λ h. omega arith) (λ h. omega arith) (λ h. omega arith) in
      record {
        built = rw e at b;
        finished = flatpack_finished i e;
        stored = flatpack_stored i r xs zs ps vs room b fine;
        size = in_size i.n i.q (or_left (outside i.n) _ t.size) (or_left (outside i.q) (reaches i.es i.n 256) (or_right (outside i.n) _ t.size));
        long = or_right (ltb (length i.fs) (3 * i.n)) _ (or_right (ltb (length i.es) (4 * i.n)) _ t.long);
      }

  pub flatpack_sound : Sound (given i.n i.q xs zs ps) vs
  flatpack_sound = stored_sound flatpack_complete

  pub flatpack_same_lengths : SameLengths i.out xs zs ps vs room
  flatpack_same_lengths = stored_lengths flatpack_complete

  pub flatpack_long : LongEnough (given i.n i.q xs zs ps) vs
  flatpack_long = stored_calls_long flatpack_complete

  pub flatpack_checked : (work : List ℕ) → 4 * i.n * words_for i.q ≤ length work → rows_checked (given i.n i.q xs zs ps) vs work ≡ bare 0
  flatpack_checked = stored_checked flatpack_complete

  pub flatpack_check_done : (work : List ℕ) (a : Answer) (after : List ℕ) → 4 * i.n * words_for i.q ≤ length work → RowsChecked (given i.n i.q xs zs ps) vs work a after → a ≡ Ok tt
  flatpack_check_done = stored_check_done flatpack_complete

  pub flatpack_encodes : FaithfulCalls (given i.n i.q xs zs ps) vs
  flatpack_encodes = stored_encodes flatpack_complete

-- ---- named trees

named_tested : (i : tree.NamedInput) → tree.named_answer i ≡ bare 0 → (outside i.n ≡ false) × (short (tree.needed i.n (words_for i.n) i.out) ≡ false)
unfolding tree.named_answer
named_tested i e =
    let t = go (outside i.n || outside i.q) (short (tree.needed i.n (words_for i.n) i.out)) ((ltb i.q i.n gives 3) ∷ tree.tree_checks false (named_tree i.tree i.n))
    (ap (λ (a : Paper). a.number) e) in
    (or_left (outside i.n) (outside i.q) t.0, t.1)
  where
    go : (b c : Bool) (rest : List Rule) → (first_of ((b gives 1) ∷ (c gives 2) ∷ rest)).number ≡ 0 → (b ≡ false) × (c ≡ false)
    go true c rest h = absurd (omega arith)
    go false true rest h = absurd (omega arith)
    go false false rest h = (refl, refl)

module _ (i : tree.NamedInput) (r : Answer) (xs zs ps vs room : List ℕ) (b : tree.NamedBuilt i r xs zs ps vs room) (fine : r ≡ Ok tt) where
  named_complete : Complete (rows false (named_tree i.tree i.n)) i.n i.out r xs zs ps vs room
  named_complete =
      let e : tree.named_answer i ≡ bare 0 = sym b.told ∙ ap answered fine in
      let t = named_tested i e in
      record {
        built = rw e at b;
        finished = named_finished i.tree i.n;
        stored = named_stored i r xs zs ps vs room b fine;
        size = in_size i.n i.n t.0 t.0;
        long = t.1;
      }

  pub named_sound : Sound (given i.n i.n xs zs ps) vs
  named_sound = stored_sound named_complete

  pub named_same_lengths : SameLengths i.out xs zs ps vs room
  named_same_lengths = stored_lengths named_complete

  pub named_long : LongEnough (given i.n i.n xs zs ps) vs
  named_long = stored_calls_long named_complete

  pub named_checked : (work : List ℕ) → 4 * i.n * words_for i.n ≤ length work → rows_checked (given i.n i.n xs zs ps) vs work ≡ bare 0
  named_checked = stored_checked named_complete

  pub named_check_done : (work : List ℕ) (a : Answer) (after : List ℕ) → 4 * i.n * words_for i.n ≤ length work → RowsChecked (given i.n i.n xs zs ps) vs work a after → a ≡ Ok tt
  named_check_done = stored_check_done named_complete

  pub named_encodes : FaithfulCalls (given i.n i.n xs zs ps) vs
  named_encodes = stored_encodes named_complete
