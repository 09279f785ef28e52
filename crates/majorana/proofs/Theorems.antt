-- What the calls of this crate promise together: demand 3, that occupation lists and the strings that they encode to stand for one another.
--
-- In plain words: let the rows of a set anticommute in pairs, and let the vacuum meet the rule (so that X parts are alike and every d is even). Then the encoding call
-- answers done on every list of n bits, no two lists get the same string, the decoding call gives the list back, and it refuses exactly the strings of q bits that no
-- list encodes to; that is said of the algebra's encoding, and once more of the calls alone: those that no encoding call leaves. On any row set, what a call that is done
-- writes stands for the string, or the list, of the algebra: no bit is cut off, and none is stray.
-- Below, a call is its contract: `Encodes` of try_encode and `Decodes` of decode_zbasis_state, with the slices as they were lent and are left. The premises, and the records
-- that say what is proved, are in specs/Accepted.antt.
--
-- The theorems of the algebra that these rest on are in crate `algebra`, over numbers of any width:
--   Duals         dual_same, dual_other: e and c are dual
--   Demand3       demand_3: all of `Faithful`, for lists and strings as numbers
--   Meaning       killed_empty, empty_killed: a mode is empty in a state exactly if (γ_2i + i γ_2i+1) / 2 kills the state
--   Operators     encoded_acts: the string and the phase of a list are those of the γ_2i of its modes, applied from the highest mode down
--   Independence  anticommuting_independent: rows that anticommute in pairs are independent, so 11 never follows where 10 was passed
--   Existence     vacuum_exists: where moreover X parts agree and every d is even there is a vacuum, so 12 is never answered
use Prim.Native.Nat.{ℕ, zero, suc, ◌*◌, ◌/◌, ◌^◌, ◌<◌}
use native.Mathlib.Nat.{lt_of_lt_of_le}
use native.Mathlib.Omega.{arith}
use mathlib.Core.Path.{◌≡◌, refl, sym, ap, ◌∙◌}
use mathlib.Core.Logic.{◌⊎◌, inl, inr, ⊎_elim, ◌↔◌}
use mathlib.Core.List.{List, [], ◌∷◌}
use mathlib.Core.Bool.{Bool, true, false, not, ◌||◌}
use lib.Count.{ones, ones_in}
use lib.ListN.{length, get_or}
use lib.Pow.{pow_mono}
use lib.Seq.{take_all}
use Rattle.std.specs.Prelude.{Result, Ok, Err}
use Rattle.refusal.specs.declared.Refusal.{Refusal}
use Rattle.refusal.specs.declared.Refusal.TheVariants.{Undecodable}
use Rattle.refusal.specs.Numbers.{Answer, Paper, bare}
use Rattle.refusal.specs.Search.{all_below, some_below, least_below, Pair, pair, no_pair, first_pair}
use Rattle.refusal.specs.Table.{◌gives◌, ◌names◌, first_of, ◌of◌, on_done}
use Rattle.refusal.proofs.Bools.{or_left, or_right, never}
use Rattle.refusal.proofs.Rooms.{hold, long_enough}
use Rattle.algebra.specs.Rows.{bit, common, dot, clash}
use Rattle.algebra.specs.Modes.{vacuum_rule, commuting_pair, e, d, paired, empty}
use Rattle.algebra.specs.Coding as algebra
use Rattle.algebra.specs.Choices.{dependent}
use Rattle.algebra.specs.Faithful.{Faithful}
use Rattle.algebra.proofs.Pairs.{majorana_of}
use Rattle.algebra.proofs.Codings.{decoded_below}
use Rattle.algebra.proofs.Operators.{encoded_below}
use Rattle.algebra.proofs.Demand3.{demand_3}
use Rattle.dense_block.specs.Words.{value, words_of, words_for, filled, strays}
use Rattle.dense_block.proofs.Values.{value_of_words, length_words_of, words_hold, written_back}
use Rattle.dense_block.proofs.Strays.{below_of, no_strays}
use Rattle.pauli.specs.declared.Phase.{Phase}
use Rattle.majorana.specs.Sets.{Set, given, width, modes, trimmed, bits, bad_size, set_lent, bad_row_at, bad_rows, bad_set}
use Rattle.majorana.specs.Checks.{vacuum_bad, rows_short, rows_checked}
use Rattle.majorana.specs.Codes.{encoded, unencodable, state_of, phase_of, encode_short, encode_bad, encode_refused, Told, Encodes, decoded, undecodable, list_of, decode_short, decode_bad, decode_refused, Decodes}
use Rattle.majorana.specs.Accepted.{Sound, Listed, Stringed, EncodedTo, DecodedTo, DecodedFrom, Source, EncodingCall}
use Rattle.majorana.proofs.SetLaws.{x_below}
use Rattle.majorana.proofs.CodeAnswers.{encode_run, encode_outcome, decode_run, decode_outcome}

-- ---- which sets are accepted

-- a set that the row check answers done on is such a set
pub checked_sound : (s : Set) (vs room : List ℕ) → rows_checked s vs room ≡ bare 0 → Sound s vs
unfolding rows_checked
checked_sound s vs room h =
    let r = go (bad_size s.n s.q) (rows_short s vs room) (vacuum_bad s vs) (commuting_pair (modes s)) (dependent (modes s)) (vacuum_rule (modes s) (bits s.q vs)) (ap (λ (p : Paper). p.number) h) in
    record { size = r.0; good = r.1; rows = majorana_of (modes s) r.2; vacuum = r.3 }
  where
    go : (size short bad : Bool) (commute : Pair) (dep rule : Bool)
        → (first_of ((size gives 1) ∷ (short gives 2) ∷ (bad gives 17) ∷ (commute names 10) ∷ (dep gives 11) ∷ (not rule gives 13) ∷ [])).number ≡ 0
        → (size ≡ false) × (bad ≡ false) × (commute ≡ no_pair) × (rule ≡ true)
    go true short bad commute dep rule h = absurd (omega arith)
    go false true bad commute dep rule h = absurd (omega arith)
    go false false true commute dep rule h = absurd (omega arith)
    go false false false (pair i j) dep rule h = absurd (omega arith)
    go false false false no_pair true rule h = absurd (omega arith)
    go false false false no_pair false true h = (refl, refl, refl, refl)
    go false false false no_pair false false h = absurd (omega arith)

-- ---- what is written stands for the string, or the list, on every row set that passes the tests

-- a call that is done: neither 17 nor its own number was due
tests_passed : (k : ℕ) (size short bad refused : Bool) → (first_of ((size gives 1) ∷ (short gives 2) ∷ (bad gives 17) ∷ (refused gives suc k) ∷ [])).number ≡ 0 → (bad ≡ false) × (refused ≡ false)
tests_passed k true short bad refused h = absurd (omega arith)
tests_passed k false true bad refused h = absurd (omega arith)
tests_passed k false false true refused h = absurd (omega arith)
tests_passed k false false false true h = absurd (omega arith)
tests_passed k false false false false h = (refl, refl)

-- the string that a list encodes to has q bits
string_low : (s : Set) (vs : List ℕ) → bad_set s ≡ false → Stringed s vs → (l t f : ℕ) → algebra.encode (modes s) (bits s.q vs) l ≡ algebra.done t f → t < 2 ^ s.q
string_low s vs good plain l t f h =
    encoded_below (modes s) l (bits s.q vs) t f h s.q (below_of (trimmed s.q vs) s.q plain)
    (λ i g. x_below s.n s.q (width s) s.xs s.zs s.ps good (2 * i) (omega arith))

pub encode_stands : (s : Set) (vs ls out : List ℕ) (f : Phase) (after : List ℕ) → Encodes s vs ls out (Ok f) after → EncodedTo s vs ls out (Ok f) after
unfolding encoded encode_refused encode_bad
encode_stands s vs ls out f after h = go (algebra.encode (modes s) (bits s.q vs) (bits s.n ls)) refl
  where
    done : encode_refused s vs ls out ≡ bare 0
    done = sym (ap (λ (t : Told). t.told) h.answer)

    tests : (encode_bad s vs ls ≡ false) × (unencodable (encoded s vs ls) ≡ false)
    tests = tests_passed 14 (bad_size s.n s.q) (encode_short s vs ls out) (encode_bad s vs ls) (unencodable (encoded s vs ls)) (ap (λ (p : Paper). p.number) done)

    go : (e : algebra.Encoded) → algebra.encode (modes s) (bits s.q vs) (bits s.n ls) ≡ e → EncodedTo s vs ls out (Ok f) after
    go algebra.refused e = absurd (never (ap unencodable e) tests.1)
    go (algebra.done t g) e =
        let strays-both = strays (trimmed s.q vs) s.q || strays (trimmed s.n ls) s.n in
        let good = or_left (bad_set s) strays-both tests.0 in
        let plain = or_left (strays (trimmed s.q vs) s.q) (strays (trimmed s.n ls) s.n) (or_right (bad_set s) strays-both tests.0) in
        let low = string_low s vs good plain (bits s.n ls) t g e in
        let phase : f.power ≡ g = ap (λ (t : Told). t.phase) h.answer ∙ ap (λ (p : Paper). on_done p (phase_of (encoded s vs ls)) 0) done ∙ ap phase_of e in
        let words : after ≡ filled (width s) t out =
        h.string ∙ ap (λ (p : Paper). on_done p (filled (width s) (state_of (encoded s vs ls)) out) out) done ∙ ap (λ (x : algebra.Encoded). filled (width s) (state_of x) out) e in
        let written = ap (bits s.q) words ∙ written_back s.q t out low in
        record {
          string = t;
          phase = g;
          run = e;
          answer = ap Ok (λ j. record { power = phase j });
          words = words;
          low = low;
          written = written;
          plain = no_strays (trimmed s.q after) s.q (rw written low);
        }

pub decode_stands : (s : Set) (vs ts out after : List ℕ) → Decodes s vs ts out (Ok tt) after → DecodedFrom s vs ts after
unfolding decoded decode_refused
decode_stands s vs ts out after h = go (algebra.decode (modes s) (bits s.q vs) (bits s.q ts)) refl
  where
    done : decode_refused s vs ts out ≡ bare 0
    done = sym h.answer

    go : (d : algebra.Decoded) → algebra.decode (modes s) (bits s.q vs) (bits s.q ts) ≡ d → DecodedFrom s vs ts after
    go algebra.foreign e =
        absurd (never (ap undecodable e) (tests_passed 13 (bad_size s.n s.q) (decode_short s vs ts out) (decode_bad s vs ts) (undecodable (decoded s vs ts)) (ap (λ (p : Paper). p.number) done)).1)
    go (algebra.found l) e =
        let low = decoded_below (modes s) (bits s.q vs) l (bits s.q ts) e in
        let words : after ≡ filled (words_for s.n) l out =
        h.list ∙ ap (λ (p : Paper). on_done p (filled (words_for s.n) (list_of (decoded s vs ts)) out) out) done ∙ ap (λ (x : algebra.Decoded). filled (words_for s.n) (list_of x) out) e in
        let written = ap (bits s.n) words ∙ written_back s.n l out low in
        record { list = l; run = e; low = low; written = written; plain = no_strays (trimmed s.n after) s.n (rw written low) }

-- the words of a number fit 64 bits
words_words : (w v i : ℕ) → get_or (words_of w v) i 0 < 2 ^ 64
words_words zero v zero = omega arith
words_words zero v (suc i) = omega arith
words_words (suc w) v zero = omega arith
words_words (suc w) v (suc i) = words_words w (v / 2 ^ 64) i

-- ---- how the tests of the calls pass, and what the algebra says then

module _ (s : Set) (vs : List ℕ) (sound : Sound s vs) where
  set_good : bad_set s ≡ false
  unfolding vacuum_bad
  set_good = or_left (bad_set s) (strays (trimmed s.q vs) s.q) sound.good

  vacuum_plain : Stringed s vs
  unfolding vacuum_bad
  vacuum_plain = or_right (bad_set s) (strays (trimmed s.q vs) s.q) sound.good

  -- demand 3 of the set's rows, over numbers
  pub faithful : Faithful (modes s) (bits s.q vs)
  faithful = demand_3 (modes s) (bits s.q vs) sound.rows sound.vacuum

  encode_good : (ls : List ℕ) → Listed s ls → encode_bad s vs ls ≡ false
  unfolding encode_bad
  encode_good ls h = rw (set_good, vacuum_plain, h)

  decode_good : (ts : List ℕ) → Stringed s ts → decode_bad s vs ts ≡ false
  unfolding decode_bad
  decode_good ts h = rw (set_good, vacuum_plain, h)

  -- the answer to a string that decodes
  decoded_fine : (ts out : List ℕ) (r : Answer) (after : List ℕ) (l : ℕ) → Stringed s ts → decode_short s vs ts out ≡ false → Decodes s vs ts out r after
      → algebra.decode (modes s) (bits s.q vs) (bits s.q ts) ≡ algebra.found l → (r ≡ Ok tt) × (after ≡ filled (words_for s.n) l out)
  unfolding decoded
  decoded_fine ts out r after l plain long h e =
      let runs : Decodes s vs ts out (Ok tt) (filled (words_for s.n) l out) =
      decode_run s vs ts out sound.size long (decode_good ts plain) (Ok tt) (filled (words_for s.n) l out) (rw e) (rw e) in
      decode_outcome s vs ts out r (Ok tt) after (filled (words_for s.n) l out) h runs

  -- and to one that does not
  decoded_no : (ts out : List ℕ) (r : Answer) (after : List ℕ) → Stringed s ts → decode_short s vs ts out ≡ false → Decodes s vs ts out r after
      → algebra.decode (modes s) (bits s.q vs) (bits s.q ts) ≡ algebra.foreign → r ≡ Err Undecodable
  unfolding decoded
  decoded_no ts out r after plain long h e =
      let runs : Decodes s vs ts out (Err Undecodable) out =
      decode_run s vs ts out sound.size long (decode_good ts plain) (Err Undecodable) out (rw e) (rw e) in
      (decode_outcome s vs ts out r (Err Undecodable) after out h runs).0

  -- ---- every list encodes

  pub encode_always : (ls out : List ℕ) (r : Result Phase Refusal) (after : List ℕ) → Listed s ls → encode_short s vs ls out ≡ false → Encodes s vs ls out r after
      → EncodedTo s vs ls out r after
  unfolding encoded
  encode_always ls out r after listed long h =
      let a = faithful.encodes (bits s.n ls) (below_of (trimmed s.n ls) s.n listed) in
      let runs : Encodes s vs ls out (Ok (record { power = a.1 })) (filled (width s) a.0 out) =
      encode_run s vs ls out sound.size long (encode_good ls listed) (Ok (record { power = a.1 })) (filled (width s) a.0 out) (rw a.2) (rw a.2) in
      let one = encode_outcome s vs ls out r (Ok (record { power = a.1 })) after (filled (width s) a.0 out) h runs in
      rw (one.0, one.1) (encode_stands s vs ls out (record { power = a.1 }) (filled (width s) a.0 out) runs)

  -- ---- decoding gives the list back

  pub decode_back : (ls out dout : List ℕ) (r : Result Phase Refusal) (after : List ℕ) (t : Answer) (list : List ℕ)
      → Listed s ls → encode_short s vs ls out ≡ false → Encodes s vs ls out r after
      → decode_short s vs after dout ≡ false → Decodes s vs after dout t list
      → DecodedTo s ls dout t list
  decode_back ls out dout r after t list listed long h long' k =
      let a = encode_always ls out r after listed long h in
      let l = bits s.n ls in
      let low : l < 2 ^ s.n = below_of (trimmed s.n ls) s.n listed in
      let back = ap (algebra.decode (modes s) (bits s.q vs)) a.written ∙ faithful.back l a.string a.phase low a.run in
      let b = decoded_fine after dout t list l a.plain long' k back in
      record { answer = b.0; words = b.1; same = ap (bits s.n) b.1 ∙ written_back s.n l dout low }

  -- ---- it refuses exactly the strings that no list encodes to

  module _ (ts out : List ℕ) (r : Answer) (after : List ℕ) (plain : Stringed s ts) (long : decode_short s vs ts out ≡ false) (h : Decodes s vs ts out r after) where
    settled : ((r ≡ Ok tt) × Source s vs (bits s.q ts)) ⊎ ((r ≡ Err Undecodable) × (Source s vs (bits s.q ts) → ⊥))
    settled = go (algebra.decode (modes s) (bits s.q vs) (bits s.q ts)) refl
      where
        go : (o : algebra.Decoded) → algebra.decode (modes s) (bits s.q vs) (bits s.q ts) ≡ o
            → ((r ≡ Ok tt) × Source s vs (bits s.q ts)) ⊎ ((r ≡ Err Undecodable) × (Source s vs (bits s.q ts) → ⊥))
        go (algebra.found l) e =
            let a = faithful.from l (bits s.q ts) e in
            inl ((decoded_fine ts out r after l plain long h e).0, (l, a.1.0, a.0, a.1.1))
        go algebra.foreign e =
            inr (decoded_no ts out r after plain long h e, λ a. (faithful.refuses (bits s.q ts)).0 e a.0 a.1 a.2 a.3)

    never_both : r ≡ Ok tt → r ≡ Err Undecodable → ⊥
    never_both p q = let z : ◌≡◌ {A = ℕ} 0 1 = cc in omega arith

    pub decode_refuses_exactly : (r ≡ Err Undecodable) ↔ (Source s vs (bits s.q ts) → ⊥)
    decode_refuses_exactly = (
      λ e. ⊎_elim (λ p. absurd (never_both p.0 e)) (λ p. p.1) settled,
      λ none. ⊎_elim (λ p. absurd (none p.1)) (λ p. p.0) settled,
    )

    pub decode_done_exactly : (r ≡ Ok tt) ↔ Source s vs (bits s.q ts)
    decode_done_exactly = (
      λ e. ⊎_elim (λ p. p.1) (λ p. absurd (never_both e p.0)) settled,
      λ source. ⊎_elim (λ p. p.0) (λ p. absurd (p.1 source)) settled,
    )

    -- ---- the same over the calls of try_encode alone

    -- what a call leaves is what its list encodes to
    source_of : EncodingCall s vs ts → Source s vs (bits s.q ts)
    source_of c =
        let a = encode_always c.list c.out (Ok c.phase) c.after c.listed c.long c.promised in
        (bits s.n c.list, a.phase, below_of (trimmed s.n c.list) s.n c.listed, a.run ∙ ap (λ (x : ℕ). algebra.done x a.phase) (sym a.written ∙ c.leaves))

    -- a list in words, and a call on it
    call_of : Source s vs (bits s.q ts) → EncodingCall s vs ts
    unfolding encoded encode_short decode_short
    call_of (l, f, low, run) =
        let ls = words_of (words_for s.n) l in
        let room = words_of (width s) 0 in
        let is : bits s.n ls ≡ l = ap value (take_all (words_for s.n) ls (omega (arith, length_words_of (words_for s.n) l))) ∙ value_of_words (words_for s.n) l (lt_of_lt_of_le low (pow_mono (words_hold s.n))) in
        let listed = no_strays (trimmed s.n ls) s.n (rw is low) in
        let have = hold (set_lent s.n (width s) (length s.xs) (length s.zs) (length s.ps) ((width s of length vs) ∷ (width s of length ts) ∷ (words_for s.n of length out) ∷ [])) long in
        let enough = long_enough (set_lent s.n (width s) (length s.xs) (length s.zs) (length s.ps) ((width s of length vs) ∷ (words_for s.n of length ls) ∷ (width s of length room) ∷ []))
        (have.0, (have.1.0, (have.1.1.0, (have.1.1.1.0, (omega (arith, length_words_of (words_for s.n) l), (omega (arith, length_words_of (width s) 0), tt)))))) in
        let runs : algebra.encode (modes s) (bits s.q vs) (bits s.n ls) ≡ algebra.done (bits s.q ts) f = ap (algebra.encode (modes s) (bits s.q vs)) is ∙ run in
        record {
          list = ls;
          out = room;
          phase = record { power = f };
          after = filled (width s) (bits s.q ts) room;
          list_words = words_words (words_for s.n) l;
          out_words = words_words (width s) 0;
          listed = listed;
          long = enough;
          promised = encode_run s vs ls room sound.size enough (encode_good ls listed) (Ok (record { power = f })) (filled (width s) (bits s.q ts) room) (rw runs) (rw runs);
          leaves = written_back s.q (bits s.q ts) room (below_of (trimmed s.q ts) s.q plain);
        }

    pub decode_refuses_uncalled : (r ≡ Err Undecodable) ↔ (EncodingCall s vs ts → ⊥)
    decode_refuses_uncalled = (
      λ e c. decode_refuses_exactly.0 e (source_of c),
      λ none. decode_refuses_exactly.1 (λ a. none (call_of a)),
    )

    pub decode_done_called : (r ≡ Ok tt) ↔ EncodingCall s vs ts
    decode_done_called = (λ e. call_of (decode_done_exactly.0 e), λ c. decode_done_exactly.1 (source_of c))

  -- ---- no two lists share a string

  pub encode_apart : (ls ks out pout : List ℕ) (r t : Result Phase Refusal) (after pafter : List ℕ)
      → Listed s ls → encode_short s vs ls out ≡ false → Encodes s vs ls out r after
      → Listed s ks → encode_short s vs ks pout ≡ false → Encodes s vs ks pout t pafter
      → bits s.q after ≡ bits s.q pafter → bits s.n ls ≡ bits s.n ks
  encode_apart ls ks out pout r t after pafter listed long h listed' long' k same =
      let a = encode_always ls out r after listed long h in
      let b = encode_always ks pout t pafter listed' long' k in
      let string : b.string ≡ a.string = sym b.written ∙ sym same ∙ a.written in
      faithful.apart (bits s.n ls) (bits s.n ks) a.string a.phase b.phase (below_of (trimmed s.n ls) s.n listed) (below_of (trimmed s.n ks) s.n listed') a.run
      (b.run ∙ ap (λ (x : ℕ). algebra.done x b.phase) string)

-- ---- it is not empty: Jordan-Wigner on two modes, and parity on two, in lent words

-- XI, YI, ZX, ZY
abbrev jordan_wigner : Set
jordan_wigner = given 2 2 (1 ∷ 1 ∷ 2 ∷ 2 ∷ []) (0 ∷ 1 ∷ 1 ∷ 3 ∷ []) (0 ∷ 1 ∷ 0 ∷ 1 ∷ [])

-- XZ, YI, XX, XY
abbrev parity : Set
parity = given 2 2 (1 ∷ 1 ∷ 3 ∷ 3 ∷ []) (2 ∷ 1 ∷ 0 ∷ 2 ∷ []) (0 ∷ 1 ∷ 0 ∷ 1 ∷ [])

abbrev zeros : List ℕ
zeros = 0 ∷ []

pub jordan_wigner_sound : Sound jordan_wigner zeros
unfolding vacuum_bad bad_size bad_rows bad_row_at strays commuting_pair first_pair least_below some_below clash vacuum_rule all_below empty paired e d dot common ones ones_in
jordan_wigner_sound = record { size = refl; good = refl; rows = majorana_of (modes jordan_wigner) refl; vacuum = refl }

pub parity_sound : Sound parity zeros
unfolding vacuum_bad bad_size bad_rows bad_row_at strays commuting_pair first_pair least_below some_below clash vacuum_rule all_below empty paired e d dot common ones ones_in
parity_sound = record { size = refl; good = refl; rows = majorana_of (modes parity) refl; vacuum = refl }

-- list 11 encodes to 11 with phase 0; the word past the first stays
pub jordan_wigner_both : Encodes jordan_wigner zeros (3 ∷ []) (9 ∷ 7 ∷ []) (Ok (record { power = 0 })) (3 ∷ 7 ∷ [])
unfolding encoded encode_refused encode_short encode_bad bad_size bad_rows bad_row_at strays some_below algebra.encode algebra.encode_from algebra.occupy bit empty paired e d dot common ones ones_in
jordan_wigner_both = record { answer = refl; string = refl }

-- list 11 encodes to 01 with phase 2
pub parity_both : Encodes parity zeros (3 ∷ []) (9 ∷ 7 ∷ []) (Ok (record { power = 2 })) (2 ∷ 7 ∷ [])
unfolding encoded encode_refused encode_short encode_bad bad_size bad_rows bad_row_at strays some_below algebra.encode algebra.encode_from algebra.occupy bit empty paired e d dot common ones ones_in
parity_both = record { answer = refl; string = refl }

-- and 01 decodes to 11
pub parity_back : Decodes parity zeros (2 ∷ 7 ∷ []) (9 ∷ 7 ∷ []) (Ok tt) (3 ∷ 7 ∷ [])
unfolding decoded decode_refused decode_short decode_bad bad_size bad_rows bad_row_at strays some_below algebra.decode algebra.decode_from algebra.seen paired e d dot common ones ones_in
parity_back = record { answer = refl; list = refl }
