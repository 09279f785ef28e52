-- What the encoding and the decoding of words hand back and leave, by cases on what the algebra says; and the order of the tests.
use Prim.Native.Nat.{ℕ}
use mathlib.Core.Path.{◌≡◌, refl, sym, ap, ◌∙◌}
use mathlib.Core.List.{List, [], ◌∷◌, ◌++◌}
use mathlib.Core.Bool.{Bool, true, false}
use lib.ListN.{length, drop}
use lib.Seq.{take_at}
use Rattle.std.specs.Prelude.{Option, Some, Result, Ok, Err}
use Rattle.refusal.specs.declared.Refusal.{Refusal}
use Rattle.refusal.specs.declared.Refusal.TheVariants.{Size, Short, Value}
use Rattle.refusal.specs.Numbers.{Answer, bare, answered}
use Rattle.refusal.specs.Table.{◌gives◌, first_of, on_done}
use Rattle.refusal.proofs.Outcome.{one_outcome, answered_injective, paper_injective, refused_number}
use Rattle.algebra.specs.Coding as algebra
use Rattle.dense_block.specs.Words.{value, words_for, filled}
use Rattle.dense_block.proofs.Values.{Words, words_take, filled_by}
use Rattle.pauli.specs.declared.Phase.{Phase}
use Rattle.majorana.specs.Sets.{Set, width, bad_size}
use Rattle.majorana.specs.Codes.{encoded, unencodable, state_of, phase_of, encode_short, encode_bad, encode_refused, Told, encoded_paper, Encodes, decoded, undecodable, list_of, decode_short, decode_bad, decode_refused, Decodes}
use Rattle.majorana.specs.Runs.{kept, read_off, ran, ran_out, ran_number, ran_list}

-- ---- what a run of words comes to

pub words_front : (a b : List ℕ) (w : ℕ) → length a ≡ w → Words (a ++ b) → Words a
words_front a b w h p = rw (take_at a b w h) at (words_take w (a ++ b) p)

module _ (r : Option Phase) (ws : List ℕ) (w : ℕ) (e : algebra.Encoded) (out : List ℕ) (h : kept r ws ≡ e) where
  pub ran_done : (f : Phase) → r ≡ Some f → length ws ≡ w → Words ws → (encoded_paper (Ok f) ≡ ran e) × (ws ++ drop w out ≡ ran_out e w out)
  ran_done f k len p =
      let same : e ≡ algebra.done (value ws) f.power = sym h ∙ ap (λ (a : Option Phase). kept a ws) k in
      (rw same, rw same (filled_by ws out w len p))

module _ (b : Bool) (ls : List ℕ) (w : ℕ) (e : algebra.Decoded) (out : List ℕ) (h : read_off b (value ls) ≡ e) where
  pub read_done : b ≡ true → length ls ≡ w → Words ls → (bare 0 ≡ ran_number e) × (ls ++ drop w out ≡ ran_list e w out)
  read_done k len p =
      let same : e ≡ algebra.found (value ls) = sym h ∙ ap (λ (a : Bool). read_off a (value ls)) k in
      (rw same, rw same (filled_by ls out w len p))

-- ---- which test refuses an encoding

module _ (s : Set) (vs ls out : List ℕ) where
  pub encode_size : bad_size s.n s.q ≡ true → Encodes s vs ls out (Err Size) out
  unfolding encode_refused
  encode_size h = record { answer = rw h; string = rw h }

  pub encode_short_lem : bad_size s.n s.q ≡ false → encode_short s vs ls out ≡ true → Encodes s vs ls out (Err Short) out
  unfolding encode_refused
  encode_short_lem h k = record { answer = rw (h, k); string = rw (h, k) }

  pub encode_value : bad_size s.n s.q ≡ false → encode_short s vs ls out ≡ false → encode_bad s vs ls ≡ true → Encodes s vs ls out (Err Value) out
  unfolding encode_refused
  encode_value h k l = record { answer = rw (h, k, l); string = rw (h, k, l) }

  pub encode_run : bad_size s.n s.q ≡ false → encode_short s vs ls out ≡ false → encode_bad s vs ls ≡ false
      → (r : Result Phase Refusal) (after : List ℕ) → encoded_paper r ≡ ran (encoded s vs ls) → after ≡ ran_out (encoded s vs ls) (width s) out → Encodes s vs ls out r after
  unfolding encode_refused
  encode_run h k l r after a b = record { answer = rw (h, k, l) (a ∙ (go (encoded s vs ls)).0); string = rw (h, k, l) (b ∙ (go (encoded s vs ls)).1) }
    where
      go : (e : algebra.Encoded)
          → (ran e ≡ record { told = first_of ((unencodable e gives 15) ∷ []); phase = on_done (first_of ((unencodable e gives 15) ∷ [])) (phase_of e) 0 })
          × (ran_out e (width s) out ≡ on_done (first_of ((unencodable e gives 15) ∷ [])) (filled (width s) (state_of e) out) out)
      go (algebra.done t f) = (refl, refl)
      go algebra.refused = (refl, refl)

-- ---- and a decoding

module _ (s : Set) (vs ts out : List ℕ) where
  pub decode_size : bad_size s.n s.q ≡ true → Decodes s vs ts out (Err Size) out
  unfolding decode_refused
  decode_size h = record { answer = rw h; list = rw h }

  pub decode_short_lem : bad_size s.n s.q ≡ false → decode_short s vs ts out ≡ true → Decodes s vs ts out (Err Short) out
  unfolding decode_refused
  decode_short_lem h k = record { answer = rw (h, k); list = rw (h, k) }

  pub decode_value : bad_size s.n s.q ≡ false → decode_short s vs ts out ≡ false → decode_bad s vs ts ≡ true → Decodes s vs ts out (Err Value) out
  unfolding decode_refused
  decode_value h k l = record { answer = rw (h, k, l); list = rw (h, k, l) }

  pub decode_run : bad_size s.n s.q ≡ false → decode_short s vs ts out ≡ false → decode_bad s vs ts ≡ false
      → (r : Answer) (after : List ℕ) → answered r ≡ ran_number (decoded s vs ts) → after ≡ ran_list (decoded s vs ts) (words_for s.n) out → Decodes s vs ts out r after
  unfolding decode_refused
  decode_run h k l r after a b = record { answer = rw (h, k, l) (a ∙ (go (decoded s vs ts)).0); list = rw (h, k, l) (b ∙ (go (decoded s vs ts)).1) }
    where
      go : (e : algebra.Decoded)
          → (ran_number e ≡ first_of ((undecodable e gives 14) ∷ []))
          × (ran_list e (words_for s.n) out ≡ on_done (first_of ((undecodable e gives 14) ∷ [])) (filled (words_for s.n) (list_of e) out) out)
      go (algebra.found l) = (refl, refl)
      go algebra.foreign = (refl, refl)

-- ---- one outcome

pub encoded_injective : (r t : Result Phase Refusal) → encoded_paper r ≡ encoded_paper t → r ≡ t
encoded_injective (Ok f) (Ok g) e = let same : f.power ≡ g.power = ap (λ (t : Told). t.phase) e in ap Ok (λ j. record { power = same j })
encoded_injective (Ok f) (Err t) e = absurd (refused_number t (sym (ap (λ (t : Told). t.told.number) e)))
encoded_injective (Err r) (Ok g) e = absurd (refused_number r (ap (λ (t : Told). t.told.number) e))
encoded_injective (Err r) (Err t) e = ap Err (paper_injective (ap (λ (t : Told). t.told) e))

pub encode_outcome : (s : Set) (vs ls out : List ℕ) (r t : Result Phase Refusal) (xs ys : List ℕ) → Encodes s vs ls out r xs → Encodes s vs ls out t ys → (r ≡ t) × (xs ≡ ys)
encode_outcome s vs ls out r t xs ys a b = (encoded_injective r t (one_outcome a.answer b.answer), one_outcome a.string b.string)

pub decode_outcome : (s : Set) (vs ts out : List ℕ) (r t : Answer) (xs ys : List ℕ) → Decodes s vs ts out r xs → Decodes s vs ts out t ys → (r ≡ t) × (xs ≡ ys)
decode_outcome s vs ts out r t xs ys a b = (answered_injective (one_outcome a.answer b.answer), one_outcome a.list b.list)
