-- What encoding and decoding answer and leave.
use Rattle.std.specs.Prelude.{ℕ, ◌≡◌, List, [], ◌∷◌, Bool, true, false, ◌||◌, length, Result, Ok, Err}
use Rattle.refusal.specs.declared.Refusal.{Refusal}
use Rattle.refusal.specs.Numbers.{Paper, Answer, bare, paper, answered}
use Rattle.refusal.specs.Table.{◌gives◌, first_of, ◌of◌, short, on_done}
use Rattle.algebra.specs.Coding as algebra
use Rattle.dense_block.specs.Words.{words_for, filled, strays}
use Rattle.pauli.specs.declared.Phase.{Phase}
use Rattle.majorana.specs.Sets.{Set, width, modes, trimmed, bits, bad_size, set_lent, bad_set}

-- ---- encoding: a list of n bits to a string of q bits

-- what the algebra makes of the list
unfoldable pub encoded : Set → List ℕ → List ℕ → algebra.Encoded
encoded s vs ls = algebra.encode (modes s) (bits s.q vs) (bits s.n ls)

abbrev pub unencodable : algebra.Encoded → Bool
unencodable (algebra.done t f) = false
unencodable algebra.refused = true

abbrev pub state_of : algebra.Encoded → ℕ
state_of (algebra.done t f) = t
state_of algebra.refused = 0

abbrev pub phase_of : algebra.Encoded → ℕ
phase_of (algebra.done t f) = f
phase_of algebra.refused = 0

unfoldable pub encode_short : Set → List ℕ → List ℕ → List ℕ → Bool
encode_short s vs ls out =
    short (set_lent s.n (width s) (length s.xs) (length s.zs) (length s.ps)
    ((width s of length vs) ∷ (words_for s.n of length ls) ∷ (width s of length out) ∷ []))

-- the row set, or a stray bit in the vacuum or in the list
unfoldable pub encode_bad : Set → List ℕ → List ℕ → Bool
encode_bad s vs ls = bad_set s || (strays (trimmed s.q vs) s.q || strays (trimmed s.n ls) s.n)

unfoldable pub encode_refused : Set → List ℕ → List ℕ → List ℕ → Paper
encode_refused s vs ls out =
    first_of (
    (bad_size s.n s.q gives 1)
    ∷ (encode_short s vs ls out gives 2)
    ∷ (encode_bad s vs ls gives 17)
    ∷ (unencodable (encoded s vs ls) gives 15)
    ∷ [])

-- an answer in numbers: its number and pair, and the phase, 0 unless it is done
pub record Told : Type 0 where
  pub told : Paper
  pub phase : ℕ

abbrev pub encoded_paper : Result Phase Refusal → Told
encoded_paper (Ok f) = record { told = bare 0; phase = f.power }
encoded_paper (Err r) = record { told = paper r; phase = 0 }

-- the phase is in the answer; the string is written only if it is done
pub record Encodes (s : Set) (vs ls out : List ℕ) (r : Result Phase Refusal) (after : List ℕ) : Type 0 where
  pub answer : encoded_paper r ≡ record { told = encode_refused s vs ls out; phase = on_done (encode_refused s vs ls out) (phase_of (encoded s vs ls)) 0 }
  pub string : after ≡ on_done (encode_refused s vs ls out) (filled (width s) (state_of (encoded s vs ls)) out) out

-- ---- decoding: a string of q bits to a list of n bits

unfoldable pub decoded : Set → List ℕ → List ℕ → algebra.Decoded
decoded s vs ts = algebra.decode (modes s) (bits s.q vs) (bits s.q ts)

abbrev pub undecodable : algebra.Decoded → Bool
undecodable (algebra.found l) = false
undecodable algebra.foreign = true

abbrev pub list_of : algebra.Decoded → ℕ
list_of (algebra.found l) = l
list_of algebra.foreign = 0

unfoldable pub decode_short : Set → List ℕ → List ℕ → List ℕ → Bool
decode_short s vs ts out =
    short (set_lent s.n (width s) (length s.xs) (length s.zs) (length s.ps)
    ((width s of length vs) ∷ (width s of length ts) ∷ (words_for s.n of length out) ∷ []))

unfoldable pub decode_bad : Set → List ℕ → List ℕ → Bool
decode_bad s vs ts = bad_set s || (strays (trimmed s.q vs) s.q || strays (trimmed s.q ts) s.q)

unfoldable pub decode_refused : Set → List ℕ → List ℕ → List ℕ → Paper
decode_refused s vs ts out =
    first_of (
    (bad_size s.n s.q gives 1)
    ∷ (decode_short s vs ts out gives 2)
    ∷ (decode_bad s vs ts gives 17)
    ∷ (undecodable (decoded s vs ts) gives 14)
    ∷ [])

pub record Decodes (s : Set) (vs ts out : List ℕ) (r : Answer) (after : List ℕ) : Type 0 where
  pub answer : answered r ≡ decode_refused s vs ts out
  pub list : after ≡ on_done (decode_refused s vs ts out) (filled (words_for s.n) (list_of (decoded s vs ts)) out) out
