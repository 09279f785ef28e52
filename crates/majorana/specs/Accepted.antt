-- An accepted encoding: what demand 3 asks of a row set and its vacuum, and the words in which it speaks of the calls on them.
use Rattle.std.specs.Prelude.{ℕ, ◌^◌, ◌<◌, ◌≡◌, List, true, false, get_or, Result, Ok}
use Rattle.refusal.specs.declared.Refusal.{Refusal}
use Rattle.refusal.specs.Numbers.{Answer}
use Rattle.algebra.specs.Modes.{Majorana, vacuum_rule}
use Rattle.algebra.specs.Coding as algebra
use Rattle.dense_block.specs.Words.{words_for, filled, strays}
use Rattle.pauli.specs.declared.Phase.{Phase}
use Rattle.majorana.specs.Sets.{Set, width, modes, trimmed, bits, bad_size}
use Rattle.majorana.specs.Checks.{vacuum_bad}
use Rattle.majorana.specs.Codes.{encode_short, Encodes}

-- ---- what is asked of a row set and its vacuum

pub record Sound (s : Set) (vs : List ℕ) : Type 0 where
  -- tests 1 and 17 pass: sizes, phases, no stray bit in a row or in the vacuum
  pub size : bad_size s.n s.q ≡ false
  pub good : vacuum_bad s vs ≡ false
  -- the rows anticommute in pairs
  pub rows : Majorana (modes s)
  -- the vacuum meets the rule: X parts alike, d even, e·v = d/2
  pub vacuum : vacuum_rule (modes s) (bits s.q vs) ≡ true

-- a list of n bits, and a string of q bits: no stray bit
abbrev pub Listed : Set → List ℕ → Type 0
Listed s ls = strays (trimmed s.n ls) s.n ≡ false

abbrev pub Stringed : Set → List ℕ → Type 0
Stringed s ts = strays (trimmed s.q ts) s.q ≡ false

-- ---- what encoding makes of a list

pub record EncodedTo (s : Set) (vs ls out : List ℕ) (r : Result Phase Refusal) (after : List ℕ) : Type 0 where
  pub string : ℕ
  pub phase : ℕ
  -- the algebra's answer
  pub run : algebra.encode (modes s) (bits s.q vs) (bits s.n ls) ≡ algebra.done string phase
  -- the call's: done, with the phase, and the string's words in the first w of out
  pub answer : r ≡ Ok (record { power = phase })
  pub words : after ≡ filled (width s) string out
  -- the string has q bits, and is what those words stand for: none is cut off, and none is stray
  pub low : string < 2 ^ s.q
  pub written : bits s.q after ≡ string
  pub plain : Stringed s after

-- ---- and decoding of its string

pub record DecodedTo (s : Set) (ls out : List ℕ) (r : Answer) (after : List ℕ) : Type 0 where
  -- done, and the first words of out hold the list ls
  pub answer : r ≡ Ok tt
  pub words : after ≡ filled (words_for s.n) (bits s.n ls) out
  pub same : bits s.n after ≡ bits s.n ls

-- what a decoding that is done reads off a string, on any row set
pub record DecodedFrom (s : Set) (vs ts after : List ℕ) : Type 0 where
  pub list : ℕ
  -- the algebra's answer
  pub run : algebra.decode (modes s) (bits s.q vs) (bits s.q ts) ≡ algebra.found list
  -- the list has n bits, and is what the first words of out stand for: none is cut off, and none is stray
  pub low : list < 2 ^ s.n
  pub written : bits s.n after ≡ list
  pub plain : Listed s after

-- ---- a list that encodes to a string

-- in the algebra: a list of n bits that encodes to the string t
abbrev pub Source : Set → List ℕ → ℕ → Type 0
Source s vs t = (l : ℕ) × (f : ℕ) × (l < 2 ^ s.n) × (algebra.encode (modes s) (bits s.q vs) l ≡ algebra.done t f)

-- at the calls: a call of try_encode that is done, on words of 64 bits, with a list of n bits and room for the string, and leaves the bits of ts
pub record EncodingCall (s : Set) (vs ts : List ℕ) : Type 0 where
  pub list : List ℕ
  pub out : List ℕ
  pub phase : Phase
  pub after : List ℕ
  pub list_words : (i : ℕ) → get_or list i 0 < 2 ^ 64
  pub out_words : (i : ℕ) → get_or out i 0 < 2 ^ 64
  pub listed : Listed s list
  pub long : encode_short s vs list out ≡ false
  pub promised : Encodes s vs list out (Ok phase) after
  pub leaves : bits s.q after ≡ bits s.q ts
