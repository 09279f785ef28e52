-- What the calls on a row set and its vacuum make of what building a tree left in the slices. `Encodes` is a call of try_encode, `Decodes` one of decode_zbasis_state, with the
-- slices as they were lent and are left. Needed lengths: ceil(n/64) words for a list, ceil(q/64) for a string.
use Rattle.std.specs.Prelude.{◌≡◌, ◌↔◌, List, false, ℕ, ◌≤◌, length, Result, Err}
use Rattle.refusal.specs.declared.Refusal.{Refusal}
use Rattle.refusal.specs.declared.Refusal.TheVariants.{Undecodable}
use Rattle.refusal.specs.Numbers.{Answer}
use Rattle.dense_block.specs.Words.{words_for}
use Rattle.pauli.specs.declared.Phase.{Phase}
use Rattle.majorana.specs.Sets.{Set, width, bits}
use Rattle.majorana.specs.Codes.{encode_short, Encodes, decode_short, Decodes}
use Rattle.majorana.specs.Accepted.{Listed, Stringed, EncodedTo, DecodedTo, EncodingCall}
use Rattle.ternarytree.specs.Building.{Outputs}

-- ---- lengths

-- each slice is as long as it was lent
pub record SameLengths (lent : Outputs) (xs zs ps vs room : List ℕ) : Type 0 where
  pub x_parts : length xs ≡ length lent.xs
  pub z_parts : length zs ≡ length lent.zs
  pub phases : length ps ≡ length lent.ps
  pub vacuum : length vs ≡ length lent.vs
  pub work : length room ≡ length lent.room

-- the slices of the row set and the vacuum are long enough: 2 is not given to a list or a string of the needed length, with room for the other
pub record LongEnough (s : Set) (vs : List ℕ) : Type 0 where
  pub encode : (ls out : List ℕ) → words_for s.n ≤ length ls → width s ≤ length out → encode_short s vs ls out ≡ false
  pub decode : (ts out : List ℕ) → width s ≤ length ts → words_for s.n ≤ length out → decode_short s vs ts out ≡ false

-- ---- demand 3 at the calls: lists, strings and rooms have the needed lengths, and no more is asked of the slices

pub record FaithfulCalls (s : Set) (vs : List ℕ) : Type 0 where
  -- every list of n bits encodes
  pub encodes : (ls out : List ℕ) (r : Result Phase Refusal) (after : List ℕ)
      → Listed s ls → words_for s.n ≤ length ls → width s ≤ length out → Encodes s vs ls out r after
      → EncodedTo s vs ls out r after
  -- no two get the same string
  pub apart : (ls ks out pout : List ℕ) (r t : Result Phase Refusal) (after pafter : List ℕ)
      → Listed s ls → words_for s.n ≤ length ls → width s ≤ length out → Encodes s vs ls out r after
      → Listed s ks → words_for s.n ≤ length ks → width s ≤ length pout → Encodes s vs ks pout t pafter
      → bits s.q after ≡ bits s.q pafter → bits s.n ls ≡ bits s.n ks
  -- decoding gives the list back
  pub back : (ls out dout : List ℕ) (r : Result Phase Refusal) (after : List ℕ) (t : Answer) (list : List ℕ)
      → Listed s ls → words_for s.n ≤ length ls → width s ≤ length out → Encodes s vs ls out r after
      → words_for s.n ≤ length dout → Decodes s vs after dout t list
      → DecodedTo s ls dout t list
  -- a string of q bits is refused exactly if no call of try_encode leaves it
  pub refuses : (ts out : List ℕ) (r : Answer) (after : List ℕ)
      → Stringed s ts → width s ≤ length ts → words_for s.n ≤ length out → Decodes s vs ts out r after
      → (r ≡ Err Undecodable) ↔ (EncodingCall s vs ts → ⊥)
