-- Each exported call has one outcome: two structs that meet its contract on the same input, with all that the slices lent for writing hold at exit, are equal. Each law is the
-- outcome law of the call behind, carried over by `tells_one`; of a tree's number it is taken where the number names a tree, and the refusal of another number settles the rest.
use Prim.Native.Nat.{ℕ, ◌≤◌}
use native.Mathlib.Decide.{dec_le}
use native.Mathlib.Omega.{arith}
use mathlib.Core.Path.{◌≡◌, refl, sym, ap, ◌∙◌}
use mathlib.Core.List.{List}
use mathlib.Core.Bool.{Bool}
use lib.Ieee.{Float}
use Rattle.refusal.specs.Numbers.{Answer, answered}
use Rattle.refusal.proofs.Outcome.{one_outcome, answered_injective}
use Rattle.pauli.specs.declared.Coefficient.{Coefficient}
use Rattle.pauli.specs.Product as pauli
use Rattle.pauli.proofs.Products.{multiply_outcome}
use Rattle.majorana.specs.Sets.{Set}
use Rattle.majorana.specs.Checks.{vacuum_checked, RowsChecked}
use Rattle.majorana.specs.Vacuums.{Solves, Makes}
use Rattle.majorana.specs.Codes.{Encodes, Decodes}
use Rattle.majorana.proofs.CheckAnswers.{vacuum_outcome, rows_outcome}
use Rattle.majorana.proofs.VacuumAnswers.{solve_outcome, new_outcome}
use Rattle.majorana.proofs.CodeAnswers.{encode_outcome, decode_outcome}
use Rattle.products.specs.Products.{Multiplies, RealMultiplies}
use Rattle.products.proofs.ProductAnswers.{product_outcome, real_outcome}
use Rattle.enumeration.specs.Enumerations.{Outs, Enumerated}
use Rattle.enumeration.proofs.EnumerationAnswers.{enumeration_outcome}
use Rattle.maxnto.specs.Call as maxnto
use Rattle.maxnto.proofs.Outcomes.{maxnto_outcome}
use Rattle.ternarytree.specs.Building.{given, FlatBuilt, asked}
use Rattle.ternarytree.proofs.Theorems.{Same, flatpack_outcome, named_outcome}
use Rattle.exports.specs.Flags.{flags}
use Rattle.exports.specs.Behind.{OneOutcome, answer_told, encoded_told, product_told, multiplied_told, real_told, named_by, Slices, NumberBuilt}

-- an exported call has one outcome where the call behind it has
pub tells_one : {A C E : Type 0} (told : A → C) (P : E → A → Type 0) → ((d e : E) (a b : A) → P d a → P e b → (d ≡ e) × (told a ≡ told b)) → OneOutcome told P
tells_one told P one d e r s t u =
    let h = one d e t.behind u.behind t.holds u.holds in
    (h.0, t.stands ∙ h.1 ∙ sym u.stands)

-- ---- row sets

module _ (s : Set) (vs : List ℕ) where
  -- no slice is lent for writing
  pub check_vacuum_one : OneOutcome answer_told (λ (e : Unit {0}) a. answered a ≡ vacuum_checked s vs)
  check_vacuum_one = tells_one answer_told _ (λ d e a b h k. (refl, ap answer_told (vacuum_outcome s vs a b h k)))

  module _ (room : List ℕ) where
    pub check_rows_one : OneOutcome answer_told (λ (after : List ℕ) a. RowsChecked s vs room a after)
    check_rows_one = tells_one answer_told _ (λ d e a b h k. let (same, left) = rows_outcome s vs room a b d e h k in (left, ap answer_told same))

    pub determine_vacuum_state_one : OneOutcome answer_told (λ (after : List ℕ × List ℕ) a. Solves s vs room a after.0 after.1)
    determine_vacuum_state_one = tells_one answer_told _ (λ d e a b h k.
        let (same, string, work) = solve_outcome s vs room a b d.0 d.1 e.0 e.1 h k in
        (λ i. (string i, work i), ap answer_told same))

    pub new_one : OneOutcome answer_told (λ (after : List ℕ × List ℕ) a. Makes s vs room a after.0 after.1)
    new_one = tells_one answer_told _ (λ d e a b h k.
        let (same, string, work) = new_outcome s vs room a b d.0 d.1 e.0 e.1 h k in
        (λ i. (string i, work i), ap answer_told same))

  module _ (ls out : List ℕ) where
    pub try_encode_one : OneOutcome encoded_told (λ (after : List ℕ) a. Encodes s vs ls out a after)
    try_encode_one = tells_one encoded_told _ (λ d e a b h k. let (same, string) = encode_outcome s vs ls out a b d e h k in (string, ap encoded_told same))

    pub decode_zbasis_state_one : OneOutcome answer_told (λ (after : List ℕ) a. Decodes s vs ls out a after)
    decode_zbasis_state_one = tells_one answer_told _ (λ d e a b h k. let (same, list) = decode_outcome s vs ls out a b d e h k in (list, ap answer_told same))

  pub apply_mode_enumeration_one : (ms : List ℕ) (old : Outs) → OneOutcome answer_told (λ (new : Outs) a. Enumerated s vs ms old a new)
  apply_mode_enumeration_one ms old = tells_one answer_told _ (λ d e a b h k. let (same, left) = enumeration_outcome s vs ms old a b d e h k in (left, ap answer_told same))

-- ---- products

module _ (s : Set) (ks oxs ozs : List ℕ) where
  pub product_one : (c : Coefficient) → OneOutcome multiplied_told (λ (after : List ℕ × List ℕ) a. Multiplies s ks c oxs ozs a after.0 after.1)
  product_one c = tells_one multiplied_told _ (λ d e a b h k.
      let (same, x, z) = product_outcome s ks oxs ozs d.0 e.0 d.1 e.1 c a b h k in
      (λ i. (x i, z i), ap multiplied_told same))

  pub product_real_one : (c : Float) → OneOutcome real_told (λ (after : List ℕ × List ℕ) a. RealMultiplies s ks c oxs ozs a after.0 after.1)
  product_real_one c = tells_one real_told _ (λ d e a b h k.
      let (same, x, z) = real_outcome s ks oxs ozs d.0 e.0 d.1 e.1 c a b h k in
      (λ i. (x i, z i), ap real_told same))

pub multiply_one : (i : pauli.Input) → OneOutcome product_told (λ (after : List ℕ × List ℕ) a. pauli.Multiplied i a after.0 after.1)
multiply_one i = tells_one product_told _ (λ d e a b h k.
    let (same, left) = multiply_outcome i a b d.0 e.0 d.1 e.1 h k in
    (λ j. (left.0 j, left.1 j), ap product_told same))

-- ---- trees and MaxNTO

left_same : {r s : Answer} (d e : Slices) → Same r s d.xs d.zs d.ps d.vs d.room e.xs e.zs e.ps e.vs e.room → d ≡ e
left_same d e h i = record { xs = h.x_parts i; zs = h.z_parts i; ps = h.phases i; vs = h.vacuum i; room = h.work i }

-- with leaves: from_flatpack; without: from_flatpack_naive
pub from_flatpack_one : (leaves : Bool) (n q : ℕ) (es bytes : List ℕ) (old : Slices)
    → OneOutcome answer_told (λ (new : Slices) a. FlatBuilt (given leaves n q es (flags n bytes) old.xs old.zs old.ps old.vs old.room) a new.xs new.zs new.ps new.vs new.room)
from_flatpack_one leaves n q es bytes old = tells_one answer_told _ (λ d e a b h k.
    let same = flatpack_outcome (given leaves n q es (flags n bytes) old.xs old.zs old.ps old.vs old.room) a b _ _ _ _ _ _ _ _ _ _ h k in
    (left_same d e same, ap answer_told same.answers))

pub from_name_one : (tree n q : ℕ) (old : Slices) → OneOutcome answer_told (λ (new : Slices) a. NumberBuilt tree n q old a new)
from_name_one tree n q old = tells_one answer_told _ (λ d e a b h k. settles d e a b h k (dec_le tree 3))
  where
    settles : (d e : Slices) (a b : Answer) → NumberBuilt tree n q old a d → NumberBuilt tree n q old b e → Dec (tree ≤ 3) → (d ≡ e) × (answer_told a ≡ answer_told b)
    settles d e a b h k (yes l) =
        let same = named_outcome (asked (named_by tree) n q old.xs old.zs old.ps old.vs old.room) a b _ _ _ _ _ _ _ _ _ _ (h.named l) (k.named l) in
        (left_same d e same, ap answer_told same.answers)
    settles d e a b h k (no l) =
        let (told, kept) = h.other (omega (arith, l)) in
        let (told', kept') = k.other (omega (arith, l)) in
        let same : a ≡ b = answered_injective (one_outcome told told') in
        (one_outcome kept kept', ap answer_told same)

pub maxnto_one : (i : maxnto.Input) → OneOutcome answer_told (λ (after : List ℕ × List ℕ × List ℕ) a. maxnto.Built i a after.0 after.1 after.2)
maxnto_one i = tells_one answer_told _ (λ d e a b h k.
    let (same, left) = maxnto_outcome i a b d.0 e.0 d.1 e.1 d.2 e.2 h k in
    (λ j. (left.0 j, left.1.0 j, left.1.1 j), ap answer_told same))
