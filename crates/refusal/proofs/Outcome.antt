-- One outcome: two answers that meet one equation are the same, since an answer is known by its number and values.
use Prim.Native.Nat.{ℕ, ◌-◌}
use native.Mathlib.Omega.{arith}
use mathlib.Core.Path.{◌≡◌, refl, sym, ap, ◌∙◌}
use mathlib.Core.List.{List, [], ◌∷◌}
use lib.ListN.{get_or}
use Rattle.refusal.specs.declared.Refusal.{Refusal}
use Rattle.refusal.specs.declared.Refusal.TheVariants.{Size, Short, Qubits, Child, SelfChild, SecondParent, SecondEntry, Roots, Leaf, Commuting, Dependent, NoVacuum, Vacuum, Undecodable, Unencodable, Malformed, Value, OddModes}
use Rattle.std.specs.Prelude.{Ok, Err}
use Rattle.refusal.specs.Numbers.{Paper, paper, Answer, answered}
use Rattle.refusal.specs.Table.{if_zero}

-- what meets an equation is settled by it
pub one_outcome : {A : Type 0} {a b c : A} → a ≡ c → b ≡ c → a ≡ b
one_outcome h k = h ∙ sym k

-- the refusals in the order of their numbers, 10 with the pair of p
abbrev refusals : Paper → List Refusal
refusals p =
    Size ∷ Short ∷ Qubits ∷ Child ∷ SelfChild ∷ SecondParent ∷ SecondEntry ∷ Roots ∷ Leaf ∷ Commuting p.first p.second
    ∷ Dependent ∷ NoVacuum ∷ Vacuum ∷ Undecodable ∷ Unencodable ∷ Malformed ∷ Value ∷ OddModes ∷ []

-- the answer that a number and a pair stand for
abbrev answer_of : Paper → Answer
answer_of p = if_zero p.number (Ok tt) (Err (get_or (refusals p) (p.number - 1) Size))

of_paper : (r : Refusal) → answer_of (paper r) ≡ Err r
of_paper Size = refl
of_paper Short = refl
of_paper Qubits = refl
of_paper Child = refl
of_paper SelfChild = refl
of_paper SecondParent = refl
of_paper SecondEntry = refl
of_paper Roots = refl
of_paper Leaf = refl
of_paper (Commuting i j) = refl
of_paper Dependent = refl
of_paper NoVacuum = refl
of_paper Vacuum = refl
of_paper Undecodable = refl
of_paper Unencodable = refl
of_paper Malformed = refl
of_paper Value = refl
of_paper OddModes = refl

of_answered : (a : Answer) → answer_of (answered a) ≡ a
of_answered (Ok tt) = refl
of_answered (Err r) = of_paper r

pub answered_injective : {a b : Answer} → answered a ≡ answered b → a ≡ b
answered_injective {a} {b} e = sym (of_answered a) ∙ ap answer_of e ∙ of_answered b

pub paper_injective : {r s : Refusal} → paper r ≡ paper s → r ≡ s
paper_injective {r} {s} e = let same : ◌≡◌ {A = Answer} (Err r) (Err s) = answered_injective e in cc

-- a refusal's number is not 0
pub refused_number : (r : Refusal) → (paper r).number ≡ 0 → ⊥
refused_number r e =
    let same : ◌≡◌ {A = Answer} (Err r) (Ok tt) = sym (of_paper r) ∙ ap (λ (k : ℕ). if_zero k (Ok tt) (Err (get_or (refusals (paper r)) (k - 1) Size))) e in
    let z : ◌≡◌ {A = ℕ} 0 1 = cc in
    omega arith
