-- Turns of a coefficient compose as phases add: four quarter turns are none, since negating twice changes nothing, of a NaN too. A real number turned and marked stands
-- for the complex turn, by computing each of the four.
use Prim.Native.Nat.{ℕ, zero, suc, ◌+◌, ◌*◌, ◌/◌, ◌%◌, ◌<◌}
use native.Mathlib.Nat.{zero-add, suc-add, zero-mul}
use native.Mathlib.Omega.{arith}
use mathlib.Core.Path.{◌≡◌, refl, sym, ap, ◌∙◌}
use mathlib.Core.Bool.{Bool, true, false, ◌||◌, beq}
use borrow.Author.Tests.{eq-eqb}
use lib.Ieee.{Float, nan, inf, fin, neg, eq, level, up, down}
use Rattle.std.specs.Float.{float_is_finite}
use Rattle.refusal.proofs.Bools.{not_not}
use Rattle.pauli.specs.declared.Coefficient.{Coefficient}
use Rattle.pauli.specs.declared.Marked.TheVariants.{Real}
use Rattle.pauli.specs.Coefficients.{quarter, turned, marked, marked_quarter, stands, is_finite, plain_zero, SameNumber}

pub neg_neg : (x : Float) → neg (neg x) ≡ x
unfolding neg
neg_neg nan = refl
neg_neg (inf s) = ap inf (not_not s)
neg_neg (fin s m e) = ap (λ (t : Bool). fin t m e) (not_not s)

-- three quarter turns, without the double negation
pub three_turns : (c : Coefficient) → record { re = c.im; im = neg c.re } ≡ turned 3 c
three_turns c = sym back
  where
    back : turned 3 c ≡ record { re = c.im; im = neg c.re }
    back = λ i. record { re = neg_neg c.im i; im = neg c.re }

four_turns : (c : Coefficient) → turned 4 c ≡ c
four_turns c = λ i. record { re = neg_neg c.re i; im = neg_neg c.im i }

turned_add : (a b : ℕ) (c : Coefficient) → turned (a + b) c ≡ turned a (turned b c)
turned_add zero b c = ap (λ (k : ℕ). turned k c) (zero-add b)
turned_add (suc a) b c = ap (λ (k : ℕ). turned k c) (suc-add a b) ∙ ap quarter (turned_add a b c)

-- whole rounds change nothing
rounds : (k r : ℕ) (c : Coefficient) → turned (r + 4 * k) c ≡ turned r c
rounds zero r c = let e : r + 4 * 0 ≡ r = omega arith in ap (λ (n : ℕ). turned n c) e
rounds (suc k) r c =
    let e : r + 4 * suc k ≡ (r + 4 * k) + 4 = omega arith in
    ap (λ (n : ℕ). turned n c) e ∙ turned_add (r + 4 * k) 4 c ∙ ap (turned (r + 4 * k)) (four_turns c) ∙ rounds k r c

pub turned_mod : (k : ℕ) (c : Coefficient) → turned (k % 4) c ≡ turned k c
turned_mod k c =
    let e : k % 4 + 4 * (k / 4) ≡ k = omega arith in
    sym (rounds (k / 4) (k % 4) c) ∙ ap (λ (n : ℕ). turned n c) e

-- turning by the sum of two phases is turning by one after the other
pub turns_compose : (a b : ℕ) (c : Coefficient) → turned ((a + b) % 4) c ≡ turned a (turned b c)
turns_compose a b c = turned_mod (a + b) c ∙ turned_add a b c

-- ---- a real coefficient: the same turns, with the mark for the part that is zero

-- one power more is a quarter turn more
pub marked_turns : (k : ℕ) (x : Float) → k < 4 → marked ((k + 1) % 4) x ≡ marked_quarter (marked k x)
marked_turns zero x h = refl
marked_turns (suc zero) x h = refl
marked_turns (suc (suc zero)) x h = refl
marked_turns (suc (suc (suc zero))) x h = ap Real (sym (neg_neg x))
marked_turns (suc (suc (suc (suc k)))) x h = absurd (omega arith)

-- what is marked stands for the complex turn of the real number. Turning negates a part that is zero, so the two are the same but for the sign of that zero
pub marked_stands : (k : ℕ) (x : Float) → SameNumber (stands (marked k x)) (turned k (stands (Real x)))
unfolding neg
marked_stands zero x = record { re = refl; im = refl }
marked_stands (suc zero) x = record { re = refl; im = refl }
marked_stands (suc (suc zero)) x = record { re = refl; im = refl }
marked_stands (suc (suc (suc zero))) x = record { re = refl; im = refl }
marked_stands (suc (suc (suc (suc k)))) x = rw (four_turns (turned k (stands (Real x)))) (marked_stands k x)

or_true : (b : Bool) → (b || true) ≡ true
or_true true = refl
or_true false = refl

level_self : (s : Bool) (a : ℕ) → level s a s a ≡ true
level_self true a = rw (eq-eqb a a refl)
level_self false a = rw (eq-eqb a a refl)

-- where the first is finite, the same number is what `==` takes for the same
pub same_equal : (x y : Float) → is_finite x ≡ true → plain_zero x ≡ plain_zero y → eq x y ≡ true
unfolding eq
same_equal nan y h k = cc
same_equal (inf s) y h k = cc
same_equal (fin s zero e) nan h k = cc
same_equal (fin s zero e) (inf t) h k = cc
same_equal (fin s zero e) (fin t zero d) h k = rw (zero-mul (up e), zero-mul (down d), zero-mul (up d), zero-mul (down e)) (or_true (beq s t))
same_equal (fin s zero e) (fin t (suc n) d) h k = cc
same_equal (fin s (suc m) e) nan h k = cc
same_equal (fin s (suc m) e) (inf t) h k = cc
same_equal (fin s (suc m) e) (fin t zero d) h k = cc
same_equal (fin s (suc m) e) (fin t (suc n) d) h k = ap (λ (y : Float). eq (fin s (suc m) e) y) (sym k) ∙ level_self s (suc m * up e * down e)

-- std's test says the same
pub std_finite : (x : Float) → float_is_finite x ≡ is_finite x
unfolding float_is_finite
std_finite nan = refl
std_finite (inf s) = refl
std_finite (fin s m e) = refl
