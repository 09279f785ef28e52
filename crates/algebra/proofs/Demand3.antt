-- Rows that anticommute, with a vacuum, encode faithfully: a list encodes to v xor the c of its occupied modes, and decoding reads them off by duality.
use Prim.Native.Nat.{ℕ, ◌^◌, ◌<◌}
use native.Mathlib.Nat.{le_refl, div-eq_of_lt}
use native.Mathlib.Omega.{arith}
use mathlib.Core.Path.{◌≡◌, refl, sym, ◌∙◌}
use mathlib.Core.Logic.{◌≢◌, ◌↔◌}
use mathlib.Core.Bool.{true}
use Rattle.algebra.specs.Modes.{Modes, vacuum_rule, Majorana}
use Rattle.algebra.specs.Coding.{encode, done, decode, Decoded, found, foreign}
use Rattle.algebra.specs.Faithful.{Faithful}
use Rattle.algebra.proofs.Duals.{all_empty, is_paired, dual_same, dual_other}
use Rattle.algebra.proofs.Operators.{encoded_state}
use Rattle.algebra.proofs.Codings.{decoded_below, decoded_state, encodes, decodes}

module _ (m : Modes) (v : ℕ) (maj : Majorana m) (vac : vacuum_rule m v ≡ true) where
  to : (l : ℕ) → (s : ℕ) × (f : ℕ) × (encode m v l ≡ done s f)
  unfolding encode
  to l = encodes m v maj vac l m.n v 0 (le_refl m.n) (all_empty m v vac)

  back : (l s f : ℕ) → l < 2 ^ m.n → encode m v l ≡ done s f → decode m v s ≡ found l
  unfolding decode
  back l s f h g = rw (encoded_state m l v s f g, ← div-eq_of_lt h) (decodes m v maj vac l m.n (le_refl m.n))

  from : (l s : ℕ) → decode m v s ≡ found l → (l < 2 ^ m.n) × ((f : ℕ) × (encode m v l ≡ done s f))
  from l s h =
      let t = to l in
      let same : t.0 ≡ s = encoded_state m l v t.0 t.1 t.2 ∙ sym (decoded_state m v l s h) in
      (decoded_below m v l s h, (t.1, rw (← same) t.2))

  refuses : (s : ℕ) → (decode m v s ≡ foreign) ↔ ((l f : ℕ) → l < 2 ^ m.n → encode m v l ≢ done s f)
  refuses s = (
    λ h l f g q. let b = back l s f g q in let z : ◌≡◌ {A = ℕ} 0 1 = cc in omega arith,
    go (decode m v s) refl,
  )
    where
      go : (o : Decoded) → decode m v s ≡ o → ((l f : ℕ) → l < 2 ^ m.n → encode m v l ≢ done s f) → decode m v s ≡ foreign
      go (found l) h none = let r = from l s h in absurd (none l r.1.0 r.0 r.1.1)
      go foreign h none = h

  pub demand_3 : Faithful m v
  demand_3 = record {
    dual_same = dual_same m maj (is_paired m v vac);
    dual_other = dual_other m maj (is_paired m v vac);
    encodes = λ l h. to l;
    apart = λ l l' s f f' h h' g g'. let a = back l s f h g in let b = back l' s f' h' g' in cc;
    back = back;
    from = from;
    refuses = refuses;
  }
