-- What `new` promises: a row set that it answers done on is sound with the vacuum that it wrote, so demand 3 holds of it; and it answers done on every set of rows that
-- anticommute in pairs, with X parts alike and every d even. By the laws of the algebra: such rows have a vacuum, and are independent. A vacuum that is found meets the rule, so
-- 13 never comes from `new`.
use Prim.Native.Nat.{ℕ, ◌*◌, ◌<◌}
use native.Mathlib.Omega.{arith}
use mathlib.Core.Path.{◌≡◌, refl, sym, ap, ◌∙◌}
use mathlib.Core.List.{List, [], ◌∷◌}
use mathlib.Core.Bool.{Bool, true, false, not}
use Rattle.refusal.specs.Numbers.{Answer, Paper, bare, answered}
use Rattle.refusal.specs.Search.{Pair, pair, no_pair}
use Rattle.refusal.specs.Table.{◌gives◌, ◌names◌, first_of, on_done}
use Rattle.algebra.specs.Modes.{Majorana, paired, vacuum_rule, commuting_pair}
use Rattle.algebra.specs.Choices.{dependent}
use Rattle.algebra.specs.Solving.{solvable}
use Rattle.algebra.proofs.Pairs.{majorana_of, commuting_none}
use Rattle.algebra.proofs.Independence.{anticommuting_independent}
use Rattle.algebra.proofs.Existence.{vacuum_exists}
use Rattle.dense_block.specs.Words.{filled}
use Rattle.dense_block.proofs.Strays.{no_strays}
use Rattle.majorana.specs.Sets.{Set, width, modes, trimmed, bits, bad_size, bad_set}
use Rattle.majorana.specs.Checks.{vacuum_bad, rows_short}
use Rattle.majorana.specs.Vacuums.{vacuum, new_checked, Makes}
use Rattle.majorana.specs.Accepted.{Sound}
use Rattle.dense_block.proofs.Values.{written_back}
use Rattle.majorana.proofs.SetLaws.{x_below}
use Rattle.majorana.proofs.VacuumLaws.{vacuum_low}
use Rattle.majorana.proofs.FindingTheorems.{found_least}

-- ---- done: the set is sound with the vacuum that is written

pub new_sound : (s : Set) (vs room : List ℕ) (r : Answer) (after left : List ℕ) → Makes s vs room r after left → answered r ≡ bare 0 → Sound s after
unfolding new_checked vacuum_bad
new_sound s vs room r after left made h =
    let v = vacuum (modes s) s.q in
    let p : new_checked s vs room ≡ bare 0 = sym made.answer ∙ h in
    let t = go (bad_size s.n s.q) (rows_short s vs room) (bad_set s) (solvable (modes s) s.q) (commuting_pair (modes s)) (dependent (modes s)) (vacuum_rule (modes s) v) (ap (λ (p : Paper). p.number) p) in
    let e : after ≡ filled (width s) v vs = made.string ∙ ap (λ (p : Paper). on_done p (filled (width s) v vs) vs) p in
    let b : bits s.q after ≡ v = ap (bits s.q) e ∙ written_back s.q v vs (vacuum_low (modes s) s.q) in
    record {
      size = t.0;
      good = rw t.1 (no_strays (trimmed s.q after) s.q (rw b (vacuum_low (modes s) s.q)));
      rows = majorana_of (modes s) t.2;
      vacuum = ap (vacuum_rule (modes s)) b ∙ t.3;
    }
  where
    go : (size short bad some : Bool) (commute : Pair) (dep rule : Bool)
        → (first_of ((size gives 1) ∷ (short gives 2) ∷ (bad gives 17) ∷ (not some gives 12) ∷ (commute names 10) ∷ (dep gives 11) ∷ (not rule gives 13) ∷ [])).number ≡ 0
        → (size ≡ false) × (bad ≡ false) × (commute ≡ no_pair) × (rule ≡ true)
    go true short bad some commute dep rule h = absurd (omega arith)
    go false true bad some commute dep rule h = absurd (omega arith)
    go false false true some commute dep rule h = absurd (omega arith)
    go false false false false commute dep rule h = absurd (omega arith)
    go false false false true (pair i j) dep rule h = absurd (omega arith)
    go false false false true no_pair true rule h = absurd (omega arith)
    go false false false true no_pair false true h = (refl, refl, refl, refl)
    go false false false true no_pair false false h = absurd (omega arith)

-- ---- rows that anticommute, with X parts alike and every d even: done

pub new_always : (s : Set) (vs room : List ℕ) → bad_size s.n s.q ≡ false → rows_short s vs room ≡ false → bad_set s ≡ false
    → Majorana (modes s) → ((i : ℕ) → i < s.n → paired (modes s) i ≡ true) → new_checked s vs room ≡ bare 0
unfolding new_checked
new_always s vs room size long good rows pairs =
    let some = vacuum_exists (modes s) s.q rows pairs (λ i h. x_below s.n s.q (width s) s.xs s.zs s.ps good (2 * i) (omega arith)) in
    rw (size, long, good, some, commuting_none (modes s) rows, anticommuting_independent (modes s) rows, (found_least (modes s) s.q some).rule)
