-- One outcome: what `RowSet::rows` answers is settled by its number and its set, and what `Rows::get` hands out by the rows and k.
use Rattle.std.proofs.Common.{ℕ, ◌*◌, ◌≤◌, ◌≡◌, refl, sym, subst, ◌∙◌, arith, Option, Some, None, is_some, MatchOption, Result, Ok}
use Rattle.refusal.specs.declared.Refusal.{Refusal}
use Rattle.refusal.specs.Numbers.{answered}
use Rattle.refusal.proofs.Outcome.{one_outcome}
use Rattle.pauli.specs.declared.Row.{Row}
use Rattle.majorana.specs.declared.RowSet.{RowSet}
use Rattle.majorana.specs.declared.rows.Rows.{Rows}
use Rattle.majorana.specs.HeldRows.{IsRow, RowsMade}

pub rows_outcome : (s : RowSet) (w : ℕ) (a b : Result Rows Refusal) → RowsMade s w a → RowsMade s w b
    → (answered a ≡ answered b) × ((t u : Rows) → a ≡ Ok t → b ≡ Ok u → (t.set ≡ u.set) × (t.w ≡ u.w))
rows_outcome s w a b p q =
    (one_outcome p.answer q.answer, λ t u e f. ((p.rows t e).0 ∙ sym (q.rows u f).0, (p.rows t e).1 ∙ sym (q.rows u f).1))

-- two rows with the same phase and the same words
pub record SameRow (r t : Row) : Type 0 where
  pub phase : r.phase.power ≡ t.phase.power
  pub x : r.x.now ≡ t.x.now
  pub z : r.z.now ≡ t.z.now

pub same_row : (rows : Rows) (k : ℕ) (r t : Row) → IsRow rows k r → IsRow rows k t → SameRow r t
same_row rows k r t p q = record { phase = p.phase ∙ sym q.phase; x = p.x ∙ sym q.x; z = p.z ∙ sym q.z }

pub get_outcome : (rows : Rows) (k : ℕ) (a b : Option Row)
    → MatchOption a (2 * rows.set.modes ≤ k) (IsRow rows k) → MatchOption b (2 * rows.set.modes ≤ k) (IsRow rows k)
    → (is_some a ≡ is_some b) × ((r t : Row) → a ≡ Some r → b ≡ Some t → SameRow r t)
get_outcome rows k None None p q = (refl, λ r t e f. cc)
get_outcome rows k None (Some u) p q = absurd (omega (arith, q.within))
get_outcome rows k (Some v) None p q = absurd (omega (arith, p.within))
get_outcome rows k (Some v) (Some u) p q = (
  refl,
  λ r t e f. let r-is : v ≡ r = cc in let t-is : u ≡ t = cc in
      same_row rows k r t (subst (IsRow rows k) r-is p) (subst (IsRow rows k) t-is q),
)
