-- `check::first_commuting` meets its contract: no pair passed commutes, and the first that does ends both loops.
use Prim.Native.Nat.{ℕ, ◌*◌}
use native.Mathlib.Omega.{arith}
use mathlib.Core.Path.{sym, ap, ◌∙◌}
use lib.Dec.{eqb}
use Rattle.refusal.proofs.Searches.{pair_of_lem, pair_none}
use Rattle.algebra.specs.Rows.{clash}
use Rattle.algebra.specs.Modes.{commuting_pair}
use Rattle.majorana.specs.HeldRows.{modes_of}
use Rattle.majorana.specs.Rooms.{pair_of}
use Rattle.majorana.proofs.check.first_commuting.Goals as goal

pub returns-after-search : goal.returns-after-search
unfolding commuting_pair
returns-after-search c =
    let r = c.args.rows.now in
    let meet = λ (g : ℕ) (h : ℕ). eqb (clash ((modes_of r).row g) ((modes_of r).row h)) 0 in
    let o = c.search in
    ap pair_of o.invariant.0 ∙ sym (pair_none (2 * r.set.modes) meet (λ i d h l. o.invariant.1 i d (omega arith) h l))

pub returns-then-meet : goal.returns-then-meet
unfolding commuting_pair
returns-then-meet c =
    let r = c.args.rows.now in
    let meet = λ (g : ℕ) (h : ℕ). eqb (clash ((modes_of r).row g) ((modes_of r).row h)) 0 in
    let l = c.loop-k in
    let o = c.search in
    let j = c.row-left.ensures in
    let k = c.row.ensures in
    let commute = sym (rw (j.phase, j.x, j.z, k.phase, k.x, k.z) at c.meet.ensures.commute) ∙ c.if-meet.true in
    sym (pair_of_lem (2 * r.set.modes) meet o.j l.k (omega arith) (omega arith) commute o.invariant.1 (λ d h m. l.invariant.1 d h m))
