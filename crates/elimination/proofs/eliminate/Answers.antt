-- `elimination::eliminate` meets its contract: the rows passed are settled.
use Prim.Native.Nat.{ℕ, ◌*◌}
use native.Mathlib.Omega.{arith}
use mathlib.Core.Path.{◌≡◌}
use borrow.Author.Rules.{rules}
use Rattle.elimination.specs.Eliminated.{Lowest, Swept}
use Rattle.elimination.specs.Rooms.{row_at}
use Rattle.elimination.proofs.RoomLaws.{eliminating_start, eliminating_sweep, eliminating_none}
use Rattle.elimination.proofs.eliminate.Goals as goal
use Rattle.elimination.proofs.eliminate.Goals.{in-Some, in_default}

pub loop-s-init : goal.loop-s-init
loop-s-init c =
    let a = c.args in
    eliminating_start (64 * a.words) a.rows a.width a.room.now (λ i. (c.type_inv.room i).fits)

-- a sweep by the column that was found
by_found : {k s p q : ℕ} {g h : ℕ → ℕ} → q ≡ p → Swept k s q g h → Swept k s p g h
by_found e w = rw (← e) w

pub loop-s-preserved : goal.loop-s-preserved
unfolding row_at
loop-s-preserved c =
    let l = c.loop-s in
    let a = c.args in
    let n = 64 * a.words in
    elim c.match-lowest.branch [
      | in-Some w ↦
          let found : Lowest n (row_at a.width l.room l.s) w.in-Some.p = rw c.row.ensures at w.in-Some.ensures.1 in
          rw w.room-is
          (eliminating_sweep n a.rows a.width a.room.now l.s l.room l.invariant w.in-Some.p found w.sweep.new.room
          (omega arith) w.in-Some.ensures.0 (search rules) (by_found (omega (arith, w.in-Some.ensures.0)) w.sweep.ensures.0) w.sweep.ensures.1)
      | in_default w ↦
          let none : Lowest n (row_at a.width l.room l.s) n = rw c.row.ensures at w.in_default.ensures in
          rw w.room-is (eliminating_none n a.rows a.width a.room.now l.s l.room l.invariant n none (omega arith))
    ]

pub returns : goal.returns
returns c =
    let l = c.loop-s in
    let a = c.args in
    let e : l.s ≡ a.rows = omega arith in
    (rw e at l.invariant.done, l.invariant.same)
