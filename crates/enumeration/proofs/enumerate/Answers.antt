-- `enumeration::enumerate` meets its contract: the map, then the row check, then the outputs written.
use Prim.Native.Nat.{ℕ, ◌*◌, ◌≤◌}
use native.Mathlib.Nat.{mul-le-mul}
use native.Mathlib.Omega.{arith}
use mathlib.Core.Path.{◌≡◌, sym, ap, ◌∙◌}
use mathlib.Core.Bool.{true}
use mathlib.Core.List.{List, ◌++◌}
use lib.ListN.{take, drop}
use lib.Seq.{length-take-le}
use Rattle.std.proofs.lemmas.Result.{err_from_is_err_and}
use Rattle.dense_block.specs.Words.{zeroed}
use Rattle.enumeration.specs.Orders.{permutation}
use Rattle.enumeration.specs.Lent.{Maps}
use Rattle.enumeration.proofs.OrderLaws.{words_written, phases_written}
use Rattle.enumeration.proofs.EnumerationAnswers.{lengths, maps, enumerated_map, enumerated_refused, enumerated_done}
use Rattle.enumeration.proofs.enumerate.Goals as goal
use Rattle.enumeration.proofs.enumerate.Goals.{Else-not-is_permutation}

four_fold : (m : ℕ) → m ≤ 256 → 4 * m ≤ 1024
four_fold m h = omega arith

good : (c : Else-not-is_permutation) → permutation c.args.set.modes c.args.map.now ≡ true
good c = sym c.is_permutation.ensures ∙ c.if-not-is_permutation.false

mapped : (c : Else-not-is_permutation) → Maps c.args.set.modes c.args.map.now
mapped c = maps _ _ _ _ c.requires (good c)

pub is_permutation-requires : goal.is_permutation-requires
is_permutation-requires c = let l = lengths _ _ _ _ c.requires in (l.modes, l.map)

pub overflow_mul-set : goal.overflow_mul-set
overflow_mul-set c = record { fits = omega (arith, four_fold c.args.set.modes (lengths _ _ _ _ c.requires).modes) }

pub overflow_mul-set-then-not-is_permutation : goal.overflow_mul-set-then-not-is_permutation
overflow_mul-set-then-not-is_permutation c =
    let l = lengths _ _ _ _ c.requires in
    let few : 4 * c.args.set.modes * c.words_for-w.result ≤ 4096 = rw c.words_for-w.ensures (mul-le-mul (four_fold c.args.set.modes l.modes) l.words) in
    record { fits = omega (arith, few) }

pub returns-then-not-is_permutation : goal.returns-then-not-is_permutation
returns-then-not-is_permutation c =
    let a = c.args in
    enumerated_map _ _ _ _ c.requires (sym c.is_permutation.ensures ∙ c.if-not-is_permutation.true) c.clear.new.s
    (c.clear.ensures ∙ ap (λ (k : ℕ). zeroed (4 * a.set.modes * k) a.room.now) c.words_for-w.ensures)

pub returns-in_err-check_rows : goal.returns-in_err-check_rows
returns-in_err-check_rows c =
    let p = err_from_is_err_and c.from_residual.result c.from_residual.ensures.1 in
    rw (p.1, p.2) (enumerated_refused _ _ _ _ c.requires (good (goal.at.returns-in_err-check_rows c).Else-not-is_permutation) _ c.check_rows.new.room
    (rw c.in_err-check_rows.was at c.check_rows.ensures))

pub enumerate_blocks-requires : goal.enumerate_blocks-requires
enumerate_blocks-requires c =
    let l = lengths _ _ _ _ c.requires in
    let w = c.words_for-w.ensures in
    (mapped (goal.at.enumerate_blocks-requires c).Else-not-is_permutation, rw w (omega (arith, l.read.x_rows)), rw w (omega (arith, l.written.x_rows)))

pub enumerate_blocks-requires-2 : goal.enumerate_blocks-requires-2
enumerate_blocks-requires-2 c =
    let l = lengths _ _ _ _ c.requires in
    let w = c.words_for-w.ensures in
    (mapped (goal.at.enumerate_blocks-requires-2 c).Else-not-is_permutation, rw w (omega (arith, l.read.z_rows)), rw w (omega (arith, l.written.z_rows)))

pub enumerate_blocks-requires-3 : goal.enumerate_blocks-requires-3
enumerate_blocks-requires-3 c =
    let l = lengths _ _ _ _ c.requires in
    (mapped (goal.at.enumerate_blocks-requires-3 c).Else-not-is_permutation, omega (arith, l.read.p_rows), omega (arith, l.written.p_rows))

pub slice_bounds-put-end : goal.slice_bounds-put-end
slice_bounds-put-end c = rw c.words_for-w.ensures (lengths _ _ _ _ c.requires).new_vacuum

pub slice_bounds-put-end-2 : goal.slice_bounds-put-end-2
slice_bounds-put-end-2 c = sym (length-take-le _ _ (rw c.words_for-w.ensures (lengths _ _ _ _ c.requires).new_vacuum))

pub slice_bounds-put-end-3 : goal.slice_bounds-put-end-3
slice_bounds-put-end-3 c = sym (length-take-le _ _ (rw c.words_for-w.ensures (lengths _ _ _ _ c.requires).vacuum))

pub put-requires : goal.put-requires
put-requires c =
    let l = lengths _ _ _ _ c.requires in
    let w = c.words_for-w.ensures in
    length-take-le _ _ (rw w l.vacuum) ∙ sym (length-take-le _ _ (rw w l.new_vacuum))

pub returns : goal.returns
returns c =
    let a = c.args in
    let l = lengths _ _ _ _ c.requires in
    let g = (goal.at.returns c).Else-not-is_permutation in
    let w = c.words_for-w.ensures in
    enumerated_done _ _ _ _ c.requires (good g) _ _ _ _ c.check_rows.new.room (rw c.in_ok-check_rows.was at c.check_rows.ensures) (record {
      x_rows = rw w at (words_written a.set.modes c.words_for-w.result a.map.now a.set.x.now a.ox.now c.enumerate_blocks.ensures);
      z_rows = rw w at (words_written a.set.modes c.words_for-w.result a.map.now a.set.z.now a.oz.now c.enumerate_blocks-2.ensures);
      phases = phases_written a.set.modes a.map.now a.set.phases.now (mapped g) l.read.p_rows a.ophases.now c.enumerate_blocks-3.ensures;
      vacuum = ap (λ (l : List ℕ). l ++ drop c.words_for-w.result a.ovacuum.now) c.put.ensures
          ∙ ap (λ (k : ℕ). take k a.vacuum.now ++ drop k a.ovacuum.now) w;
    })
