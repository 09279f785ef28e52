-- The row check: which test refuses, what it leaves in the room, and one outcome; and one outcome of the vacuum check.
use Prim.Native.Nat.{ℕ, ◌+◌, ◌*◌}
use native.Mathlib.Nat.{add-mul, mul-add}
use native.Mathlib.Omega.{arith}
use mathlib.Core.Path.{◌≡◌, refl, sym, ap, ◌∙◌}
use mathlib.Core.List.{List, [], ◌∷◌}
use mathlib.Core.Bool.{Bool, true, false, not}
use Rattle.std.specs.Prelude.{Err}
use Rattle.refusal.specs.declared.Refusal.TheVariants.{Size, Short}
use Rattle.refusal.specs.Numbers.{Answer, Paper, answered}
use Rattle.refusal.specs.Search.{Pair, pair, no_pair}
use Rattle.refusal.specs.Table.{◌gives◌, ◌names◌, first_of, past_two}
use Rattle.refusal.proofs.Outcome.{one_outcome, answered_injective}
use Rattle.algebra.specs.Modes.{Modes, vacuum_rule, commuting_pair}
use Rattle.algebra.specs.Choices.{dependent}
use Rattle.dense_block.specs.Words.{zeroed}
use Rattle.dense_block.proofs.Clears.{zeroed_same}
use Rattle.majorana.specs.Sets.{Set, modes, bits, bad_size}
use Rattle.majorana.specs.Checks.{vacuum_bad, vacuum_checked, check_room, rows_short, rows_checked, RowsChecked}
use Rattle.majorana.specs.Rooms.{Same, task_checked, value_checked}

-- 4n rows of w words are 2n of twice as many
pub four_fold : (n w : ℕ) → 4 * n * w ≡ 2 * n * (w + w)
four_fold n w =
    let e : 4 * n ≡ 2 * n + 2 * n = omega arith in
    ap (λ (k : ℕ). k * w) e ∙ add-mul (2 * n) (2 * n) w ∙ sym (mul-add (2 * n) w w)

-- a task's refusal is past 1 and 2: its room is cleared
task_number : (m : Modes) (v : ℕ) (bad : Bool) (new old : List ℕ) → past_two (value_checked bad (task_checked m v)) new old ≡ new
unfolding task_checked
task_number m v true new old = refl
task_number m v false new old = go (commuting_pair m) (dependent m) (vacuum_rule m v)
  where
    go : (p : Pair) (d r : Bool) → past_two (first_of ((p names 10) ∷ (d gives 11) ∷ (not r gives 13) ∷ [])) new old ≡ new
    go (pair i j) d r = refl
    go no_pair true r = refl
    go no_pair false true = refl
    go no_pair false false = refl

module _ (s : Set) (vs room : List ℕ) where
  pub rows_size : bad_size s.n s.q ≡ true → RowsChecked s vs room (Err Size) room
  unfolding rows_checked
  rows_size h = record { answer = rw h; left = rw h }

  pub rows_short_lem : bad_size s.n s.q ≡ false → rows_short s vs room ≡ true → RowsChecked s vs room (Err Short) room
  unfolding rows_checked
  rows_short_lem h k = record { answer = rw (h, k); left = rw (h, k) }

  -- past 1 and 2
  rest : bad_size s.n s.q ≡ false → rows_short s vs room ≡ false → rows_checked s vs room ≡ value_checked (vacuum_bad s vs) (task_checked (modes s) (bits s.q vs))
  unfolding rows_checked task_checked
  rest h k = rw (h, k) (go (vacuum_bad s vs))
    where
      go : (b : Bool) → first_of ((b gives 17) ∷ (commuting_pair (modes s) names 10) ∷ (dependent (modes s) gives 11) ∷ (not (vacuum_rule (modes s) (bits s.q vs)) gives 13) ∷ [])
          ≡ value_checked b (first_of ((commuting_pair (modes s) names 10) ∷ (dependent (modes s) gives 11) ∷ (not (vacuum_rule (modes s) (bits s.q vs)) gives 13) ∷ []))
      go true = refl
      go false = refl

  pub rows_task : bad_size s.n s.q ≡ false → rows_short s vs room ≡ false → (r : Answer) (used after : List ℕ)
      → answered r ≡ value_checked (vacuum_bad s vs) (task_checked (modes s) (bits s.q vs)) → Same (check_room s) room used → after ≡ zeroed (check_room s) used
      → RowsChecked s vs room r after
  rows_task h k r used after a b e = record {
    answer = a ∙ sym (rest h k);
    left = e ∙ zeroed_same (check_room s) used room b.long b.behind
        ∙ sym (ap (λ (p : Paper). past_two p (zeroed (check_room s) room) room) (rest h k) ∙ task_number (modes s) (bits s.q vs) (vacuum_bad s vs) (zeroed (check_room s) room) room);
  }

pub rows_outcome : (s : Set) (vs room : List ℕ) (r t : Answer) (xs ys : List ℕ) → RowsChecked s vs room r xs → RowsChecked s vs room t ys → (r ≡ t) × (xs ≡ ys)
rows_outcome s vs room r t xs ys a b = (answered_injective (one_outcome a.answer b.answer), one_outcome a.left b.left)

pub vacuum_outcome : (s : Set) (vs : List ℕ) (r t : Answer) → answered r ≡ vacuum_checked s vs → answered t ≡ vacuum_checked s vs → r ≡ t
vacuum_outcome s vs r t a b = answered_injective (one_outcome a b)
