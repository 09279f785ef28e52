-- Vacuum solving and `new`: which test refuses, what is left of the vacuum and the room, and one outcome.
use Prim.Native.Nat.{ℕ}
use mathlib.Core.Path.{◌≡◌, refl, sym, ap, ◌∙◌}
use mathlib.Core.List.{List, [], ◌∷◌}
use mathlib.Core.Bool.{Bool, true, false, not}
use Rattle.std.specs.Prelude.{Err}
use Rattle.refusal.specs.declared.Refusal.TheVariants.{Size, Short}
use Rattle.refusal.specs.Numbers.{Answer, Paper, answered}
use Rattle.refusal.specs.Search.{Pair, pair, no_pair}
use Rattle.refusal.specs.Table.{◌gives◌, ◌names◌, first_of, on_done, past_two}
use Rattle.refusal.proofs.Outcome.{one_outcome, answered_injective}
use Rattle.algebra.specs.Modes.{Modes, vacuum_rule, commuting_pair}
use Rattle.algebra.specs.Choices.{dependent}
use Rattle.algebra.specs.Solving.{solvable}
use Rattle.dense_block.specs.Words.{filled, zeroed}
use Rattle.dense_block.proofs.Clears.{zeroed_same}
use Rattle.majorana.specs.Sets.{Set, width, modes, bad_size, bad_set}
use Rattle.majorana.specs.Checks.{check_room, rows_short}
use Rattle.majorana.specs.Rooms.{Same, new_task, SolvedLent, NewLent}
use Rattle.majorana.specs.Vacuums.{vacuum, solve_room, solve_short, solved, Solves, new_checked, Makes}

-- ---- what a task's answer p leaves, once 1 and 2 are passed

-- the vacuum, and the room used and then cleared, where the call's answer is p
module _ (p : Paper) (past : (new old : List ℕ) → past_two p new old ≡ new) (size : ℕ) (room used after : List ℕ) (s : Same size room used) (e : after ≡ zeroed size used) where
  cleared : after ≡ past_two p (zeroed size room) room
  cleared = e ∙ zeroed_same size used room s.long s.behind ∙ sym (past (zeroed size room) room)

solve_past : (bad found : Bool) (new old : List ℕ) → past_two (first_of ((bad gives 17) ∷ (not found gives 12) ∷ [])) new old ≡ new
solve_past true found new old = refl
solve_past false true new old = refl
solve_past false false new old = refl

new_past : (bad : Bool) (m : Modes) (q : ℕ) (new old : List ℕ) → past_two (first_of (new_task bad m q)) new old ≡ new
new_past bad m q new old = go bad (solvable m q) (commuting_pair m) (dependent m) (vacuum_rule m (vacuum m q))
  where
    go : (b f : Bool) (p : Pair) (d r : Bool) → past_two (first_of ((b gives 17) ∷ (not f gives 12) ∷ (p names 10) ∷ (d gives 11) ∷ (not r gives 13) ∷ [])) new old ≡ new
    go true f p d r = refl
    go false false p d r = refl
    go false true (pair i j) d r = refl
    go false true no_pair true r = refl
    go false true no_pair false true = refl
    go false true no_pair false false = refl

-- ---- vacuum solving

module _ (s : Set) (vs room : List ℕ) where
  pub solve_size : bad_size s.n s.q ≡ true → Solves s vs room (Err Size) vs room
  unfolding solved
  solve_size h = record { answer = rw h; string = rw h; work = rw h }

  module _ (h : bad_size s.n s.q ≡ false) where
    pub solve_short_lem : solve_short s vs room ≡ true → Solves s vs room (Err Short) vs room
    unfolding solved
    solve_short_lem k = record { answer = rw (h, k); string = rw (h, k); work = rw (h, k) }

    solve_rest : solve_short s vs room ≡ false → solved s vs room ≡ first_of ((bad_set s gives 17) ∷ (not (solvable (modes s) s.q) gives 12) ∷ [])
    unfolding solved
    solve_rest k = rw (h, k)

    pub solve_task : solve_short s vs room ≡ false → (r : Answer) (after used left : List ℕ) → SolvedLent (bad_set s) (modes s) s.q (width s) vs room r after used → left ≡ zeroed (solve_room s) used
        → Solves s vs room r after left
    solve_task k r after used left t e =
        let same : answered r ≡ solved s vs room = t.answer ∙ sym (solve_rest k) in
        record {
          answer = same;
          string = t.string ∙ ap (λ (p : Paper). on_done p (filled (width s) (vacuum (modes s) s.q) vs) vs) same;
          work = cleared (solved s vs room) (λ new old. ap (λ (p : Paper). past_two p new old) (solve_rest k) ∙ solve_past (bad_set s) (solvable (modes s) s.q) new old) (solve_room s) room used left t.same e;
        }

pub solve_outcome : (s : Set) (vs room : List ℕ) (r t : Answer) (us xs ys zs : List ℕ) → Solves s vs room r us xs → Solves s vs room t ys zs → (r ≡ t) × (us ≡ ys) × (xs ≡ zs)
solve_outcome s vs room r t us xs ys zs a b = (answered_injective (one_outcome a.answer b.answer), one_outcome a.string b.string, one_outcome a.work b.work)

-- ---- `new`

module _ (s : Set) (vs room : List ℕ) where
  pub new_size : bad_size s.n s.q ≡ true → Makes s vs room (Err Size) vs room
  unfolding new_checked
  new_size h = record { answer = rw h; string = rw h; work = rw h }

  module _ (h : bad_size s.n s.q ≡ false) where
    pub new_short : rows_short s vs room ≡ true → Makes s vs room (Err Short) vs room
    unfolding new_checked
    new_short k = record { answer = rw (h, k); string = rw (h, k); work = rw (h, k) }

    new_rest : rows_short s vs room ≡ false → new_checked s vs room ≡ first_of (new_task (bad_set s) (modes s) s.q)
    unfolding new_checked
    new_rest k = rw (h, k)

    pub new_done : rows_short s vs room ≡ false → (r : Answer) (after used left : List ℕ) → NewLent (bad_set s) (modes s) s.q (width s) vs room r after used → Same (check_room s) room used
        → left ≡ zeroed (check_room s) used → Makes s vs room r after left
    new_done k r after used left t u e =
        let same : answered r ≡ new_checked s vs room = t.answer ∙ sym (new_rest k) in
        record {
          answer = same;
          string = t.string ∙ ap (λ (p : Paper). on_done p (filled (width s) (vacuum (modes s) s.q) vs) vs) same;
          work = cleared (new_checked s vs room) (λ new old. ap (λ (p : Paper). past_two p new old) (new_rest k) ∙ new_past (bad_set s) (modes s) s.q new old) (check_room s) room used left u e;
        }

pub new_outcome : (s : Set) (vs room : List ℕ) (r t : Answer) (us xs ys zs : List ℕ) → Makes s vs room r us xs → Makes s vs room t ys zs → (r ≡ t) × (us ≡ ys) × (xs ≡ zs)
new_outcome s vs room r t us xs ys zs a b = (answered_injective (one_outcome a.answer b.answer), one_outcome a.string b.string, one_outcome a.work b.work)
