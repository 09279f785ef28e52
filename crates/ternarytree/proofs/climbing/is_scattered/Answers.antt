-- `is_scattered` meets its contract: the nodes before i hang from top, and so does node i if it hangs from one of them.
use Rattle.std.proofs.Common.{◌≡◌, ℕ, ◌≤◌, ◌∙◌, sym, ap, arith, below_more}
use Rattle.trees.specs.Trees.{Tree, climb}
use Rattle.ternarytree.specs.Tables.{Parents}
use Rattle.ternarytree.proofs.ClimbSteps.{top_has_parent, another_top, all_to_top, on_the_way}
use Rattle.ternarytree.proofs.climbing.is_scattered.Goals as goal
use Rattle.ternarytree.proofs.climbing.is_scattered.Goals.{After-climb_up-top, After-climb_up-r, else-i-r-via-then-i-r+else-r-top, else-i-r-via-else-i-r}

-- the first climb ends at the top
first_climb : (c : After-climb_up-top) (t : Tree) → Parents t c.args.tables.now.n c.args.tables.now.parents → c.climb_up-top.result ≡ climb t c.args.tables.now.n 0
first_climb c t p = (c.climb_up-top.ensures.1 t (c.of-routes.ensures.1 t p)).1 (omega arith) ∙ ap (λ (n : ℕ). climb t n 0) c.of-routes.ensures.0

-- and one that ends at no node before the one that it began at, where all its steps lead
whole_climb : (c : After-climb_up-r) (t : Tree) → Parents t c.args.tables.now.n c.args.tables.now.parents → c.loop-i.i ≤ c.climb_up-r.result
    → c.climb_up-r.result ≡ climb t c.args.tables.now.n c.loop-i.i
whole_climb c t p h = (c.climb_up-r.ensures.1 t (c.of-routes.ensures.1 t p)).1 h ∙ ap (λ (n : ℕ). climb t n c.loop-i.i) c.of-routes.ensures.0

pub returns-then-is_some : goal.returns-then-is_some
returns-then-is_some c =
    let at = (goal.at.returns-then-is_some c).After-climb_up-top in
    λ t p. top_has_parent t _ _ p c.climb_up-top.result (omega (arith, c.climb_up-top.ensures.0)) (first_climb at t p) (sym c.is_some.ensures ∙ c.if-is_some.true)

pub returns-then-r-top : goal.returns-then-r-top
returns-then-r-top c =
    let top = (goal.at.returns-then-r-top c).After-climb_up-top in
    let r = (goal.at.returns-then-r-top c).After-climb_up-r in
    λ t p. another_top t _ _ p _ c.loop-i.i c.climb_up-r.result c.loop-i-test.true (first_climb top t p) (whole_climb r t p c.if-i-r.true) c.if-r-top.true

pub loop-i-preserved : goal.loop-i-preserved
loop-i-preserved c =
    let at = (goal.at.loop-i-preserved c).After-climb_up-r in
    let i = c.loop-i.i in
    let r = c.climb_up-r in
    λ t p.
    let before = c.loop-i.invariant t p in
    below_more _ i before
    (elim c.else-i-r.branch [
      | else-i-r-via-then-i-r+else-r-top z ↦ sym (whole_climb at t p z.if-i-r.true) ∙ z.if-r-top.false
      | else-i-r-via-else-i-r z ↦
          let hangs = (r.ensures.1 t (c.of-routes.ensures.1 t p)).0 in
          on_the_way t _ _ p _ i r.result (omega (arith, c.climb_up-top.ensures.0, c.of-routes.ensures.0)) (sym c.is_some.ensures ∙ c.if-is_some.false) c.loop-i-test.true hangs
          (before r.result (omega (arith, z.if-i-r.false)))
    ])

pub returns : goal.returns
returns c =
    let at = (goal.at.returns c).After-climb_up-top in
    λ t p. all_to_top t _ _ p _ (omega (arith, c.climb_up-top.ensures.0, c.of-routes.ensures.0)) (first_climb at t p) (sym c.is_some.ensures ∙ c.if-is_some.false) (λ j h. c.loop-i.invariant t p j (omega arith))
