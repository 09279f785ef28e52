-- The slot that the search for a fault finds is the first that has one, and the fault of the slots is its own.
use Prim.Native.Nat.{ℕ, ◌*◌}
use native.Mathlib.Omega.{arith}
use mathlib.Core.Path.{◌≡◌}
use borrow.Author.Tests.{ltb-true, ltb-false}
use lib.Dec.{ltb}
use Rattle.refusal.specs.Search.{found, least_below}
use Rattle.refusal.proofs.Searches.{least_found}
use Rattle.trees.specs.Trees.{Tree, fault, first_fault, FirstAtFault}

pub first_at_fault : (t : Tree) (k : ℕ) → least_below (3 * t.n) (λ k. ltb 0 (fault t k)) ≡ found k → FirstAtFault t k
unfolding first_fault
first_at_fault t k h =
    let r = least_found (3 * t.n) (λ k. ltb 0 (fault t k)) k h in
    record {
      slot = r.low;
      at_fault = λ e. omega (arith, ltb-true 0 (fault t k) r.passes);
      before = λ j l. let z = ltb-false 0 (fault t j) (r.first j l) in omega arith;
      number = rw h;
    }
