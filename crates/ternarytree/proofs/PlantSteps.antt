-- Steps of `plant`: the tables after the first k nodes, and after all of them.
use Prim.Native.Nat.{ℕ, ◌+◌, ◌*◌, ◌<◌, ◌≤◌}
use native.Mathlib.Omega.{arith}
use mathlib.Core.Path.{◌≡◌, refl, sym, ap, ◌∙◌}
use mathlib.Core.Bool.{Bool, false, ◌&&◌}
use mathlib.Core.List.{List}
use borrow.Author.Tests.{lt-ltb, ltb-true, eq-eqb, ne_eqb, eqb-true}
use lib.Dec.{eqb, ltb}
use Rattle.std.specs.Prelude.{Option, Some, None}
use Rattle.std.specs.Option.{is_some}
use Rattle.ternarytree.specs.Building.{placed}
use lib.ListN.{length, set}
use Rattle.refusal.specs.Search.{least_below}
use Rattle.refusal.proofs.Bools.{and_left, and_right, is_false}
use Rattle.refusal.proofs.Searches.{least_none}
use Rattle.trees.specs.Trees.{up}
use Rattle.trees.specs.Named.{grown}
use Rattle.ternarytree.specs.Tables.{nth, at, Holds, Zero, Blank, Planted}
use Rattle.ternarytree.proofs.Codes.{mark, in_order, no_place}
use Rattle.trees.proofs.NamedTrees.{Growing, node_of_named, stands_low, root_up, grown_up}

module _ (stands : ℕ → ℕ) (g : Growing stands) (n : ℕ) where
  -- node j stands in slot s
  abbrev holds : ℕ → ℕ → Bool
  holds s j = ltb 0 j && eqb (stands j) s

  pub record Planting (cs : List ℕ) (ps ss : List (Option ℕ)) (k : ℕ) : Type 0 where
    pub some_left : (0 < k) × (k ≤ n)
    pub qubits : (j : ℕ) → j < k → nth cs j ≡ j
    pub ups : (j : ℕ) → j < k → placed (at ps j) ≡ up (grown stands n) j
    pub nodes : Holds (3 * n) (λ s. least_below k (holds s)) ss

  pub planting_start : (cs : List ℕ) (ps ss : List (Option ℕ)) → n ≤ 256 → 0 < n → Zero 256 cs → Blank 256 ps → Blank 768 ss → Planting cs ps ss 1
  planting_start cs ps ss small h bc bp bs = record {
    some_left = (omega arith, omega arith);
    qubits = λ j l. let z : j ≡ 0 = omega arith in bc j (omega arith) ∙ sym z;
    ups = λ j l. let z : j ≡ 0 = omega arith in ap placed (bp j (omega arith)) ∙ sym (ap (up (grown stands n)) z ∙ root_up stands g n);
    nodes = λ s l. ap placed (bs s (omega arith)) ∙ sym (least_none 1 (holds s) (λ j i. let z : j ≡ 0 = omega arith in rw z));
  }

  module _ (cs : List ℕ) (ps ss : List (Option ℕ)) (k : ℕ) (p : Planting cs ps ss k) (l : k < n) where
    pub slot_low : stands k < 3 * n
    slot_low = stands_low stands g n k p.some_left.0 l

    fresh : is_some (at ss (stands k)) ≡ false
    fresh =
        no_place _ (p.nodes (stands k) slot_low
        ∙ least_none k (holds (stands k)) (λ j h. is_false _ (λ q. omega (
          arith,
          g.alone j k (ltb-true 0 j (and_left (ltb 0 j) (eqb (stands j) (stands k)) q)) p.some_left.0 (eqb-true (stands j) (stands k) (and_right (ltb 0 j) (eqb (stands j) (stands k)) q)),
        ))))

    next : n ≤ 256 → length cs ≡ 256 → length ps ≡ 256 → length ss ≡ 768 → Planting (set cs k k) (set ps k (Some (stands k))) (set ss (stands k) (Some k)) (k + 1)
    next small lc lp ls = record {
      some_left = (omega arith, omega arith);
      qubits = in_order 0 (λ j x. x ≡ j) cs k k p.qubits (omega arith) refl;
      ups = in_order None (λ j x. placed x ≡ up (grown stands n) j) ps k (Some (stands k)) p.ups (omega arith) (sym (grown_up stands g n k p.some_left.0 l));
      nodes =
          mark (3 * n) holds ss k p.nodes (stands k) slot_low (omega (arith, slot_low)) fresh
          (rw (lt-ltb 0 k p.some_left.0) (eq-eqb (stands k) (stands k) refl)) (λ q ne. rw (lt-ltb 0 k p.some_left.0) (ne_eqb (stands k) q (λ e. ne (sym e))));
    }

    pub planting_next : (r : ℕ) → r ≡ stands k → n ≤ 256 → length cs ≡ 256 → length ps ≡ 256 → length ss ≡ 768 → Planting (set cs k k) (set ps k (Some r)) (set ss r (Some k)) (k + 1)
    planting_next r e small lc lp ls = rw e (next small lc lp ls)

  pub planting_end : (cs : List ℕ) (ps ss : List (Option ℕ)) (k : ℕ) → Planting cs ps ss k → n ≤ k → Planted (grown stands n) n cs ps ss
  planting_end cs ps ss k p h =
      let e : k ≡ n = omega (arith, p.some_left.1) in
      record {
        qubits = record { size = refl; qubits = λ i l. sym (p.qubits i (omega arith)) };
        ups = record { size = refl; ups = λ j l. p.ups j (omega arith) };
        nodes = record { size = refl; nodes = λ s l. p.nodes s l ∙ ap (λ (b : ℕ). least_below b (holds s)) e ∙ sym (node_of_named (least_below n (holds s))) };
      }
