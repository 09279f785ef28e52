-- Where a refusal was found, by the cases of the code.
use Prim.Native.Nat.{ℕ, ◌+◌, ◌*◌, ◌/◌, ◌%◌, min}
use mathlib.Core.Path.{◌≡◌, sym, ap, ap₂, ◌∙◌}
use mathlib.Core.Bool.{Bool, true, false}
use mathlib.Core.List.{List}
use lib.ListN.{replicate}
use Rattle.std.specs.Prelude.{Option, Some, None, Result, Ok, Err}
use Rattle.ternarytree.specs.Building as tree
use Rattle.ternarytree.specs.Building.{fault_place}
use Rattle.flatpack_text.specs.declared.read.State.{State}
use Rattle.flatpack_text.specs.declared.read.Malformed.{Malformed}
use Rattle.report.specs.declared.explain.Spot.{Spot}
use Rattle.flatpack_text.specs.Machine.{Told, text_paper}
use Rattle.flatpack_text.specs.Moves.{finished}
use Rattle.flatpack_text.specs.Calls.{Finishes}
use Rattle.flatpack_text.specs.Entries.{placed, plain_at, filled_at}
use Rattle.report.specs.Located.{spot_of, located_at}
use Rattle.report.specs.Replies.{fault_at, located_in, located}

-- the first fault of the entries in tables of their own
pub fault_found : (n : ℕ) (table : List ℕ) {es : List ℕ} {fs : List Bool} (r : Option ℕ)
    → es ≡ placed (plain_at table) (4 * min n 256) (replicate 1024 0) → fs ≡ placed (filled_at table) (3 * min n 256) (replicate 768 false)
    → tree.placed r ≡ fault_place true n es fs → tree.placed r ≡ fault_at n table
unfolding fault_at
fault_found n table r he hf h = h ∙ ap₂ (fault_place true n) he hf

-- a text of n entries, and what was found in them
located_entries : (s : State) (table : List ℕ) (p : Option ℕ) {a : Result ℕ Malformed} {n : ℕ} → Finishes s a → a ≡ Ok n → tree.placed p ≡ fault_at n table → located_at (tree.placed p) ≡ located (finished s) table
unfolding located
located_entries s table p f e h = ap located_at h ∙ ap (λ (t : Told). located_in t.number t.entries t.line table) (ap text_paper (sym e) ∙ f.answer)

-- no slot
pub located_nowhere : (s : State) (table : List ℕ) {p : Option ℕ} {a : Result ℕ Malformed} {n : ℕ} → Finishes s a → a ≡ Ok n → tree.placed p ≡ fault_at n table → p ≡ None → None ≡ located (finished s) table
located_nowhere s table {p} f e h none = ap (λ (q : Option ℕ). located_at (tree.placed q)) (sym none) ∙ located_entries s table p f e h

-- slot k
pub located_slot : (s : State) (table : List ℕ) {p : Option ℕ} {k : ℕ} {spot : Spot} {a : Result ℕ Malformed} {n : ℕ} → Finishes s a → a ≡ Ok n → tree.placed p ≡ fault_at n table → p ≡ Some k → spot ≡ spot_of (k % 3)
    → Some (record { line = k / 3 + 1; spot = Some spot }) ≡ located (finished s) table
located_slot s table {p} {k} f e h some here =
    ap (λ (t : Spot). Some (record { line = k / 3 + 1; spot = Some t })) here
    ∙ ap (λ (q : Option ℕ). located_at (tree.placed q)) (sym some)
    ∙ located_entries s table p f e h

-- a text with a line that is no entry
pub located_malformed : (s : State) (table : List ℕ) {a : Result ℕ Malformed} {fault : Malformed} → Finishes s a → a ≡ Err fault → Some (record { line = fault.line; spot = None }) ≡ located (finished s) table
unfolding located
located_malformed s table f e = ap (λ (t : Told). located_in t.number t.entries t.line table) (ap text_paper (sym e) ∙ f.answer)
