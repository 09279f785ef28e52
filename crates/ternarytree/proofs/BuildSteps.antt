-- Rows written from the tables of a tree, as the outputs of building: stored where the vacuum rule is read, and zeros over them if it fails.
use Prim.Native.Nat.{ℕ, ◌*◌, ◌/◌, ◌<◌, ◌≤◌}
use native.Mathlib.Omega.{arith}
use mathlib.Core.Path.{◌≡◌, refl, sym, ap, ◌∙◌}
use mathlib.Core.Bool.{Bool, true, false}
use mathlib.Core.List.{List}
use lib.ListN.{length, drop}
use lib.Seq.{drop_at}
use Rattle.std.specs.Prelude.{Option, Ok, Err}
use Rattle.refusal.specs.declared.Refusal.TheVariants.{Vacuum}
use Rattle.algebra.specs.Modes.{vacuum_rule}
use Rattle.dense_block.specs.Words.{words_for, zeroed}
use Rattle.dense_block.specs.Blocks.{rows_of, laid, numbers_of, listed}
use Rattle.dense_block.proofs.Blocks.{row_laid, length_rows, length_laid, length_numbers, length_listed, number_listed}
use Rattle.dense_block.proofs.Clears.{zeroed_same}
use Rattle.trees.specs.Trees.{Tree}
use Rattle.trees.specs.Paths.{row_at}
use Rattle.trees.specs.Leaves.{slot_of, rows}
use Rattle.trees.specs.declared.Named.{Named}
use Rattle.trees.specs.Named.{named_tree}
use Rattle.tree_sizes.specs.Sizes.{qubit_at}
use Rattle.ternarytree.specs.Building.{flat}
use Rattle.ternarytree.specs.Tables.{nth, AtMost, AllBelow, Wired, Slots, Planted, RowsWritten, StoredX, Ready, rows_answer, TreeBuilt}
use Rattle.ternarytree.proofs.Codes.{some_same}
use Rattle.ternarytree.proofs.ClimbSteps.{wired_parents}
use Rattle.trees.proofs.Bounds.{Within, low_row}

-- what was laid or listed and then cleared
cleared_laid : (w : ℕ) (f : ℕ → ℕ) (m : ℕ) (xs xs' : List ℕ) → m * w ≤ length xs → xs' ≡ laid w f m xs → zeroed (m * w) xs' ≡ zeroed (m * w) xs
cleared_laid w f m xs xs' h e =
    zeroed_same (m * w) xs' xs (ap length e ∙ length_laid w f m xs h) (ap (drop (m * w)) e ∙ drop_at (rows_of w f m) (drop (m * w) xs) (m * w) (length_rows w f m))

cleared_listed : (f : ℕ → ℕ) (m : ℕ) (xs xs' : List ℕ) → m ≤ length xs → xs' ≡ listed f m xs → zeroed m xs' ≡ zeroed m xs
cleared_listed f m xs xs' h e = zeroed_same m xs' xs (ap length e ∙ length_listed f m xs h) (ap (drop m) e ∙ drop_at (numbers_of f m) (drop m xs) m (length_numbers f m))

module _ (leaves : Bool) (t : Tree) (n w : ℕ) (parents : List (Option ℕ)) (columns : List ℕ) (slots : List (Option ℕ)) (ok : Ready leaves t n w parents columns slots) where
  pub slots_within : AllBelow (2 * n) (3 * n) slots
  slots_within m k h e = let at = ok.ends m h in omega (arith, some_same (sym e ∙ at.0), at.1)

  qubit_low : (i : ℕ) → i < t.n → t.qubit i < 64 * w
  qubit_low i h =
      let l : i < n = omega (arith, ok.qubits.size) in
      omega (arith, ok.qubits.qubits i l, ok.within i l)

  row_low : (m : ℕ) → m < 2 * n → Within (64 * w) (row_at t (slot_of leaves t m))
  row_low m h = low_row t (64 * w) qubit_low (slot_of leaves t m) (omega (arith, (ok.ends m h).1, ok.qubits.size))

  module _ (xs zs qs xs' zs' qs' : List ℕ) (written : RowsWritten t (slot_of leaves t) (2 * n) w xs zs qs xs' zs' qs') where
    phase_at : (m : ℕ) → m < 2 * n → nth qs' m ≡ (row_at t (slot_of leaves t m)).p
    phase_at m h = ap (λ (l : List ℕ). nth l m) written.phases ∙ number_listed (λ m. (row_at t (slot_of leaves t m)).p) (2 * n) m (drop (2 * n) qs) h

    pub phases_small : AtMost (2 * n) 3 (nth qs')
    phases_small m h = omega (arith, phase_at m h, (row_low m h).p_low)

    pub stored : StoredX (rows leaves t) n w xs' qs'
    stored = record {
      size = ok.qubits.size;
      x_part = λ m h. rw written.x_parts (row_laid w (λ m. (row_at t (slot_of leaves t m)).x) (2 * n) m xs h (row_low m h).x_low);
      phase = phase_at;
    }

    pub built_done : (vs vs' : List ℕ) → vs' ≡ zeroed w vs → true ≡ vacuum_rule (rows leaves t) 0 → TreeBuilt (rows_answer (rows leaves t)) w (rows leaves t) xs zs qs vs (Ok tt) xs' zs' qs' vs'
    built_done vs vs' e h =
        let s = sym ok.qubits.size in
        record {
          told = rw (← h);
          x_parts = rw (← h) (written.x_parts ∙ ap (λ (k : ℕ). laid w (λ m. (row_at t (slot_of leaves t m)).x) (2 * k) xs) s);
          z_parts = rw (← h) (written.z_parts ∙ ap (λ (k : ℕ). laid w (λ m. (row_at t (slot_of leaves t m)).z) (2 * k) zs) s);
          phases = rw (← h) (written.phases ∙ ap (λ (k : ℕ). listed (λ m. (row_at t (slot_of leaves t m)).p) (2 * k) qs) s);
          vacuum = rw (← h) e;
        }

    pub built_broken : (vs vs' xs'' zs'' qs'' : List ℕ) → 2 * n * w ≤ length xs → 2 * n * w ≤ length zs → 2 * n ≤ length qs → vs' ≡ zeroed w vs → false ≡ vacuum_rule (rows leaves t) 0
        → xs'' ≡ zeroed (2 * n * w) xs' → zs'' ≡ zeroed (2 * n * w) zs' → qs'' ≡ zeroed (2 * n) qs'
        → TreeBuilt (rows_answer (rows leaves t)) w (rows leaves t) xs zs qs vs (Err Vacuum) xs'' zs'' qs'' vs'
    built_broken vs vs' xs'' zs'' qs'' hx hz hq e h ex ez eq =
        let s = sym ok.qubits.size in
        record {
          told = rw (← h);
          x_parts = rw (← h) (ex ∙ cleared_laid w (λ m. (row_at t (slot_of leaves t m)).x) (2 * n) xs xs' hx written.x_parts ∙ ap (λ (k : ℕ). zeroed (2 * k * w) xs) s);
          z_parts = rw (← h) (ez ∙ cleared_laid w (λ m. (row_at t (slot_of leaves t m)).z) (2 * n) zs zs' hz written.z_parts ∙ ap (λ (k : ℕ). zeroed (2 * k * w) zs) s);
          phases = rw (← h) (eq ∙ cleared_listed (λ m. (row_at t (slot_of leaves t m)).p) (2 * n) qs qs' hq written.phases ∙ ap (λ (k : ℕ). zeroed (2 * k) qs) s);
          vacuum = rw (← h) e;
        }

-- the tables of a flatpack
pub flat_ready : (leaves : Bool) (n w : ℕ) (es : List ℕ) (fs : List Bool) (ps ls : List (Option ℕ)) (cs : List ℕ) (ends : List (Option ℕ)) → Wired (flat leaves n es fs) n (3 * n) ps ls
    → ((i : ℕ) → i < n → nth cs i ≡ qubit_at es i) → ((i : ℕ) → i < n → qubit_at es i / 64 < w) → Slots (slot_of leaves (flat leaves n es fs)) n ends
    → Ready leaves (flat leaves n es fs) n w ps cs ends
flat_ready leaves n w es fs ps ls cs ends wired copied low slots = record {
  ups = wired_parents (flat leaves n es fs) n ps ls wired;
  qubits = record { size = refl; qubits = λ i h. sym (copied i h) };
  within = λ i h. rw (copied i h) (low i h);
  ends = slots;
}

-- and of a named tree
pub named_ready : (tree : Named) (n w : ℕ) (cs : List ℕ) (ps ks ends : List (Option ℕ)) → w ≡ words_for n → Planted (named_tree tree n) n cs ps ks → Slots (slot_of false (named_tree tree n)) n ends
    → Ready false (named_tree tree n) n w ps cs ends
named_ready tree n w cs ps ks ends e planted slots = record {
  ups = planted.ups;
  qubits = planted.qubits;
  within = λ i h. omega (arith, planted.qubits.qubits i h, e);
  ends = slots;
}
