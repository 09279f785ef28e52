-- What is written for a tree that was built: its rows are read back from the words that they lie in.
use Prim.Native.Nat.{ℕ, zero, suc, ◌*◌, ◌<◌, min}
use native.Mathlib.Omega.{arith}
use mathlib.Core.Path.{◌≡◌, refl, sym, ap, ◌∙◌, subst}
use mathlib.Core.List.{List, [], ◌∷◌}
use mathlib.Core.Bool.{Bool, true, false}
use lib.ListN.{replicate}
use Rattle.std.specs.Prelude.{Some, None, Result, Ok, Err}
use Rattle.refusal.specs.declared.Refusal.{Refusal}
use Rattle.refusal.specs.declared.Refusal.TheVariants.{Malformed as NotWell}
use Rattle.refusal.specs.Numbers.{Paper, paper, Answer, answered}
use Rattle.refusal.specs.Table.{if_zero}
use Rattle.refusal.proofs.Outcome.{refused_number}
use Rattle.algebra.specs.Rows.{Row}
use Rattle.algebra.specs.Modes.{Modes}
use Rattle.dense_block.specs.Words.{value, words_for, zeroed}
use Rattle.trees.specs.Leaves.{rows}
use Rattle.ternarytree.specs.Building.{Input, given, tree_of, answer, settled, FlatBuilt}
use Rattle.ternarytree.proofs.Theorems.{flatpack_stored}
use Rattle.report.specs.Report.{row_in, row_lines, report, refused_line, wrote, written, report_length, reported}
use Rattle.flatpack_text.specs.Entries.{placed, plain_at, filled_at, used}
use Rattle.flatpack_text.specs.declared.read.State.{State}
use Rattle.flatpack_text.specs.declared.read.Malformed.{Malformed}
use Rattle.report.specs.declared.reply.Reply.{Reply}
use Rattle.flatpack_text.specs.Machine.{Told, text_paper}
use Rattle.flatpack_text.specs.Moves.{finished}
use Rattle.flatpack_text.specs.Calls.{Finishes}
use Rattle.report.specs.Replies.{said_length, said, input_of, Builds, Replied}

-- ---- done, or refused

pub not_zero : {A : Type 0} (k : ℕ) (new old : A) → (k ≡ 0 → ⊥) → if_zero k new old ≡ old
not_zero zero new old h = absurd (h refl)
not_zero (suc k) new old h = refl

module _ {a : Answer} (n q : ℕ) (row : ℕ → Row) (v : ℕ) (out : List ℕ) {r : ℕ} {e : List ℕ} where
  pub tells_report : a ≡ Ok tt → r ≡ report_length n q row v out → e ≡ reported n q row v out
      → record { count : r ≡ said_length (answered a) n q row v out; bytes : e ≡ said (answered a) n q row v out }
  tells_report h p s = rw h (record { count = p; bytes = s })

  pub tells_refusal : (why : Refusal) {k : ℕ} → a ≡ Err why → k ≡ (paper why).number → r ≡ wrote (refused_line k) out → e ≡ written (refused_line k) out
      → record { count : r ≡ said_length (answered a) n q row v out; bytes : e ≡ said (answered a) n q row v out }
  tells_refusal why {k} h c p s =
      rw h (record {
        count = p ∙ ap (λ (k : ℕ). wrote (refused_line k) out) c ∙ sym (not_zero (paper why).number (report_length n q row v out) (wrote (refused_line (paper why).number) out) (refused_number why));
        bytes = s ∙ ap (λ (k : ℕ). written (refused_line k) out) c ∙ sym (not_zero (paper why).number (reported n q row v out) (written (refused_line (paper why).number) out) (refused_number why));
      })

-- ---- rows that are the same to the last are reported alike

lines_same : (q : ℕ) (f g : ℕ → Row) (m : ℕ) → ((k : ℕ) → k < m → f k ≡ g k) → row_lines q f m ≡ row_lines q g m
lines_same q f g zero h = refl
lines_same q f g (suc k) h = rw (lines_same q f g k (λ j l. h j (omega arith)), h k (omega arith))

report_same : (n q : ℕ) (f g : ℕ → Row) (v : ℕ) → ((k : ℕ) → k < 2 * n → f k ≡ g k) → report n q f v ≡ report n q g v
unfolding report
report_same n q f g v h = rw (lines_same q f g (2 * n) h)

-- ---- a tree that was built

value_zero : (n : ℕ) (ws : List ℕ) → value ws ≡ 0 → value (zeroed n ws) ≡ 0
value_zero zero ws h = h
value_zero (suc n) [] h = refl
value_zero (suc n) (u ∷ ws) h = let z : value (zeroed n ws) ≡ 0 = value_zero n ws (omega arith) in omega arith

-- what an output holds if the answer is done
on_done_lem : {A : Type 0} (p : Paper) (new zeros old : A) {e : A} → p.number ≡ 0 → e ≡ settled p new zeros old → e ≡ new
on_done_lem p new zeros old h s = s ∙ rw h

done_of : (r : Answer) → (answered r).number ≡ 0 → r ≡ Ok tt
done_of (Ok tt) h = refl
done_of (Err why) h = absurd (refused_number why h)

-- built, from outputs whose vacuum is zero
module _ (i : Input) (clear : value i.out.vs ≡ 0) {r : Answer} {xs zs ps vs room : List ℕ} (b : FlatBuilt i r xs zs ps vs room) where
  abbrev m : Modes
  m = rows i.leaves (tree_of i)

  abbrev w : ℕ
  w = words_for i.q

  -- done: each row is read back from its phase and its words
  row_read : (answer i).number ≡ 0 → (k : ℕ) → k < 2 * i.n → row_in i.q xs zs ps k ≡ m.row k
  row_read h k l =
      let stored = flatpack_stored i r xs zs ps vs room b (done_of r (ap (λ (p : Paper). p.number) b.told ∙ h)) in
      row_is (stored.x_part k l) (stored.z_part k l) (stored.phase k l)
    where
      row_is : {p x z : ℕ} {o : Row} → x ≡ o.x → z ≡ o.z → p ≡ o.p → ◌≡◌ {A = Row} (record { p = p; x = x; z = z }) o
      row_is px pz pp = rw (px, pz, pp)

  same_report : (answer i).number ≡ 0 → report i.n i.q (row_in i.q xs zs ps) (value vs) ≡ report i.n i.q m.row 0
  same_report h =
      report_same i.n i.q (row_in i.q xs zs ps) m.row (value vs) (row_read h)
      ∙ ap (report i.n i.q m.row) (ap value (on_done_lem (answer i) _ _ _ h b.vacuum) ∙ value_zero w i.out.vs clear)

  -- so what is said of the words is what is said of the tree's rows
  pub said_rows : (out : List ℕ) → (said_length (answer i) i.n i.q (row_in i.q xs zs ps) (value vs) out ≡ said_length (answer i) i.n i.q m.row 0 out)
      × (said (answer i) i.n i.q (row_in i.q xs zs ps) (value vs) out ≡ said (answer i) i.n i.q m.row 0 out)
  unfolding report_length reported
  said_rows out = go (answer i).number refl
    where
      go : (k : ℕ) → (answer i).number ≡ k
          → (if_zero k (report_length i.n i.q (row_in i.q xs zs ps) (value vs) out) (wrote (refused_line (answer i).number) out)
          ≡ if_zero k (report_length i.n i.q m.row 0 out) (wrote (refused_line (answer i).number) out))
          × (if_zero k (reported i.n i.q (row_in i.q xs zs ps) (value vs) out) (written (refused_line (answer i).number) out)
          ≡ if_zero k (reported i.n i.q m.row 0 out) (written (refused_line (answer i).number) out))
      go zero h = (rw (same_report h), rw (same_report h))
      go (suc k) h = (refl, refl)

-- ---- the reply to a count and a table

pub builds : (n : ℕ) (table out : List ℕ) {q len : ℕ} {es : List ℕ} {fs : List Bool} {r : Answer} {xs zs ps vs room after : List ℕ}
    → q ≡ used table (min n 256)
    → es ≡ placed (plain_at table) (4 * min n 256) (replicate 1024 0)
    → fs ≡ placed (filled_at table) (3 * min n 256) (replicate 768 false)
    → FlatBuilt (given true n q es fs (replicate 2048 0) (replicate 2048 0) (replicate 512 0) (replicate 4 0) (replicate 4096 0)) r xs zs ps vs room
    → len ≡ said_length (answered r) n q (row_in q xs zs ps) (value vs) out
    → after ≡ said (answered r) n q (row_in q xs zs ps) (value vs) out
    → Builds n table out (record { answer = r; line = None; length = len }) after
unfolding input_of
builds n table out {q} {len} {es} {fs} {r} {xs} {zs} {ps} {vs} {room} {after} hq he hf b l s =
    let i = input_of n table in
    let same : ◌≡◌ {A = Input} (given true n q es fs (replicate 2048 0) (replicate 2048 0) (replicate 512 0) (replicate 4 0) (replicate 4096 0)) i = rw (hq, he, hf) in
    let c : FlatBuilt i r xs zs ps vs room = subst (λ (i : Input). FlatBuilt i r xs zs ps vs room) same b in
    let both = said_rows i refl c out in
    record {
      told_number = c.told;
      told_line = refl;
      told_length = l ∙ ap (λ (q : ℕ). said_length (answered r) n q (row_in q xs zs ps) (value vs) out) hq ∙ ap (λ (p : Paper). said_length p n i.q (row_in i.q xs zs ps) (value vs) out) c.told ∙ both.0;
      told_bytes = s ∙ ap (λ (q : ℕ). said (answered r) n q (row_in q xs zs ps) (value vs) out) hq ∙ ap (λ (p : Paper). said p n i.q (row_in i.q xs zs ps) (value vs) out) c.told ∙ both.1;
    }

-- ---- the reply to a text

module _ (s : State) (table out : List ℕ) {a : Result ℕ Malformed} {after : List ℕ} (f : Finishes s a) where
  pub replies_entries : (n : ℕ) {r : Reply} → a ≡ Ok n → Builds n table out r after → Replied (finished s) table out r after
  replies_entries n {r} h b =
      subst (λ (t : Told). Replied t table out r after) (ap text_paper (sym h) ∙ f.answer)
      (record { number = b.told_number; line = b.told_line; length = b.told_length; bytes = b.told_bytes })

  pub replies_malformed : (fault : Malformed) {v k : ℕ} → a ≡ Err fault → v ≡ 16 → k ≡ wrote (refused_line v) out → after ≡ written (refused_line v) out
      → Replied (finished s) table out (record { answer = Err NotWell; line = Some fault.line; length = k }) after
  replies_malformed fault {v} {k} h c p q =
      subst (λ (t : Told). Replied t table out (record { answer = Err NotWell; line = Some fault.line; length = k }) after) (ap text_paper (sym h) ∙ f.answer)
      (record { number = refl; line = refl; length = rw c at p; bytes = rw c at q })
