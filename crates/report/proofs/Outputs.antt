-- What is written for a text is its output by the definition, and the number of the reply is the text's: the tables hold its flatpack, so the tree, its refusals and its rows are the text's.
use Prim.Native.Nat.{ℕ, zero, suc, ◌+◌, ◌*◌, ◌≤◌, ◌<◌, min}
use native.Mathlib.Nat.{mul-le-mul_left, mul-le-mul}
use native.Mathlib.Omega.{arith}
use mathlib.Core.Path.{◌≡◌, refl, sym, ap, ◌∙◌, subst, fun_ext}
use mathlib.Core.List.{List, ◌∷◌, ◌++◌}
use mathlib.Core.Bool.{Bool, true, false, cond, ◌&&◌, ◌||◌}
use lib.Dec.{eqb, ltb, leb}
use lib.ListN.{length, get_or, take, drop, replicate}
use lib.Seq.{take_all}
use borrow.Author.Tests.{leb-true, ltb-true, ltb-false, le-leb, lt-ltb, le-ltb, ne_eqb}
use Rattle.std.specs.Prelude.{Option, Ok, Err}
use Rattle.refusal.specs.declared.Refusal.{Refusal}
use Rattle.refusal.specs.declared.Refusal.TheVariants.{Size, Short, Qubits, Child, SelfChild, SecondParent, SecondEntry, Roots, Leaf, Commuting, Dependent, NoVacuum, Vacuum, Undecodable, Unencodable, Malformed, Value, OddModes}
use Rattle.refusal.specs.Numbers.{Paper, bare, paper, Answer, answered}
use Rattle.refusal.specs.Search.{some_below}
use Rattle.refusal.specs.Table.{Rule, ◌gives◌, first_of, if_zero}
use Rattle.refusal.proofs.Bools.{or_left, or_right}
use Rattle.algebra.specs.Rows.{Row}
use Rattle.dense_block.specs.Words.{words_for, copied}
use Rattle.trees.specs.Trees.{Tree}
use Rattle.trees.specs.Flatpacks.{Flatpack, past, flat_tree}
use Rattle.trees.specs.Leaves.{rows}
use Rattle.tree_sizes.specs.Sizes.{outside, reaches, qubit_at}
use Rattle.tree_sizes.proofs.SizeLaws.{inside}
use Rattle.ternarytree.specs.Building.{Input, given, pack_of, tree_of, slot_at, bad_size, too_short, bad_qubits, tree_checks, answer}
use Rattle.report.specs.declared.reply.Reply.{Reply}
use Rattle.flatpack_text.specs.Text.{lines, Entry, lines_of, Parsed, well_formed, malformed, is_empty, parse}
use Rattle.flatpack_text.specs.Machine.{most, told, numbers_of, kept}
use Rattle.report.specs.Report.{digits_of, refused, report, refused_line, wrote, written, roomy, report_length, reported}
use Rattle.flatpack_text.specs.Entries.{used}
use Rattle.report.specs.Output.{pack, tree, qubits, reaching, verdict, verdict_of, answer_text, output_of, output}
use Rattle.report.specs.Located.{told_line}
use Rattle.report.specs.Replies.{input_of, said_length, said, Replied}
use Rattle.report.proofs.Digits.{digits_word}
use Rattle.report.proofs.LineLaws.{length_two}
use Rattle.report.proofs.Packs.{plain, full, plain_long, full_long, table_at, qubit_number, qubit_same, slot_same}

outside_min : (p : ℕ) → outside (min p 257) ≡ outside p
unfolding outside
outside_min p = go (ltb p 257) refl
  where
    go : (b : Bool) → ltb p 257 ≡ b → (eqb (min p 257) 0 || ltb 256 (min p 257)) ≡ (eqb p 0 || ltb 256 p)
    go true e = let h = ltb-true p 257 e in let m : min p 257 ≡ p = omega arith in rw m
    go false e =
        let h = ltb-false p 257 e in
        let m : min p 257 ≡ 257 = omega arith in
        let z : p ≡ 0 → ⊥ = λ e. omega arith in
        rw (m, ne_eqb p 0 z, lt-ltb 256 p (omega arith))

-- ---- a line of a refusal has room

number_low : (why : Refusal) → (paper why).number ≤ 18
number_low Size = leb-true _ _ refl
number_low Short = leb-true _ _ refl
number_low Qubits = leb-true _ _ refl
number_low Child = leb-true _ _ refl
number_low SelfChild = leb-true _ _ refl
number_low SecondParent = leb-true _ _ refl
number_low SecondEntry = leb-true _ _ refl
number_low Roots = leb-true _ _ refl
number_low Leaf = leb-true _ _ refl
number_low (Commuting i j) = leb-true _ _ refl
number_low Dependent = leb-true _ _ refl
number_low NoVacuum = leb-true _ _ refl
number_low Vacuum = leb-true _ _ refl
number_low Undecodable = leb-true _ _ refl
number_low Unencodable = leb-true _ _ refl
number_low Malformed = leb-true _ _ refl
number_low Value = leb-true _ _ refl
number_low OddModes = leb-true _ _ refl

answer_low : (r : Answer) → (answered r).number ≤ 18
answer_low (Ok tt) = leb-true 0 18 refl
answer_low (Err why) = number_low why

-- a text that is written whole
abbrev pub Whole : List ℕ → List ℕ → ℕ → List ℕ → Type 0
Whole text out len after = (len ≡ length text) × (after ≡ text ++ drop (length text) out)

pub refused_whole : (k : ℕ) (out : List ℕ) → k ≤ 18 → 164480 ≤ length out → Whole (refused_line k) out (wrote (refused_line k) out) (written (refused_line k) out)
unfolding wrote written
refused_whole k out h l =
    let m : length (refused_line k) ≤ length out = omega (arith, length_two refused (digits_of k), digits_word k (omega arith)) in
    (rw (le-leb (length (refused_line k)) (length out) m), rw (le-leb (length (refused_line k)) (length out) m))

report_whole : (n q : ℕ) (row : ℕ → Row) (out : List ℕ) → n ≤ 256 → q ≤ 256 → 164480 ≤ length out → Whole (report n q row 0) out (report_length n q row 0 out) (reported n q row 0 out)
unfolding report_length reported roomy
report_whole n q row out h l m =
    let k : (2 * n + 2) * (q + 64) ≤ 514 * 320 = mul-le-mul {n₂ = 514} {m₂ = 320} (omega arith) (omega arith) in
    let b : roomy n q (length out) ≡ true = rw (le-leb n 256 h, le-leb q 256 l, le-leb ((2 * n + 2) * (q + 64)) (length out) (omega arith)) in
    (rw b, rw b)

first_passes : (a : Bool) (rules : List Rule) → (first_of ((a gives 1) ∷ rules)).number ≡ 0 → a ≡ false
first_passes true rules h = absurd (omega arith)
first_passes false rules h = refl

module _ (es : List Entry) (d table : List ℕ) (few : length es ≤ 256) (room : 1024 ≤ length d) (holds : table ≡ copied d (numbers_of es)) where
  abbrev pub n : ℕ
  n = length es

  abbrev pub entries : List ℕ
  entries = plain es d table few room holds

  abbrev pub filled : List Bool
  filled = full es d table few room holds

  -- what the tree is built from
  abbrev pub i : Input
  i = given true n (used table n) entries filled (replicate 2048 0) (replicate 2048 0) (replicate 512 0) (replicate 4 0) (replicate 4096 0)

  pub input_is : input_of n table ≡ i
  unfolding input_of
  input_is = let e : min (length es) 256 ≡ length es = omega arith in rw e

  -- the qubits used, counted as far as 257
  used_past : (k : ℕ) → k ≤ n → used table k ≡ min (past (pack es).qubit k) 257
  unfolding used past
  used_past zero h = refl
  used_past (suc k) h =
      let b = used_past k (omega arith) in
      let q : get_or table (4 * k) 0 ≡ (pack es).qubit k = table_at es d table few room holds (4 * k) (omega arith) ∙ qubit_number es k in
      rw (b, q) (omega arith)

  qubits_same : (j : ℕ) → qubit_at entries j ≡ (pack es).qubit j
  qubits_same j = qubit_same es d table few room holds j

  pack_same : pack_of i ≡ pack es
  pack_same =
      let f : ◌≡◌ {A = ℕ → ℕ} (qubit_at entries) (pack es).qubit = fun_ext qubits_same in
      let g : ◌≡◌ {A = ℕ → Option ℕ} (slot_at entries filled) (pack es).slot = fun_ext (slot_same es d table few room holds) in
      let start : pack_of i ≡ record { n = n; qubit = qubit_at entries; slot = slot_at entries filled } = refl in
      let next : ◌≡◌ {A = Flatpack} (record { n = n; qubit = qubit_at entries; slot = slot_at entries filled }) (record { n = n; qubit = (pack es).qubit; slot = slot_at entries filled }) = ap (λ (f : ℕ → ℕ). packed f (slot_at entries filled)) f in
      start ∙ next ∙ ap (packed (pack es).qubit) g
    where
      packed : (ℕ → ℕ) → (ℕ → Option ℕ) → Flatpack
      packed f g = record { n = n; qubit = f; slot = g }

  pub tree_same : tree_of i ≡ tree es
  tree_same = ap (flat_tree true) pack_same

  -- ---- the refusals

  abbrev sizes : Bool
  sizes = outside n || (outside (qubits es) || reaching es 256)

  pub reach_same : (b : ℕ) → reaches entries n b ≡ reaching es b
  unfolding reaches
  reach_same b = ap (λ (f : ℕ → ℕ). some_below n (λ k. leb b (f k))) (fun_ext qubits_same)

  used_same : used table n ≡ min (qubits es) 257
  used_same = used_past n (omega arith)

  size_same : bad_size i ≡ sizes
  unfolding bad_size
  size_same = ap (λ (b : Bool). outside n || (b || reaches entries n 256)) (ap outside used_same ∙ outside_min (qubits es)) ∙ ap (λ (b : Bool). outside n || (outside (qubits es) || b)) (reach_same 256)

  module _ (fits : sizes ≡ false) where
    few_qubits : (0 < qubits es) × (qubits es ≤ 256)
    few_qubits = inside (qubits es) (or_left (outside (qubits es)) _ (or_right (outside n) _ fits))

    qubits_are : used table n ≡ qubits es
    qubits_are = used_same ∙ (let h = few_qubits in omega arith)

    below_same : bad_qubits i ≡ (ltb (qubits es) n || reaching es (qubits es))
    unfolding bad_qubits
    below_same =
        ap (λ (b : Bool). ltb (used table n) n || b) (reach_same (used table n)) ∙ ap (λ (q : ℕ). ltb q n || reaching es q) qubits_are

    -- the tables and outputs are long enough
    long : too_short i ≡ false
    unfolding too_short
    long =
        let q : used table n ≤ 256 = omega (arith, qubits_are, few_qubits) in
        let w : words_for (used table n) ≤ 4 = omega arith in
        let a : 2 * n * words_for (used table n) ≤ 2048 = omega (arith, mul-le-mul_left (2 * n) w) in
        let b : 4 * n * words_for (used table n) ≤ 4096 = omega (arith, mul-le-mul_left (4 * n) w) in
        rw (
          plain_long es d table few room holds,
          full_long es d table few room holds,
          le-ltb 1024 (4 * n) (omega arith),
          le-ltb 768 (3 * n) (omega arith),
          le-ltb 2048 (2 * n * words_for (used table n)) a,
          le-ltb 512 (2 * n) (omega arith),
          le-ltb 4 (words_for (used table n)) w,
          le-ltb 4096 (4 * n * words_for (used table n)) b,
        )

  pub answer_same : answer i ≡ verdict es
  unfolding answer verdict
  answer_same = go sizes refl
    where
      rules : Bool → Bool → Bool → Tree → Paper
      rules a b c t = first_of ((a gives 1) ∷ (b gives 2) ∷ (c gives 3) ∷ tree_checks true t)

      go : (b : Bool) → sizes ≡ b → rules (bad_size i) (too_short i) (bad_qubits i) (tree_of i) ≡ first_of ((sizes gives 1) ∷ (ltb (qubits es) n || reaching es (qubits es) gives 3) ∷ tree_checks true (tree es))
      go true e = ap (λ (a : Bool). rules a (too_short i) (bad_qubits i) (tree_of i)) (size_same ∙ e) ∙ rw e
      go false e =
          ap (λ (a : Bool). rules a (too_short i) (bad_qubits i) (tree_of i)) (size_same ∙ e)
          ∙ ap (λ (b : Bool). rules false b (bad_qubits i) (tree_of i)) (long e)
          ∙ ap (λ (c : Bool). rules false false c (tree_of i)) (below_same e)
          ∙ ap (rules false false (ltb (qubits es) n || reaching es (qubits es))) tree_same
          ∙ rw e

  -- ---- what is written

  module _ (out : List ℕ) (wide : 164480 ≤ length out) (r : Answer) (a : answered r ≡ answer i) where
    abbrev row : ℕ → Row
    row = (rows true (tree es)).row

    rows_same : (rows true (tree_of i)).row ≡ row
    rows_same = ap (λ (t : Tree). (rows true t).row) tree_same

    passes : (verdict es).number ≡ 0 → sizes ≡ false
    unfolding verdict
    passes h = first_passes sizes ((ltb (qubits es) n || reaching es (qubits es) gives 3) ∷ tree_checks true (tree es)) h

    verdict_whole : Whole (answer_text es) out (said_length (verdict es) n (used table n) row 0 out) (said (verdict es) n (used table n) row 0 out)
    unfolding answer_text
    verdict_whole = go (verdict es).number refl
      where
        go : (k : ℕ) → (verdict es).number ≡ k
            → Whole (if_zero k (report n (qubits es) row 0) (refused_line (verdict es).number)) out
            (if_zero k (report_length n (used table n) row 0 out) (wrote (refused_line (verdict es).number) out))
            (if_zero k (reported n (used table n) row 0 out) (written (refused_line (verdict es).number) out))
        go zero h =
            let f = few_qubits (passes h) in
            subst (λ (q : ℕ). Whole (report n (qubits es) row 0) out (report_length n q row 0 out) (reported n q row 0 out)) (sym (qubits_are (passes h)))
            (report_whole n (qubits es) row out few f.1 wide)
        go (suc k) h = refused_whole (verdict es).number out (omega (arith, answer_low r, ap (λ (p : Paper). p.number) (a ∙ answer_same))) wide

    pub told_whole : Whole (answer_text es) out (said_length (answer i) n i.q (rows true (tree_of i)).row 0 out) (said (answer i) n i.q (rows true (tree_of i)).row 0 out)
    told_whole =
        subst (λ (p : Paper). Whole (answer_text es) out (said_length p n i.q (rows true (tree_of i)).row 0 out) (said p n i.q (rows true (tree_of i)).row 0 out)) (sym answer_same)
        (subst (λ (f : ℕ → Row). Whole (answer_text es) out (said_length (verdict es) n i.q f 0 out) (said (verdict es) n i.q f 0 out)) (sym rows_same) verdict_whole)

-- ---- more than 256 entries

module _ (es : List Entry) (n : ℕ) (table : List ℕ) (count : 256 < n) (many : 256 < length es) where
  pub outside_high : (k : ℕ) → 256 < k → outside k ≡ true
  unfolding outside
  outside_high k h = let z : k ≡ 0 → ⊥ = λ e. omega arith in rw (ne_eqb k 0 z, lt-ltb 256 k h)

  answer_one : answer (input_of n table) ≡ bare 1
  unfolding answer bad_size input_of
  answer_one = rw (outside_high n count)

  pub verdict_one : verdict es ≡ bare 1
  unfolding verdict
  verdict_one = rw (outside_high (length es) many)

  pub many_verdict : answer (input_of n table) ≡ verdict es
  many_verdict = answer_one ∙ sym verdict_one

  pub many_whole : (out : List ℕ) → 164480 ≤ length out → (q : ℕ) (row : ℕ → Row)
      → Whole (answer_text es) out (said_length (answer (input_of n table)) n q row 0 out) (said (answer (input_of n table)) n q row 0 out)
  unfolding answer_text
  many_whole out wide q row = rw (answer_one, verdict_one) (refused_whole 1 out (leb-true 1 18 refl) wide)

-- ---- the output of a text

-- what a reply says of n entries, from what the tree is built from
abbrev Says : List ℕ → ℕ → Input → Reply → List ℕ → Type 0
Says out n i r after =
    (r.length ≡ said_length (answer i) n i.q (rows true (tree_of i)).row 0 out)
    × (after ≡ said (answer i) n i.q (rows true (tree_of i)).row 0 out)
    × (answered r.answer ≡ answer i)

join_whole : (text out : List ℕ) {l after : List ℕ} {len k : ℕ} → len ≡ k → after ≡ l → Whole text out k l → Whole text out len after
join_whole text out p q w = (p ∙ w.0, q ∙ w.1)

module _ (es : List Entry) (d table out : List ℕ) (room : 1024 ≤ length d) (holds : table ≡ copied d (numbers_of (take 256 es))) (wide : 164480 ≤ length out) (r : Reply) (after : List ℕ) where
  few_output : length es ≤ 256 → (n : ℕ) → n ≡ length es → Says out n (input_of n table) r after → Whole (answer_text es) out r.length after
  few_output few n e s =
      let all : table ≡ copied d (numbers_of es) = holds ∙ ap (λ (l : List Entry). copied d (numbers_of l)) (take_all 256 es few) in
      let s1 : Says out (length es) (input_of (length es) table) r after = subst (λ (n : ℕ). Says out n (input_of n table) r after) e s in
      let s2 : Says out (length es) (i es d table few room all) r after = subst (λ (i : Input). Says out (length es) i r after) (input_is es d table few room all) s1 in
      join_whole (answer_text es) out s2.0 s2.1 (told_whole es d table few room all out wide r.answer s2.2)

  pub entries_output : Says out (min (length es) most) (input_of (min (length es) most) table) r after → Whole (answer_text es) out r.length after
  entries_output s = go (ltb 256 (length es)) refl
    where
      go : (b : Bool) → ltb 256 (length es) ≡ b → Whole (answer_text es) out r.length after
      go true e =
          let h = ltb-true 256 (length es) e in
          join_whole (answer_text es) out s.0 s.1 (many_whole es (min (length es) most) table (omega arith) h out wide (input_of (min (length es) most) table).q (rows true (tree_of (input_of (min (length es) most) table))).row)
      go false e = let h = ltb-false 256 (length es) e in few_output h (min (length es) most) (omega arith) s

-- the reply to what reading a text told, with the table that reading it left, is the text's output
pub reply_whole : (t d table out : List ℕ) {r : Reply} {after : List ℕ} → table ≡ kept t d → 1024 ≤ length d → 164480 ≤ length out → Replied (told (parse t)) table out r after → Whole (output t) out r.length after
unfolding output parse kept
reply_whole t d table out {r} {after} holds room wide h = go ((lines_of (lines t).ended).all && is_empty (lines t).rest) h
  where
    es : List Entry
    es = (lines_of (lines t).ended).entries

    go : (b : Bool) → Replied (told (cond b (well_formed es) (malformed (suc (length es))))) table out r after → Whole (output_of (cond b (well_formed es) (malformed (suc (length es))))) out r.length after
    go true h = entries_output es d table out room holds wide r after (h.length, h.bytes, h.number)
    go false h = join_whole (refused_line 16) out h.length h.bytes (refused_whole 16 out (leb-true 16 18 refl) wide)

-- ---- its number and line

-- the answer to the entries of a text is their verdict
answer_verdict : (es : List Entry) (d table : List ℕ) → 1024 ≤ length d → table ≡ copied d (numbers_of (take 256 es)) → answer (input_of (min (length es) most) table) ≡ verdict es
answer_verdict es d table room holds = go (ltb 256 (length es)) refl
  where
    go : (b : Bool) → ltb 256 (length es) ≡ b → answer (input_of (min (length es) most) table) ≡ verdict es
    go true e = many_verdict es (min (length es) most) table (let h = ltb-true 256 (length es) e in omega arith) (ltb-true 256 (length es) e)
    go false e =
        let few = ltb-false 256 (length es) e in
        let all : table ≡ copied d (numbers_of es) = holds ∙ ap (λ (l : List Entry). copied d (numbers_of l)) (take_all 256 es few) in
        let count : min (length es) most ≡ length es = omega arith in
        ap (λ (n : ℕ). answer (input_of n table)) count ∙ ap answer (input_is es d table few room all) ∙ answer_same es d table few room all

-- the reply's number is the text's, and its line the one that is told
pub reply_numbered : (t d table out : List ℕ) {r : Reply} {after : List ℕ} → table ≡ kept t d → 1024 ≤ length d → Replied (told (parse t)) table out r after
    → (answered r.answer ≡ verdict_of (parse t)) × (r.line ≡ told_line (told (parse t)))
unfolding parse kept
reply_numbered t d table out {r} {after} holds room h = go ((lines_of (lines t).ended).all && is_empty (lines t).rest) h
  where
    es : List Entry
    es = (lines_of (lines t).ended).entries

    parsed : Bool → Parsed
    parsed b = cond b (well_formed es) (malformed (suc (length es)))

    go : (b : Bool) → Replied (told (parsed b)) table out r after → (answered r.answer ≡ verdict_of (parsed b)) × (r.line ≡ told_line (told (parsed b)))
    go true h = (h.number ∙ answer_verdict es d table room holds, h.line)
    go false h = (h.number, h.line)
