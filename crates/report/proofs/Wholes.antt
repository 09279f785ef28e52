-- A whole report in a buffer that has room: the header, the rows and the vacuum, one after the other.
use Prim.Native.Nat.{ℕ, ◌+◌, ◌*◌, ◌≤◌}
use native.Mathlib.Nat.{zero-add}
use native.Mathlib.Omega.{arith}
use mathlib.Core.Path.{◌≡◌, sym, ap, ◌∙◌}
use mathlib.Core.List.{List, ◌++◌, append_assoc}
use mathlib.Core.Bool.{Bool, true, false, cond}
use lib.Dec.{leb}
use lib.ListN.{length, drop}
use lib.Seq.{length-sets, sets-eq}
use borrow.Author.Tests.{leb-true, le-leb}
use Rattle.refusal.proofs.Bools.{and_left, and_right}
use Rattle.algebra.specs.Rows.{Row}
use Rattle.report.specs.Report.{digits_of, majorana, vacuum, bit_at, bits, header_line, vacuum_line, row_lines, report, wrote, written, roomy, report_length, reported}
use Rattle.report.proofs.Digits.{digits_word}
use Rattle.report.proofs.Stores.{join, length_columns}
use Rattle.report.proofs.LineLaws.{length_two, length_three, Leaves, Stored, stored_same}

-- what room means
pub record Room (n q size : ℕ) : Type 0 where
  pub modes : n ≤ 256
  pub qubits : q ≤ 256
  pub lines : (2 * n + 2) * (q + 64) ≤ size

pub roomy_is : (n q size : ℕ) → roomy n q size ≡ true → Room n q size
unfolding roomy
roomy_is n q size h =
    let r = and_right (leb n 256) _ h in
    record {
      modes = leb-true n 256 (and_left (leb n 256) _ h);
      qubits = leb-true q 256 (and_left (leb q 256) _ r);
      lines = leb-true ((2 * n + 2) * (q + 64)) size (and_right (leb q 256) _ r);
    }

pub header_short : (n q : ℕ) → n ≤ 256 → q ≤ 256 → length (header_line n q) ≤ q + 64
header_short n q h l = omega (arith, length_three majorana (digits_of n) (digits_of q), digits_word n (omega arith), digits_word q (omega arith))

pub vacuum_short_lem : (q v : ℕ) → length (vacuum_line q v) ≤ q + 64
vacuum_short_lem q v = omega (arith, length_two vacuum (bits q v), length_columns (bit_at v) q)

-- a line at the front of a buffer that holds it
pub front_stored : (line out : List ℕ) {r : ℕ} {e : List ℕ} → length line ≤ length out → Leaves line out r e → Stored out 0 line r e
unfolding wrote written
front_stored line out h s =
    let k : 0 + length line ≤ length out = omega arith in
    record {
      place = s.count ∙ rw (le-leb (length line) (length out) h, zero-add (length line));
      bytes = s.bytes ∙ rw (le-leb (length line) (length out) h) (sym (sets-eq line out 0 k ∙ rw (zero-add (length line))));
    }

-- a report is its lines, one after the other
pub report_lines : (n q : ℕ) (row : ℕ → Row) (v : ℕ) → (header_line n q ++ row_lines q row (2 * n)) ++ vacuum_line q v ≡ report n q row v
unfolding report
report_lines n q row v = append_assoc (header_line n q) (row_lines q row (2 * n)) (vacuum_line q v)

-- a text at the front, where the test for it has passed
front_if : (text out : List ℕ) (b : Bool) {r : ℕ} {e : List ℕ} → b ≡ true → length text ≤ length out → Stored out 0 text r e
    → record { count : r ≡ cond b (length text) 0; bytes : e ≡ cond b (text ++ drop (length text) out) out }
front_if text out b h l s =
    let k : 0 + length text ≤ length out = omega arith in
    record { count = s.place ∙ rw (h, zero-add (length text)); bytes = s.bytes ∙ sets-eq text out 0 k ∙ rw (h, zero-add (length text)) }

-- nothing is written where it has not
pub not_roomy : (n q : ℕ) (row : ℕ → Row) (v : ℕ) (out : List ℕ) → roomy n q (length out) ≡ false
    → record { count : 0 ≡ report_length n q row v out; bytes : out ≡ reported n q row v out }
unfolding report_length reported
not_roomy n q row v out h = record { count = rw h; bytes = rw h }

module _ (out : List ℕ) (n q : ℕ) (h : roomy n q (length out) ≡ true) {a : ℕ} {d : List ℕ} (s : Leaves (header_line n q) out a d) where
  header_fits : length (header_line n q) ≤ length out
  header_fits =
      let r = roomy_is n q (length out) h in
      let l = header_short n q r.modes r.qubits in
      let m : (2 * n + 2) * (q + 64) ≡ 2 * n * (q + 64) + 2 * (q + 64) = omega arith in
      omega (arith, r.lines)

  header_stored : Stored out 0 (header_line n q) a d
  header_stored = front_stored (header_line n q) out header_fits s

  -- the rows fit after the header
  pub rows_fit : a + 2 * n * (q + 64) ≤ length d
  rows_fit =
      let r = roomy_is n q (length out) h in
      let l = header_short n q r.modes r.qubits in
      let m : (2 * n + 2) * (q + 64) ≡ 2 * n * (q + 64) + 2 * (q + 64) = omega arith in
      omega (arith, r.lines, header_stored.place, ap length header_stored.bytes ∙ length-sets out 0 (header_line n q))

  module _ (row : ℕ → Row) (v : ℕ) {b : ℕ} {e : List ℕ} (m : b ≤ a + 2 * n * (q + 64)) (t : Stored d a (row_lines q row (2 * n)) b e) where
    -- and the vacuum after the rows
    pub vacuum_fits : b + length (vacuum_line q v) ≤ length e
    vacuum_fits =
        let r = roomy_is n q (length out) h in
        let l = header_short n q r.modes r.qubits in
        let w : (2 * n + 2) * (q + 64) ≡ 2 * n * (q + 64) + 2 * (q + 64) = omega arith in
        omega (
          arith,
          r.lines,
          vacuum_short_lem q v,
          header_stored.place,
          ap length header_stored.bytes ∙ length-sets out 0 (header_line n q),
          ap length t.bytes ∙ length-sets d a (row_lines q row (2 * n)),
        )

    pub whole_stored : {r : ℕ} {f : List ℕ} → Stored e b (vacuum_line q v) r f
        → record { count : r ≡ report_length n q row v out; bytes : f ≡ reported n q row v out }
    unfolding report_length reported
    whole_stored {r} {f} u =
        let i = join out 0 (header_line n q) (row_lines q row (2 * n)) header_stored.place header_stored.bytes t.place t.bytes in
        let j = join out 0 (header_line n q ++ row_lines q row (2 * n)) (vacuum_line q v) i.place i.bytes u.place u.bytes in
        let k : Stored out 0 (report n q row v) r f = stored_same out 0 r f (report_lines n q row v) j in
        front_if (report n q row v) out (roomy n q (length out)) h
        (omega (
          arith,
          k.place,
          u.place,
          vacuum_fits,
          ap length header_stored.bytes ∙ length-sets out 0 (header_line n q),
          ap length t.bytes ∙ length-sets d a (row_lines q row (2 * n)),
        )) k
