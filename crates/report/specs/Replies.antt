-- For the private functions of `respond` and `locate`, and needs no belief: for a text read from `start`, with a table of 1024 numbers and a buffer of 164,480 bytes, as the program
-- has them, `text_answered`, `text_numbered` and `text_located` (proofs/Theorems.antt) say what it comes to. What shorter tables and buffers are left with is read here.
use Rattle.std.specs.Prelude.{ℕ, zero, suc, ◌*◌, min, List, ◌≡◌, true, false, Option, Some, None, replicate}
use Rattle.refusal.specs.Numbers.{Paper, bare, answered}
use Rattle.refusal.specs.Search.{Least}
use Rattle.refusal.specs.Table.{if_zero}
use Rattle.algebra.specs.Rows.{Row}
use Rattle.trees.specs.Leaves.{rows}
use Rattle.ternarytree.specs.Building.{Input, given, tree_of, answer, fault_place}
use Rattle.flatpack_text.specs.Machine.{Told}
use Rattle.flatpack_text.specs.Entries.{placed, plain_at, filled_at, used}
use Rattle.report.specs.declared.locate.Site.{Site}
use Rattle.report.specs.declared.reply.Reply.{Reply}
use Rattle.report.specs.Report.{refused_line, wrote, written, report_length, reported}
use Rattle.report.specs.Located.{told_line, located_at}

-- ---- respond

-- a report of rows, or the line of a refusal, in a buffer: how many bytes are written, and the buffer at exit
abbrev pub said_length : Paper → ℕ → ℕ → (ℕ → Row) → ℕ → List ℕ → ℕ
said_length p n q row v out = if_zero p.number (report_length n q row v out) (wrote (refused_line p.number) out)

abbrev pub said : Paper → ℕ → ℕ → (ℕ → Row) → ℕ → List ℕ → List ℕ
said p n q row v out = if_zero p.number (reported n q row v out) (written (refused_line p.number) out)

-- what the tree is built from: the entries in tables of their own, and outputs and work room for 256 modes on 256 qubits
unfoldable pub input_of : ℕ → List ℕ → Input
input_of n table =
    given true n (used table (min n 256)) (placed (plain_at table) (4 * min n 256) (replicate 1024 0)) (placed (filled_at table) (3 * min n 256) (replicate 768 false))
    (replicate 2048 0) (replicate 2048 0) (replicate 512 0) (replicate 4 0) (replicate 4096 0)

-- n entries, of which the table has the first 256, answered: the reply r, and the buffer at exit
pub record Builds (n : ℕ) (table out : List ℕ) (r : Reply) (after : List ℕ) : Type 0 where
  pub told_number : answered r.answer ≡ answer (input_of n table)
  pub told_line : r.line ≡ None
  pub told_length : r.length ≡ said_length (answer (input_of n table)) n (input_of n table).q (rows true (tree_of (input_of n table))).row 0 out
  pub told_bytes : after ≡ said (answer (input_of n table)) n (input_of n table).q (rows true (tree_of (input_of n table))).row 0 out

-- what reading told answered: 16 and the line, or what is said of the entries
pub record Replied (reading : Told) (table out : List ℕ) (r : Reply) (after : List ℕ) : Type 0 where
  pub number : answered r.answer ≡ if_zero reading.number (answer (input_of reading.entries table)) (bare reading.number)
  pub line : r.line ≡ told_line reading
  pub length : r.length ≡ if_zero reading.number
      (said_length (answer (input_of reading.entries table)) reading.entries (input_of reading.entries table).q (rows true (tree_of (input_of reading.entries table))).row 0 out)
      (wrote (refused_line reading.number) out)
  pub bytes : after ≡ if_zero reading.number
      (said (answer (input_of reading.entries table)) reading.entries (input_of reading.entries table).q (rows true (tree_of (input_of reading.entries table))).row 0 out)
      (written (refused_line reading.number) out)

-- ---- locate

-- the first slot at fault of n entries, of which the table has the first 256
unfoldable pub fault_at : ℕ → List ℕ → Least
fault_at n table = fault_place true n (placed (plain_at table) (4 * min n 256) (replicate 1024 0)) (placed (filled_at table) (3 * min n 256) (replicate 768 false))

-- the number of what a text is, 0 or 16, decides: the first slot at fault, or the line that is no entry
abbrev pub located_in : ℕ → ℕ → ℕ → List ℕ → Option Site
located_in zero n line table = located_at (fault_at n table)
located_in (suc k) n line table = Some (record { line = line; spot = None })

unfoldable pub located : Told → List ℕ → Option Site
located t table = located_in t.number t.entries t.line table
