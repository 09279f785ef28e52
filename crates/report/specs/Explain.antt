-- What a refusal means, as one sentence in plain words, with the line and the slot where it was found if they are known.
use Rattle.std.specs.Prelude.{ℕ, List, [], ◌∷◌, ◌++◌, cond, Option, Some, None, leb, length, drop}
use Rattle.refusal.specs.declared.Refusal.{Refusal}
use Rattle.refusal.specs.declared.Refusal.TheVariants.{Size, Short, Qubits, Child, SelfChild, SecondParent, SecondEntry, Roots, Leaf, Commuting, Dependent, NoVacuum, Vacuum, Undecodable, Unencodable, Malformed, Value, OddModes}
use Rattle.refusal.specs.Numbers.{paper}
use Rattle.report.specs.declared.explain.Spot.{Spot}
use Rattle.report.specs.declared.explain.Spot.TheVariants.{X, Y, Z}
use Rattle.report.specs.declared.locate.Site.{Site}
use Rattle.report.specs.Report.{digits_of}

-- ---- words, as bytes: the text of each list stands above it

-- `rowreport: refused`
abbrev pub opening : List ℕ
opening = 114 ∷ 111 ∷ 119 ∷ 114 ∷ 101 ∷ 112 ∷ 111 ∷ 114 ∷ 116 ∷ 58 ∷ 32 ∷ 114 ∷ 101 ∷ 102 ∷ 117 ∷ 115 ∷ 101 ∷ 100 ∷ []

-- ` at line`
abbrev pub at_line : List ℕ
at_line = 32 ∷ 97 ∷ 116 ∷ 32 ∷ 108 ∷ 105 ∷ 110 ∷ 101 ∷ []

-- nothing, ` slot X.`, ` slot Y.`, ` slot Z.`
abbrev pub spot_words : Option Spot → List ℕ
spot_words None = []
spot_words (Some X) = 32 ∷ 115 ∷ 108 ∷ 111 ∷ 116 ∷ 32 ∷ 88 ∷ 46 ∷ []
spot_words (Some Y) = 32 ∷ 115 ∷ 108 ∷ 111 ∷ 116 ∷ 32 ∷ 89 ∷ 46 ∷ []
spot_words (Some Z) = 32 ∷ 115 ∷ 108 ∷ 111 ∷ 116 ∷ 32 ∷ 90 ∷ 46 ∷ []

-- what each refusal means
unfoldable pub phrase : Refusal → List ℕ
-- ` not 1 to 256 entries on qubits 0 to 255`
phrase Size = 32 ∷ 110 ∷ 111 ∷ 116 ∷ 32 ∷ 49 ∷ 32 ∷ 116 ∷ 111 ∷ 32 ∷ 50 ∷ 53 ∷ 54 ∷ 32 ∷ 101 ∷ 110 ∷ 116 ∷ 114 ∷ 105 ∷ 101 ∷ 115 ∷ 32 ∷ 111 ∷ 110 ∷ 32 ∷ 113 ∷ 117 ∷ 98 ∷ 105 ∷ 116 ∷ 115 ∷ 32 ∷ 48 ∷ 32 ∷ 116 ∷ 111 ∷ 32 ∷ 50 ∷ 53 ∷ 53 ∷ []
-- ` a lent slice is shorter than stated`
phrase Short = 32 ∷ 97 ∷ 32 ∷ 108 ∷ 101 ∷ 110 ∷ 116 ∷ 32 ∷ 115 ∷ 108 ∷ 105 ∷ 99 ∷ 101 ∷ 32 ∷ 105 ∷ 115 ∷ 32 ∷ 115 ∷ 104 ∷ 111 ∷ 114 ∷ 116 ∷ 101 ∷ 114 ∷ 32 ∷ 116 ∷ 104 ∷ 97 ∷ 110 ∷ 32 ∷ 115 ∷ 116 ∷ 97 ∷ 116 ∷ 101 ∷ 100 ∷ []
-- ` more entries than qubits, so one repeats`
phrase Qubits = 32 ∷ 109 ∷ 111 ∷ 114 ∷ 101 ∷ 32 ∷ 101 ∷ 110 ∷ 116 ∷ 114 ∷ 105 ∷ 101 ∷ 115 ∷ 32 ∷ 116 ∷ 104 ∷ 97 ∷ 110 ∷ 32 ∷ 113 ∷ 117 ∷ 98 ∷ 105 ∷ 116 ∷ 115 ∷ 44 ∷ 32 ∷ 115 ∷ 111 ∷ 32 ∷ 111 ∷ 110 ∷ 101 ∷ 32 ∷ 114 ∷ 101 ∷ 112 ∷ 101 ∷ 97 ∷ 116 ∷ 115 ∷ []
-- ` a slot's number is neither node nor leaf`
phrase Child = 32 ∷ 97 ∷ 32 ∷ 115 ∷ 108 ∷ 111 ∷ 116 ∷ 39 ∷ 115 ∷ 32 ∷ 110 ∷ 117 ∷ 109 ∷ 98 ∷ 101 ∷ 114 ∷ 32 ∷ 105 ∷ 115 ∷ 32 ∷ 110 ∷ 101 ∷ 105 ∷ 116 ∷ 104 ∷ 101 ∷ 114 ∷ 32 ∷ 110 ∷ 111 ∷ 100 ∷ 101 ∷ 32 ∷ 110 ∷ 111 ∷ 114 ∷ 32 ∷ 108 ∷ 101 ∷ 97 ∷ 102 ∷ []
-- ` a node is its own child`
phrase SelfChild = 32 ∷ 97 ∷ 32 ∷ 110 ∷ 111 ∷ 100 ∷ 101 ∷ 32 ∷ 105 ∷ 115 ∷ 32 ∷ 105 ∷ 116 ∷ 115 ∷ 32 ∷ 111 ∷ 119 ∷ 110 ∷ 32 ∷ 99 ∷ 104 ∷ 105 ∷ 108 ∷ 100 ∷ []
-- ` a node gets a second parent`
phrase SecondParent = 32 ∷ 97 ∷ 32 ∷ 110 ∷ 111 ∷ 100 ∷ 101 ∷ 32 ∷ 103 ∷ 101 ∷ 116 ∷ 115 ∷ 32 ∷ 97 ∷ 32 ∷ 115 ∷ 101 ∷ 99 ∷ 111 ∷ 110 ∷ 100 ∷ 32 ∷ 112 ∷ 97 ∷ 114 ∷ 101 ∷ 110 ∷ 116 ∷ []
-- ` a qubit has two entries`
phrase SecondEntry = 32 ∷ 97 ∷ 32 ∷ 113 ∷ 117 ∷ 98 ∷ 105 ∷ 116 ∷ 32 ∷ 104 ∷ 97 ∷ 115 ∷ 32 ∷ 116 ∷ 119 ∷ 111 ∷ 32 ∷ 101 ∷ 110 ∷ 116 ∷ 114 ∷ 105 ∷ 101 ∷ 115 ∷ []
-- ` not all nodes hang from one root`
phrase Roots = 32 ∷ 110 ∷ 111 ∷ 116 ∷ 32 ∷ 97 ∷ 108 ∷ 108 ∷ 32 ∷ 110 ∷ 111 ∷ 100 ∷ 101 ∷ 115 ∷ 32 ∷ 104 ∷ 97 ∷ 110 ∷ 103 ∷ 32 ∷ 102 ∷ 114 ∷ 111 ∷ 109 ∷ 32 ∷ 111 ∷ 110 ∷ 101 ∷ 32 ∷ 114 ∷ 111 ∷ 111 ∷ 116 ∷ []
-- ` leaf out of range, used twice or missing`
phrase Leaf = 32 ∷ 108 ∷ 101 ∷ 97 ∷ 102 ∷ 32 ∷ 111 ∷ 117 ∷ 116 ∷ 32 ∷ 111 ∷ 102 ∷ 32 ∷ 114 ∷ 97 ∷ 110 ∷ 103 ∷ 101 ∷ 44 ∷ 32 ∷ 117 ∷ 115 ∷ 101 ∷ 100 ∷ 32 ∷ 116 ∷ 119 ∷ 105 ∷ 99 ∷ 101 ∷ 32 ∷ 111 ∷ 114 ∷ 32 ∷ 109 ∷ 105 ∷ 115 ∷ 115 ∷ 105 ∷ 110 ∷ 103 ∷ []
-- ` two rows commute`
phrase (Commuting i j) = 32 ∷ 116 ∷ 119 ∷ 111 ∷ 32 ∷ 114 ∷ 111 ∷ 119 ∷ 115 ∷ 32 ∷ 99 ∷ 111 ∷ 109 ∷ 109 ∷ 117 ∷ 116 ∷ 101 ∷ []
-- ` the rows are dependent`
phrase Dependent = 32 ∷ 116 ∷ 104 ∷ 101 ∷ 32 ∷ 114 ∷ 111 ∷ 119 ∷ 115 ∷ 32 ∷ 97 ∷ 114 ∷ 101 ∷ 32 ∷ 100 ∷ 101 ∷ 112 ∷ 101 ∷ 110 ∷ 100 ∷ 101 ∷ 110 ∷ 116 ∷ []
-- ` no vacuum solves the rule`
phrase NoVacuum = 32 ∷ 110 ∷ 111 ∷ 32 ∷ 118 ∷ 97 ∷ 99 ∷ 117 ∷ 117 ∷ 109 ∷ 32 ∷ 115 ∷ 111 ∷ 108 ∷ 118 ∷ 101 ∷ 115 ∷ 32 ∷ 116 ∷ 104 ∷ 101 ∷ 32 ∷ 114 ∷ 117 ∷ 108 ∷ 101 ∷ []
-- ` the all-zero vacuum breaks the vacuum rule`
phrase Vacuum = 32 ∷ 116 ∷ 104 ∷ 101 ∷ 32 ∷ 97 ∷ 108 ∷ 108 ∷ 45 ∷ 122 ∷ 101 ∷ 114 ∷ 111 ∷ 32 ∷ 118 ∷ 97 ∷ 99 ∷ 117 ∷ 117 ∷ 109 ∷ 32 ∷ 98 ∷ 114 ∷ 101 ∷ 97 ∷ 107 ∷ 115 ∷ 32 ∷ 116 ∷ 104 ∷ 101 ∷ 32 ∷ 118 ∷ 97 ∷ 99 ∷ 117 ∷ 117 ∷ 109 ∷ 32 ∷ 114 ∷ 117 ∷ 108 ∷ 101 ∷ []
-- ` decoding does not end at the vacuum`
phrase Undecodable = 32 ∷ 100 ∷ 101 ∷ 99 ∷ 111 ∷ 100 ∷ 105 ∷ 110 ∷ 103 ∷ 32 ∷ 100 ∷ 111 ∷ 101 ∷ 115 ∷ 32 ∷ 110 ∷ 111 ∷ 116 ∷ 32 ∷ 101 ∷ 110 ∷ 100 ∷ 32 ∷ 97 ∷ 116 ∷ 32 ∷ 116 ∷ 104 ∷ 101 ∷ 32 ∷ 118 ∷ 97 ∷ 99 ∷ 117 ∷ 117 ∷ 109 ∷ []
-- ` encoding meets an unmet condition`
phrase Unencodable = 32 ∷ 101 ∷ 110 ∷ 99 ∷ 111 ∷ 100 ∷ 105 ∷ 110 ∷ 103 ∷ 32 ∷ 109 ∷ 101 ∷ 101 ∷ 116 ∷ 115 ∷ 32 ∷ 97 ∷ 110 ∷ 32 ∷ 117 ∷ 110 ∷ 109 ∷ 101 ∷ 116 ∷ 32 ∷ 99 ∷ 111 ∷ 110 ∷ 100 ∷ 105 ∷ 116 ∷ 105 ∷ 111 ∷ 110 ∷ []
-- ` not well formed: qubit, X, Y, Z with tabs`
phrase Malformed = 32 ∷ 110 ∷ 111 ∷ 116 ∷ 32 ∷ 119 ∷ 101 ∷ 108 ∷ 108 ∷ 32 ∷ 102 ∷ 111 ∷ 114 ∷ 109 ∷ 101 ∷ 100 ∷ 58 ∷ 32 ∷ 113 ∷ 117 ∷ 98 ∷ 105 ∷ 116 ∷ 44 ∷ 32 ∷ 88 ∷ 44 ∷ 32 ∷ 89 ∷ 44 ∷ 32 ∷ 90 ∷ 32 ∷ 119 ∷ 105 ∷ 116 ∷ 104 ∷ 32 ∷ 116 ∷ 97 ∷ 98 ∷ 115 ∷ []
-- ` a value is outside what is allowed`
phrase Value = 32 ∷ 97 ∷ 32 ∷ 118 ∷ 97 ∷ 108 ∷ 117 ∷ 101 ∷ 32 ∷ 105 ∷ 115 ∷ 32 ∷ 111 ∷ 117 ∷ 116 ∷ 115 ∷ 105 ∷ 100 ∷ 101 ∷ 32 ∷ 119 ∷ 104 ∷ 97 ∷ 116 ∷ 32 ∷ 105 ∷ 115 ∷ 32 ∷ 97 ∷ 108 ∷ 108 ∷ 111 ∷ 119 ∷ 101 ∷ 100 ∷ []
-- ` the number of modes is odd`
phrase OddModes = 32 ∷ 116 ∷ 104 ∷ 101 ∷ 32 ∷ 110 ∷ 117 ∷ 109 ∷ 98 ∷ 101 ∷ 114 ∷ 32 ∷ 111 ∷ 102 ∷ 32 ∷ 109 ∷ 111 ∷ 100 ∷ 101 ∷ 115 ∷ 32 ∷ 105 ∷ 115 ∷ 32 ∷ 111 ∷ 100 ∷ 100 ∷ []

-- ---- the sentence

-- a piece and the byte that ends it
abbrev pub piece : List ℕ → ℕ → List ℕ
piece f end = f ++ (end ∷ [])

-- a full stop if nothing follows, and else a comma
abbrev pub line_mark : Option Site → ℕ
line_mark None = 46
line_mark (Some site) = 44

abbrev pub spot_mark : Option Spot → ℕ
spot_mark None = 46
spot_mark (Some spot) = 44

-- `at line 3.`, or `at line 3, slot X.`, after a blank, and a line feed; the line feed alone if it is not known where
abbrev pub place : Option Site → List ℕ
place None = 10 ∷ []
place (Some site) = piece at_line 32 ++ (piece (digits_of site.line) (spot_mark site.spot) ++ piece (spot_words site.spot) 10)

-- `rowreport: refused 9: leaf out of range, used twice or missing, at line 3, slot X.`
unfoldable pub sentence : Refusal → Option Site → List ℕ
sentence why site = piece opening 32 ++ (piece (digits_of (paper why).number) 58 ++ (piece (phrase why) (line_mark site) ++ place site))

-- how many bytes are written, and the buffer at exit: the sentence at its front if it has at least 256 bytes, and else nothing
unfoldable pub explained_length : Refusal → Option Site → List ℕ → ℕ
explained_length why site out = cond (leb 256 (length out)) (length (sentence why site)) 0

unfoldable pub explained : Refusal → Option Site → List ℕ → List ℕ
explained why site out = cond (leb 256 (length out)) (sentence why site ++ drop (length (sentence why site)) out) out
