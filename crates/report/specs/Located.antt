-- Where in a text a refusal was found: the line that is no entry, or the slot for which its entries are refused.
use Rattle.std.specs.Prelude.{ℕ, zero, suc, ◌+◌, ◌/◌, ◌%◌, min, ◌≡◌, List, Option, Some, None}
use Rattle.refusal.specs.Search.{Least, found, none}
use Rattle.refusal.specs.Table.{if_zero}
use Rattle.trees.specs.Trees.{fault, FirstAtFault}
use Rattle.report.specs.declared.explain.Spot.{Spot}
use Rattle.report.specs.declared.explain.Spot.TheVariants.{X, Y, Z}
use Rattle.report.specs.declared.locate.Site.{Site}
use Rattle.flatpack_text.specs.Text.{Entry, Parsed, well_formed, malformed}
use Rattle.flatpack_text.specs.Machine.{Told, most}
use Rattle.report.specs.Output.{tree, verdict}

-- the line that is no entry, if the text is not well formed
abbrev pub told_line : Told → Option ℕ
told_line t = if_zero t.number None (Some t.line)

-- the slot of a line: 0 is X, 1 is Y, 2 is Z
abbrev pub spot_of : ℕ → Spot
spot_of zero = X
spot_of (suc zero) = Y
spot_of (suc (suc l)) = Z

-- slot k is one of entry k / 3, and entries stand one on a line, from line 1
abbrev pub located_at : Least → Option Site
located_at (found k) = Some (record { line = k / 3 + 1; spot = Some (spot_of (k % 3)) })
located_at none = None

-- the entries are refused for slot k: it is the first that has a fault, and its fault is the number refused
pub record RefusedFor (es : List Entry) (k : ℕ) : Type 0 where
  pub first : FirstAtFault (tree es) k
  pub number : fault (tree es) k ≡ (verdict es).number

-- the site of a text: the line that is no entry, counted as far as counts go; the slot for which its entries are refused; None if they are refused for no slot
pub data SiteOf : Parsed → Option Site → Type 0 where
  bad_line : {k : ℕ} → SiteOf (malformed k) (Some (record { line = min k most; spot = None }))
  bad_slot : {es : List Entry} {k : ℕ} → RefusedFor es k → SiteOf (well_formed es) (located_at (found k))
  no_slot : {es : List Entry} → ((k : ℕ) → RefusedFor es k → ⊥) → SiteOf (well_formed es) (located_at none)
