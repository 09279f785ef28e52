-- `Rows::is_paired` meets its contract: the X parts word by word, and then the difference.
use Prim.Native.Nat.{ℕ, ◌%◌}
use mathlib.Core.Path.{sym, ap, ap₂, ◌∙◌}
use mathlib.Core.Bool.{Bool, ◌&&◌}
use lib.Dec.{eqb}
use Rattle.algebra.specs.Modes.{d}
use Rattle.dense_block.specs.Words.{alike}
use Rattle.majorana.specs.HeldRows.{modes_of}
use Rattle.majorana.proofs.ModeLaws.{paired_is}
use Rattle.majorana.proofs.rows.Rows.is_paired.Goals as goal

pub returns-then-same : goal.returns-then-same
returns-then-same c =
    let r = c.args.self.now in
    let even = eqb (d (modes_of r) c.args.i % 2) 0 in
    let same = sym (ap₂ alike c.row.ensures.x c.row-2.ensures.x) ∙ sym c.same.ensures ∙ c.if-same.true in
    ap (λ (k : ℕ). eqb (k % 2) 0) c.difference.ensures ∙ sym (ap (λ (b : Bool). b && even) same) ∙ paired_is r.held c.args.i c.requires

pub returns-else-same : goal.returns-else-same
returns-else-same c =
    let r = c.args.self.now in
    let even = eqb (d (modes_of r) c.args.i % 2) 0 in
    let same = sym (ap₂ alike c.row.ensures.x c.row-2.ensures.x) ∙ sym c.same.ensures ∙ c.if-same.false in
    c.if-same.false ∙ sym (ap (λ (b : Bool). b && even) same) ∙ paired_is r.held c.args.i c.requires
