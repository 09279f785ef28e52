-- `enter` meets its contract: the table holds the entries before i, and none of them has the qubit of an earlier one.
use Rattle.std.proofs.Common.{◌≡◌, ◌<◌, sym, ap, ◌∙◌, arith, below_more}
use lib.ListN.{length-set}
use Rattle.tree_sizes.specs.Sizes.{qubit_at}
use Rattle.ternarytree.specs.Building.{placed}
use Rattle.ternarytree.proofs.EntrySteps.{no_entry_lem, entry_mark, no_earlier, twice_at, twice_none}
use Rattle.ternarytree.proofs.reading.enter.Goals as goal

pub loop-i-init : goal.loop-i-init
loop-i-init c = (omega arith, λ j h. ap placed (c.requires j h) ∙ sym (no_entry_lem _ j), λ j h. absurd (omega arith))

pub returns-then-is_some-clause-twice : goal.returns-then-is_some-clause-twice
returns-then-is_some-clause-twice c =
    let l = c.loop-i in
    let q = c.qubit-q.ensures in
    sym (twice_at (qubit_at c.args.e.numbers.now) c.args.e.n l.i l.table (omega arith) l.invariant.1 (omega (arith, q)) (rw q.0 at (sym c.is_some.ensures ∙ c.if-is_some.true)))

pub loop-i-preserved : goal.loop-i-preserved
loop-i-preserved c =
    let qubit = qubit_at c.args.e.numbers.now in
    let l = c.loop-i in
    let q = c.qubit-q.ensures in
    let low : qubit l.i < 256 = omega (arith, q) in
    let free = rw q.0 at (sym c.is_some.ensures ∙ c.if-is_some.false) in (
      simp length-set l.invariant.0,
      rw q.0 (entry_mark qubit l.i l.table l.invariant.1 low l.invariant.0 free),
      below_more _ l.i l.invariant.2 (no_earlier qubit l.i l.table l.invariant.1 low free),
    )

pub returns-clause-twice : goal.returns-clause-twice
returns-clause-twice c =
    let e : c.loop-i.i ≡ c.args.e.n = omega arith in
    sym (twice_none (qubit_at c.args.e.numbers.now) _ (rw e at c.loop-i.invariant.2))
