-- `report::write::whole` meets its contract: the header, the rows and the vacuum, one after the other.
use native.Mathlib.Omega.{arith}
use mathlib.Core.Path.{◌≡◌, sym, ◌∙◌}
use mathlib.Core.Bool.{true}
use lib.ListN.{length}
use Rattle.dense_block.specs.Words.{value}
use Rattle.report.specs.Report.{roomy, row_in}
use Rattle.report.proofs.Wholes.{roomy_is, not_roomy, rows_fit, vacuum_fits, whole_stored}
use Rattle.report.proofs.write.whole.Goals as goal

pub returns-then-not-is_roomy : goal.returns-then-not-is_roomy
returns-then-not-is_roomy c =
    let a = c.args in
    not_roomy a.rows.modes a.rows.qubits (row_in a.rows.qubits a.rows.x.now a.rows.z.now a.rows.phases.now) (value a.v.now) a.out.now (sym c.is_roomy.ensures ∙ c.if-not-is_roomy.true)

pub overflow_mul-rows : goal.overflow_mul-rows
overflow_mul-rows c =
    let roomed : roomy c.args.rows.modes c.args.rows.qubits (length c.args.out.now) ≡ true = sym c.is_roomy.ensures ∙ c.if-not-is_roomy.false in
    let r = roomy_is c.args.rows.modes c.args.rows.qubits (length c.args.out.now) roomed in
    record { fits = omega (arith, r.modes) }

pub put_rows-b-requires : goal.put_rows-b-requires
put_rows-b-requires c =
    let roomed : roomy c.args.rows.modes c.args.rows.qubits (length c.args.out.now) ≡ true = sym c.is_roomy.ensures ∙ c.if-not-is_roomy.false in
    let a = c.args in
    rows_fit a.out.now a.rows.modes a.rows.qubits roomed c.header-a.ensures

pub put_vacuum-requires : goal.put_vacuum-requires
put_vacuum-requires c =
    let roomed : roomy c.args.rows.modes c.args.rows.qubits (length c.args.out.now) ≡ true = sym c.is_roomy.ensures ∙ c.if-not-is_roomy.false in
    let a = c.args in
    let t = c.put_rows-b.ensures in
    vacuum_fits a.out.now a.rows.modes a.rows.qubits roomed c.header-a.ensures (row_in a.rows.qubits a.rows.x.now a.rows.z.now a.rows.phases.now) (value a.v.now) t.room (record { place = t.place; bytes = t.bytes })

pub returns : goal.returns
returns c =
    let roomed : roomy c.args.rows.modes c.args.rows.qubits (length c.args.out.now) ≡ true = sym c.is_roomy.ensures ∙ c.if-not-is_roomy.false in
    let a = c.args in
    let t = c.put_rows-b.ensures in
    whole_stored a.out.now a.rows.modes a.rows.qubits roomed c.header-a.ensures (row_in a.rows.qubits a.rows.x.now a.rows.z.now a.rows.phases.now) (value a.v.now) t.room (record { place = t.place; bytes = t.bytes }) c.put_vacuum.ensures
