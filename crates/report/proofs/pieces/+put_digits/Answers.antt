-- `report::pieces::put_digits` meets its contract: the digits of the tenth, and then the last one.
use Prim.Native.Nat.{ℕ, ◌+◌, ◌/◌, ◌%◌}
use native.Mathlib.Omega.{arith}
use mathlib.Core.Path.{refl, sym, ap, ◌∙◌}
use mathlib.Core.List.{List, [], ◌∷◌}
use lib.ListN.{length}
use lib.Seq.{sets, length-sets}
use Rattle.report.specs.Report.{digits_of}
use Rattle.report.proofs.Digits.{digits_small, digits_large, length_large}
use Rattle.report.proofs.Stores.{join}
use Rattle.report.proofs.LineLaws.{stored_same}
use Rattle.report.proofs.pieces.+put_digits.Goals as goal

pub returns-then-n-lt10 : goal.returns-then-n-lt10
returns-then-n-lt10 t c =
    let a = c.args in
    let e = sym (digits_small a.n c.if-n-lt10.true) in
    record { place = ap (λ (l : List ℕ). a.at + length l) e; bytes = ap (sets a.out.now a.at) e }

pub put_digits-e-requires : goal.put_digits-e-requires
put_digits-e-requires t c =
    let l = length_large c.args.n c.if-n-lt10.false in
    (omega arith, omega arith)

pub bounds-out-e : goal.bounds-out-e
bounds-out-e t c =
    let p = c.put_digits-e.ensures in
    let l = length_large c.args.n c.if-n-lt10.false in
    omega (arith, p.place, ap length p.bytes ∙ length-sets c.args.out.now c.args.at (digits_of (c.args.n / 10)))

pub overflow_add-result-2 : goal.overflow_add-result-2
overflow_add-result-2 t c =
    let l = length_large c.args.n c.if-n-lt10.false in
    record { fits = omega (arith, c.put_digits-e.ensures.place) }

pub returns : goal.returns
returns t c =
    let p = c.put_digits-e.ensures in
    let a = c.args in
    stored_same a.out.now a.at _ _ (sym (digits_large a.n c.if-n-lt10.false))
    (join a.out.now a.at (digits_of (a.n / 10)) ((48 + a.n % 10) ∷ []) p.place p.bytes refl refl)
