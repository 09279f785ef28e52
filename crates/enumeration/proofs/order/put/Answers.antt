-- `order::put` meets its contract: the elements so far are the block's.
use native.Mathlib.Numerals.{add-one}
use native.Mathlib.Omega.{arith}
use mathlib.Core.Path.{◌≡◌, refl, sym, ap, ◌∙◌}
use mathlib.Core.List.{List, [], ◌∷◌, ◌++◌}
use Prim.Native.Nat.{◌+◌}
use lib.ListN.{take}
use Rattle.std.proofs.Math.Seq.{take-suc}
use Rattle.std.proofs.lemmas.List.{take_all, take_more_set}
use Rattle.enumeration.proofs.order.put.Goals as goal

pub loop-j-init : goal.loop-j-init
loop-j-init g c = refl

pub loop-j-preserved : goal.loop-j-preserved
loop-j-preserved g c =
    let l = c.loop-j in
    let r = c.index-block-j.result in
    let b = c.args.block.now in
    let more : take (l.j + 1) b ≡ take l.j b ++ (r ∷ []) =
    rw add-one (take-suc b l.j r (omega arith) ∙ ap (λ x. take l.j b ++ (x ∷ [])) (sym c.index-block-j.is)) in
    take_more_set l.out l.j r (omega arith) ∙ ap (λ (t : List g.row.T.Denot). t ++ (r ∷ [])) l.invariant ∙ sym more

pub returns : goal.returns
returns g c =
    let l = c.loop-j in
    sym (take_all l.j l.out (omega arith)) ∙ l.invariant ∙ take_all l.j c.args.block.now (omega arith)
