-- `put_row` meets its contract: the row is added to parts that are cleared.
use Rattle.std.proofs.Common.{◌∙◌}
use Rattle.ternarytree.proofs.Flips.{words_are}
use Rattle.ternarytree.proofs.writing.put_row.Goals as goal

pub add_row-requires : goal.add_row-requires
add_row-requires c = (c.requires.0, λ i h. rw c.fill.auto.self (c.requires.1 i h), λ i h. rw c.fill-2.auto.self (c.requires.2 i h))

pub returns : goal.returns
returns c =
    let y = c.add_row in
    λ t p q.
    let w = y.ensures t p q in
    record {
      phase = w.phase;
      x_part = words_are _ _ c.args.x.now _ (c.fill.ensures.after (λ v h. h)) (y.auto.x ∙ c.fill.auto.self) (λ i. (c.type_inv.x i).fits) w.x_part;
      z_part = words_are _ _ c.args.z.now _ (c.fill-2.ensures.after (λ v h. h)) (y.auto.z ∙ c.fill-2.auto.self) (λ i. (c.type_inv.z i).fits) w.z_part;
    }
