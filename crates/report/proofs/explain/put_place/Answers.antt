-- `report::explain::put_place` meets its contract: the words, the line, and then the slot.
use native.Mathlib.Omega.{arith}
use Rattle.report.proofs.Sentences.{number_fits, spot_fits, place_stored, place_short, place_is}
use Rattle.report.proofs.explain.put_place.Goals as goal

pub put_number-b-requires : goal.put_number-b-requires
put_number-b-requires c =
    let a = c.args in
    number_fits a.out.now a.at c.in-Some.site c.put_word-a.ensures (omega arith) (omega arith)

pub put_spot-requires : goal.put_spot-requires
put_spot-requires c =
    let a = c.args in
    spot_fits a.out.now a.at c.in-Some.site c.put_word-a.ensures c.spot_mark.ensures c.put_number-b.ensures (omega arith) (omega arith)

pub returns : goal.returns
returns c =
    let a = c.args in
    let p = c.put_spot.ensures in
    let s = place_stored a.out.now a.at c.in-Some.site c.put_word-a.ensures c.spot_mark.ensures c.put_number-b.ensures (record { place = p.spot; bytes = p.bytes }) in
    place_is a.out.now a.at c.in-Some.is s (place_short c.in-Some.site (omega arith))
