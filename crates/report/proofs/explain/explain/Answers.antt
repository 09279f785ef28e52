-- `report::explain::explain` meets its contract: the opening, the number, what it means, and then the place.
use native.Mathlib.Omega.{arith}
use Rattle.report.proofs.Sentences.{not_explained, code_fits, phrase_fits, place_fits, sentence_stored}
use Rattle.report.proofs.explain.explain.Goals as goal

pub returns-then-out-lt256 : goal.returns-then-out-lt256
returns-then-out-lt256 c =
    let a = c.args in
    not_explained a.why a.site a.out.now c.if-out-lt256.true

pub put_number-b-requires : goal.put_number-b-requires
put_number-b-requires c =
    let a = c.args in
    code_fits a.out.now a.why a.site (omega arith) c.put_word-a.ensures c.number.result (omega arith)

pub put_phrase-c-requires : goal.put_phrase-c-requires
put_phrase-c-requires c =
    let a = c.args in
    phrase_fits a.out.now a.why a.site (omega arith) c.put_word-a.ensures (omega arith) c.number.ensures c.put_number-b.ensures

pub put_place-requires : goal.put_place-requires
put_place-requires c =
    let a = c.args in
    place_fits a.out.now a.why a.site (omega arith) c.put_word-a.ensures (omega arith)
    c.number.ensures c.put_number-b.ensures c.line_mark.ensures c.put_phrase-c.ensures

pub returns : goal.returns
returns c =
    let a = c.args in
    let p = c.put_place.ensures in
    sentence_stored a.out.now a.why a.site (omega arith) c.put_word-a.ensures (omega arith)
    c.number.ensures c.put_number-b.ensures c.line_mark.ensures c.put_phrase-c.ensures
    (record { place = p.spot; bytes = p.bytes }) p.short
