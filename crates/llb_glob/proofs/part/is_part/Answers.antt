use Rattle.std.proofs.Common.{ap, sym, ◌∙◌, is_ok}
use Rattle.llb_glob.specs.Class.{none_yet}
use Rattle.llb_glob.specs.ItemReading.{items_from, items_of, is_whole}
use Rattle.llb_glob.proofs.ItemsAndPartsSplitting.{is_more, is_stopped, cut_ends, is_ok-ended}
use Rattle.llb_glob.proofs.part.is_part.Goals as goal

pub loop-letter-init : goal.loop-letter-init
loop-letter-init c = ap (λ cursor. is_ok (items_from c.as_slice-letter-items.result.now cursor none_yet)) c.start-cursor.ensures

pub loop-letter-preserved : goal.loop-letter-preserved
loop-letter-preserved c =
    let letters = c.as_slice-letter-items.result.now in
    let says = sym c.cut.ensures ∙ c.in-Ok.is in
    is_more c.loop-letter.cursor letters c.loop-letter.letter-index c.letter-item.result c.loop-letter-test.true c.letter-item.is
    (c.in-Ok.next, c.in-Ok.field-0-1) says (is_ok (items_of letters)) c.loop-letter.invariant

pub returns-in_default : goal.returns-in_default
returns-in_default c =
    let letters = c.as_slice-letter-items.result.now in
    let says = sym c.cut.ensures ∙ c.in_default.is in
    is_stopped c.loop-letter.cursor letters c.loop-letter.letter-index c.letter-item.result c.loop-letter-test.true c.letter-item.is
    c.in_default.field-0 says (is_ok (items_of letters)) c.loop-letter.invariant
    ∙ ap (λ letters. is_ok (items_of letters)) (c.as_slice-letter-items.ensures.all ∙ c.of-letters.ensures)

pub returns : goal.returns
returns c =
    let letters = c.as_slice-letter-items.result.now in
    c.is_whole.ensures
    ∙ sym (is_ok-ended (is_whole c.loop-letter.cursor))
    ∙ ap is_ok (sym (cut_ends c.loop-letter.cursor none_yet letters c.loop-letter.letter-index c.loop-letter-test.false))
    ∙ c.loop-letter.invariant
    ∙ ap (λ letters. is_ok (items_of letters)) (c.as_slice-letter-items.ensures.all ∙ c.of-letters.ensures)
