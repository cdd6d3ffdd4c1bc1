use Rattle.std.proofs.Common.{◌≡◌, ◌+◌, Bool, Ok, ap, sym, ◌∙◌, drop, append-nil}
use Rattle.std.specs.Str.{chars}
use Rattle.std.proofs.lemmas.Result.{err_from_is_err_and}
use Rattle.llb_glob.specs.ItemReading.{behind, is_whole, ended, items_from, items_of}
use Rattle.llb_glob.specs.PartReading.{ahead}
use Rattle.llb_glob.proofs.ItemsAndPartsSplitting.{behind_none, at_drop, cut_ends}
use Rattle.llb_glob.proofs.part.Part.read.Goals as goal
use Rattle.llb_glob.proofs.part.Part.read.Goals.{After-loop-letter}

pub loop-letter-init : goal.loop-letter-init
loop-letter-init c =
    let letters = c.as_slice-letter-items.result.now in
    (λ i. behind (c.new.ensures.items i) (items_from letters (c.start.ensures i) (c.new-2.ensures i))) ∙ behind_none _

pub loop-letter-preserved : goal.loop-letter-preserved
loop-letter-preserved c =
    let letters = c.as_slice-letter-items.result.now in
    let here = at_drop letters c.loop-letter.letter-index c.letter-item.result c.loop-letter-test.true c.letter-item.is in
    sym (c.in_ok-take.ensures (drop (c.loop-letter.letter-index + 1) letters)) ∙ ap (ahead c.loop-letter.reading) (sym here) ∙ c.loop-letter.invariant

pub returns-in_err-take : goal.returns-in_err-take
returns-in_err-take c =
    let letters = c.as_slice-letter-items.result.now in
    let here = at_drop letters c.loop-letter.letter-index c.letter-item.result c.loop-letter-test.true c.letter-item.is in
    let p = err_from_is_err_and c.from_residual.result c.from_residual.ensures.1 in
    rw (p.1, p.2) (λ known.
    ap items_of (sym (c.as_slice-letter-items.ensures.all ∙ c.of-letters.ensures))
    ∙ sym c.loop-letter.invariant
    ∙ ap (ahead c.loop-letter.reading) here
    ∙ c.in_err-take.ensures (drop (c.loop-letter.letter-index + 1) letters) known)

-- what is read at the end of the part
at_end : (c : After-loop-letter) (whole : Bool) → is_whole c.loop-letter.reading.cursor ≡ whole
    → items_of (chars c.args.text.now) ≡ behind c.loop-letter.reading.items.items (ended whole)
at_end c whole is =
    let letters = c.as_slice-letter-items.result.now in
    let reading = c.loop-letter.reading in
    ap items_of (sym (c.as_slice-letter-items.ensures.all ∙ c.of-letters.ensures))
    ∙ sym c.loop-letter.invariant
    ∙ ap (behind reading.items.items) (cut_ends reading.cursor reading.class letters c.loop-letter.letter-index c.loop-letter-test.false ∙ ap ended is)

pub returns-then-not-is_whole : goal.returns-then-not-is_whole
returns-then-not-is_whole c = λ _. at_end (goal.at.returns-then-not-is_whole c).After-loop-letter _ (sym c.is_whole.ensures ∙ c.if-not-is_whole.true)

pub returns : goal.returns
returns c =
    at_end (goal.at.returns c).After-loop-letter _ (sym c.is_whole.ensures ∙ c.if-not-is_whole.false)
    ∙ ap Ok (append-nil c.loop-letter.reading.items.items)
