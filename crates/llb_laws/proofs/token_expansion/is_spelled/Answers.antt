use Rattle.std.proofs.Common.{◌+◌, List, ℕ, drop, length, Some, subst, sym, eq-eqb}
use Rattle.std.proofs.lemmas.Bool.{eqb-true}
use Rattle.llb_loader.proofs.OutputNumbers.{false_when}
use Rattle.llb_laws.specs.TokenLists.{IsSpelled, ReadsOn}
use Rattle.llb_laws.proofs.TokenReading.{all_read, next_byte}
use Rattle.llb_laws.proofs.token_expansion.is_spelled.Goals as goal

pub returns-in-None : goal.returns-in-None
returns-in-None c =
    let text = c.args.text.now in
    let i = c.loop-byte.byte-index in
    false_when (λ is.
    (c.in-None.ensures.same (drop (i + 1) text)).0
    (subst (λ bytes. ReadsOn c.args.contents.now c.args.content.now bytes (Some c.loop-byte.at)) (next_byte text i c.loop-byte-test.true)
    (c.loop-byte.invariant.same.0 is)))

pub loop-byte-preserved : goal.loop-byte-preserved
loop-byte-preserved c =
    let text = c.args.text.now in
    let i = c.loop-byte.byte-index in
    let next = next_byte text i c.loop-byte-test.true in
    let here = c.in-Some.ensures.same (drop (i + 1) text) in
    let reads = λ (bytes : List ℕ). ReadsOn c.args.contents.now c.args.content.now bytes (Some c.loop-byte.at) in
    record {
      reading = c.in-Some.ensures.reading;
      same = (λ is. here.0 (subst reads next (c.loop-byte.invariant.same.0 is)), λ e. c.loop-byte.invariant.same.1 (subst reads (sym next) (here.1 e)));
    }

pub returns-then-at-eq0 : goal.returns-then-at-eq0
returns-then-at-eq0 c =
    let at = c.loop-byte.at in
    let content = c.args.content.now in
    let e = all_read c.args.contents.now (IsSpelled c.args.contents.now c.args.text.now content) c.args.text.now content c.loop-byte.byte-index at.left
    at.number at.place c.loop-byte-test.false c.loop-byte.invariant.reading.place c.loop-byte.invariant.same in
    (λ h. e.1 (c.if-at-eq0.true, eqb-true at.place (length content) h), λ is. eq-eqb at.place (length content) (e.0 is).1)

pub returns-else-at-eq0 : goal.returns-else-at-eq0
returns-else-at-eq0 c =
    let at = c.loop-byte.at in
    let content = c.args.content.now in
    let e = all_read c.args.contents.now (IsSpelled c.args.contents.now c.args.text.now content) c.args.text.now content c.loop-byte.byte-index at.left
    at.number at.place c.loop-byte-test.false c.loop-byte.invariant.reading.place c.loop-byte.invariant.same in
    (λ h. absurd (c.if-at-eq0.false (eqb-true at.left 0 h)), λ is. absurd (c.if-at-eq0.false (e.0 is).0))
