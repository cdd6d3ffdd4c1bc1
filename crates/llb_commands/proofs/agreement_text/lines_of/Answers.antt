use Rattle.std.proofs.Common.{[], ◌++◌, length, refl, sym, ap, string_bytes, arith, ◌∙◌}
use Rattle.std.proofs.lemmas.Option.{slice_get_read}
use Rattle.std.proofs.lemmas.List.FromFn.{length-enumerate_from}
use Rattle.llb_commands.specs.AgreementText.{agreement_line, agreed_line}
use Rattle.llb_commands.proofs.TextsInMemory.{last_line, next_line, ok_of}
use Rattle.llb_commands.proofs.agreement_text.lines_of.Goals as goal

pub loop-number-preserved : goal.loop-number-preserved
loop-number-preserved c =
    let vertices = c.args.vertices.now in
    let at = c.loop-number.number in
    let vertex = c.index-vertices-number.result in
    let line = string_bytes c.loop-number.text in
    let marked = ap (λ b. ok_of (line ++ agreement_line at vertex b)) (sym c.is_marked.ensures) ∙ c.in_ok-push_line.ensures in
    next_line (agreed_line c.args.marks.now) vertices at vertex [] line (string_bytes c.push_line.new.text)
    (slice_get_read vertices (length vertices) at vertex refl c.loop-number-test.true c.index-vertices-number.is)
    c.loop-number.invariant marked

pub returns : goal.returns
returns c =
    let vertices = c.args.vertices.now in
    ap ok_of (sym (c.loop-number.invariant ∙ last_line (agreed_line c.args.marks.now) vertices c.loop-number.number
    (omega (arith, length-enumerate_from 0 vertices, c.loop-number-test.false))))
