use Rattle.std.proofs.Common.{[], length, refl, sym, ap, string_bytes, arith, ◌∙◌}
use Rattle.std.proofs.lemmas.Option.{slice_get_read}
use Rattle.std.proofs.lemmas.List.FromFn.{length-enumerate_from}
use Rattle.llb_commands.specs.MatchText.{matched_line}
use Rattle.llb_commands.proofs.TextsInMemory.{last_line, next_line, ok_of}
use Rattle.llb_commands.proofs.match_text.lines_of.Goals as goal

pub loop-number-preserved : goal.loop-number-preserved
loop-number-preserved c =
    let vertices = c.args.vertices.now in
    let at = c.loop-number.number in
    let vertex = c.index-vertices-number.result in
    next_line (matched_line c.args.olds.now c.args.partners.now) vertices at vertex [] (string_bytes c.loop-number.text) (string_bytes c.push_line.new.text)
    (slice_get_read vertices (length vertices) at vertex refl c.loop-number-test.true c.index-vertices-number.is)
    c.loop-number.invariant c.in_ok-push_line.ensures

pub returns : goal.returns
returns c =
    let vertices = c.args.vertices.now in
    ap ok_of (sym (c.loop-number.invariant ∙ last_line (matched_line c.args.olds.now c.args.partners.now) vertices c.loop-number.number
    (omega (arith, length-enumerate_from 0 vertices, c.loop-number-test.false))))
