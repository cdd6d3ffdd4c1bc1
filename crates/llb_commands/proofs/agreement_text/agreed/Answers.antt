use Rattle.std.proofs.Common.{inl, string_bytes, subst}
use Rattle.std.proofs.KnownBytes.{Keeps-refl}
use Rattle.std.proofs.lemmas.Result.{err_from_is_err_and}
use Rattle.llb_loader.specs.LoadResult.{IsGraphIn}
use Rattle.llb_commands.specs.AgreementText.{IsAgreementText}
use Rattle.llb_commands.specs.ProgramOutput.{IsRefused}
use Rattle.llb_commands.specs.WrittenPrefix.{PrintsOut}
use Rattle.llb_commands.proofs.RunOutput.{some_map, stream}
use Rattle.llb_commands.proofs.TextsInMemory.{writes_made}
use Rattle.llb_commands.proofs.agreement_text.agreed.Goals as goal

pub returns-in-Ok : goal.returns-in-Ok
returns-in-Ok g c =
    let left = g.R.Read.remaining c.args.input.now in
    let graph = c.in_ok-graph.graph in
    let text = string_bytes c.in-Ok.text in
    let Comes = IsAgreementText c.args.locals.now c.args.newer.now in
    writes_made Comes IsRefused left text (stream (g.W.Write.contents c.args.out.now) (g.W.Write.contents c.text_over.new.out)) c.text_over.result
    (some_map (λ bytes. IsGraphIn bytes graph) (λ bytes. Comes bytes text) left (λ bytes loaded. (graph, loaded, c.in-Ok.ensures)) c.in_ok-graph.ensures)
    (subst (λ t. PrintsOut (g.W.Write.contents c.args.out.now) (g.W.Write.contents c.text_over.new.out) t c.text_over.result) c.as_str.ensures.value
    c.text_over.ensures.written)
    c.text_over.ensures.no_refusal

pub returns-in_err-graph : goal.returns-in_err-graph
returns-in_err-graph g c =
    let p = err_from_is_err_and c.from_residual.result c.from_residual.ensures.1 in
    rw (p.1, p.2) (inl (Keeps-refl (g.W.Write.contents c.args.out.now), c.in_err-graph.ensures))
