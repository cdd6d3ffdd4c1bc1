use Rattle.std.proofs.Common.{inl, subst}
use Rattle.std.proofs.KnownBytes.{Keeps-refl}
use Rattle.std.proofs.lemmas.Result.{err_from_is_err_and}
use Rattle.llb_commands.specs.FindingLines.{PrintsFound}
use Rattle.llb_commands.proofs.FoundFaults.{lists}
use Rattle.llb_commands.proofs.RunOutput.{stream}
use Rattle.llb_commands.proofs.finding_lines.listed.Goals as goal

pub returns : goal.returns
returns g c =
    let output = stream (g.W.Write.contents c.args.out.now) (g.W.Write.contents c.print_findings.new.out) in
    lists (g.R.Read.remaining c.args.input.now) c.in_ok-found.found.items output c.print_findings.result c.in_ok-found.ensures
    (subst (λ found. PrintsFound found output c.print_findings.result) c.as_slice.ensures.value c.print_findings.ensures)

pub returns-in_err-found : goal.returns-in_err-found
returns-in_err-found g c =
    let p = err_from_is_err_and c.from_residual.result c.from_residual.ensures.1 in
    rw (p.1, p.2) (c.in_err-found.ensures, inl (Keeps-refl (g.W.Write.contents c.args.out.now)))
