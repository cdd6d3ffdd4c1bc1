use Rattle.std.proofs.Common.{◌∙◌, ap}
use Rattle.std.proofs.lemmas.Result.{MatchResult-weaker}
use Rattle.llb_loader.specs.LoadResult.{rows_from}
use Rattle.llb_findings.proofs.FindingsInBytes.{alone_found, alone_begins, rows_found, rows_begin}
use Rattle.llb_findings.proofs.finding.findings.Goals as goal

pub returns-in-Err-clause-found : goal.returns-in-Err-clause-found
returns-in-Err-clause-found c = MatchResult-weaker c.unreadable.result c.unreadable.ensures
    (λ found h. alone_found c.args.bytes.now c.in-Err.fault found.items h.0 (c.in-Err.ensures.gives h.0) h.1) (λ e t. t)

pub returns-in-Err-clause-begins : goal.returns-in-Err-clause-begins
returns-in-Err-clause-begins c = MatchResult-weaker c.unreadable.result c.unreadable.ensures
    (λ found h. alone_begins c.args.bytes.now c.in-Err.fault found.items h.0 (c.in-Err.ensures.gives h.0) h.1) (λ e t. t)

pub returns-clause-found : goal.returns-clause-found
returns-clause-found c =
    let same = c.as_slice-2.ensures.value ∙ c.in_ok-rows.ensures ∙ ap rows_from c.as_slice.ensures in
    MatchResult-weaker c.findings_of.result c.findings_of.ensures.found
    (λ found are. rows_found c.args.bytes.now c.in-Ok.entries c.as_slice-2.result.now found.items c.in-Ok.ensures.gives same are) (λ e t. t)

pub returns-clause-begins : goal.returns-clause-begins
returns-clause-begins c =
    let same = c.as_slice-2.ensures.value ∙ c.in_ok-rows.ensures ∙ ap rows_from c.as_slice.ensures in
    MatchResult-weaker c.findings_of.result c.findings_of.ensures.begins
    (λ found are. rows_begin c.args.bytes.now c.in-Ok.entries c.as_slice-2.result.now found.items c.in-Ok.ensures.gives same are) (λ e t. t)
