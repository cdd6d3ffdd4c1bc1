use Rattle.std.proofs.Common.{List, sym, ◌∙◌, subst}
use Rattle.std.proofs.lemmas.Result.{MatchResult-weaker}
use Rattle.llb_loader.specs.declared.fault.LoadFault.{LoadFault}
use Rattle.llb_findings.specs.Findings.{AreFindings, BeginsAsLink}
use Rattle.llb_findings.proofs.FindingsAgree.{none_found, none_begins, some_found, some_begins}
use Rattle.llb_findings.proofs.finding.findings_of.Goals as goal

pub returns-in-Ok-clause-found : goal.returns-in-Ok-clause-found
returns-in-Ok-clause-found c = subst (λ (xs : List LoadFault). AreFindings c.args.rows.now xs) (sym c.new.ensures.items)
    (none_found c.args.rows.now c.in-Ok.graph c.in-Ok.ensures.graph)

pub returns-in-Ok-clause-begins : goal.returns-in-Ok-clause-begins
returns-in-Ok-clause-begins c = subst (λ (xs : List LoadFault). BeginsAsLink c.args.rows.now xs) (sym c.new.ensures.items)
    (none_begins c.args.rows.now c.in-Ok.graph c.in-Ok.ensures.graph)

pub returns-clause-found : goal.returns-clause-found
returns-clause-found c = MatchResult-weaker c.every_fault.result c.every_fault.ensures (λ found those. some_found c.args.rows.now found.items those) (λ e t. t)

pub returns-clause-begins : goal.returns-clause-begins
returns-clause-begins c = MatchResult-weaker c.every_fault.result c.every_fault.ensures
    (λ found those. some_begins c.args.rows.now c.in-Err.fault found.items (c.in-Err.ensures.refused (sym c.is_memory.ensures ∙ c.if-is_memory.false))
    (some_found c.args.rows.now found.items those)) (λ e t. t)
