use Rattle.std.proofs.Common.{sym, ◌∙◌}
use Rattle.llb_findings.proofs.LinkedFindings.{cycle_unasked}
use Rattle.llb_findings.proofs.finding.add_cycle.Goals as goal

pub returns-in_default : goal.returns-in_default
returns-in_default c = cycle_unasked c.args.rows.now c.args.terminal c.requires.terminal c.args.start _ c.requires.start c.in_default.is

pub add_cycle_from-requires-clause-start : goal.add_cycle_from-requires-clause-start
add_cycle_from-requires-clause-start c = sym c.requires.start ∙ c.in-Some.is
