use Rattle.std.proofs.Common.{sym, arith, ◌∙◌}
use Rattle.llb_loader.specs.RowLookup.{terminal_in}
use Rattle.llb_findings.specs.Findings.{ops_in}
use Rattle.llb_findings.proofs.OpsAndRules.{ops_len}
use Rattle.llb_loader.proofs.RefusalsOfRows.{graph_len, graph_below}
use Rattle.llb_loader.proofs.PlanRefusals.{started_below}
use Rattle.llb_findings.specs.Findings.{plan_for}
use Rattle.llb_findings.proofs.LinkedFindings.{started, none_seen, all_seen}
use Rattle.llb_findings.proofs.finding.seen_from.Goals as goal

pub reached-requires-clause-rows : goal.reached-requires-clause-rows
reached-requires-clause-rows c = graph_below c.args.rows.now (ops_in c.args.rows.now) (terminal_in c.args.rows.now) c.args.links.now c.requires.links _
    (sym (graph_len c.args.rows.now (ops_in c.args.rows.now) (terminal_in c.args.rows.now) c.args.links.now (ops_len c.args.rows.now) c.requires.links))

pub reached-requires-clause-start : goal.reached-requires-clause-start
reached-requires-clause-start c =
    let n = graph_len c.args.rows.now (ops_in c.args.rows.now) (terminal_in c.args.rows.now) c.args.links.now (ops_len c.args.rows.now) c.requires.links in
    let s = started c.args.rows.now c.args.terminal c.requires.terminal c.in-Some.start (sym c.requires.start ∙ c.in-Some.is) in
    let b = started_below (plan_for c.args.rows.now) s.0 in
    let e = s.1 in
    omega (arith, n, b, e)

pub returns-in_default : goal.returns-in_default
returns-in_default c = none_seen c.args.rows.now c.args.terminal c.requires.terminal c.args.start _ c.requires.start c.in_default.is
    (c.in_ok-none.ensures.items_if_clones_equal (λ y e. e))

pub returns : goal.returns
returns c = all_seen c.args.rows.now c.args.terminal c.requires.terminal c.args.start c.in-Some.start c.args.links.now _ c.requires.start c.in-Some.is
    c.requires.links c.in_ok-seen.ensures.len c.in_ok-seen.ensures.exact
