use Rattle.std.proofs.Common.{sym, arith}
use Rattle.llb_loader.specs.RowLookup.{terminal_in}
use Rattle.llb_findings.specs.Findings.{ops_in}
use Rattle.llb_findings.proofs.OpsAndRules.{ops_len}
use Rattle.llb_loader.proofs.RefusalsOfRows.{graph_len, graph_below}
use Rattle.llb_findings.proofs.LinkedFindings.{seen_exact, cycle_found, cycle_not}
use Rattle.llb_findings.proofs.finding.add_cycle_from.Goals as goal

pub number-requires-clause-rows : goal.number-requires-clause-rows
number-requires-clause-rows c = graph_below c.args.rows.now (ops_in c.args.rows.now) (terminal_in c.args.rows.now) c.args.links.now c.requires.links _
    (sym (graph_len c.args.rows.now (ops_in c.args.rows.now) (terminal_in c.args.rows.now) c.args.links.now (ops_len c.args.rows.now) c.requires.links))

pub number-requires-clause-len : goal.number-requires-clause-len
number-requires-clause-len c =
    let n = graph_len c.args.rows.now (ops_in c.args.rows.now) (terminal_in c.args.rows.now) c.args.links.now (ops_len c.args.rows.now) c.requires.links in
    let s = c.requires.seen.len in
    omega (arith, n, s)

pub number-requires-clause-exact : goal.number-requires-clause-exact
number-requires-clause-exact c = seen_exact c.args.rows.now c.args.terminal c.requires.terminal c.args.start c.args.links.now c.args.seen.now c.requires.start
    c.requires.links c.requires.seen

pub returns-in_default : goal.returns-in_default
returns-in_default c = cycle_found c.args.rows.now c.args.terminal c.requires.terminal c.args.start c.args.links.now _ _ _ c.requires.start c.requires.links
    c.in_default.is c.in_ok-order.ensures.cycle c.in_ok-push.ensures.items

pub returns : goal.returns
returns c = cycle_not c.args.rows.now c.args.terminal c.requires.terminal c.args.start c.args.links.now _ c.in-Some.order _ c.requires.start c.requires.links
    c.in-Some.is c.in_ok-order.ensures.numbering
