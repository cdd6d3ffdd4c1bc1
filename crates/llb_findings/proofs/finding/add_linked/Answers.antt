use Rattle.std.proofs.Common.{List, length, ap, arith}
use Rattle.llb_ops.specs.declared.op.Op.{Op}
use Rattle.llb_findings.specs.FindingSteps.{HasTerminal}
use Rattle.llb_findings.proofs.OpsAndRules.{ops_len}
use Rattle.llb_findings.proofs.LinkedFindings.{result_row, terminal_op, links_here, start_here, linked_parts}
use Rattle.llb_findings.proofs.finding.add_linked.Goals as goal

pub bounds-ops-terminal : goal.bounds-ops-terminal
bounds-ops-terminal c = let n = ops_len c.args.rows.now in let m = ap (λ (os : List Op). length os) c.requires.ops in
    let t = c.terminal_of-terminal.ensures.terminal.holds.0 in omega (arith, n, m, t)

pub bounds-ops-terminal-2 : goal.bounds-ops-terminal-2
bounds-ops-terminal-2 c = let n = ops_len c.args.rows.now in let m = ap (λ (os : List Op). length os) c.requires.ops in
    let t = c.terminal_of-terminal.ensures.terminal.holds.0 in omega (arith, n, m, t)

pub seen_from-requires-clause-terminal : goal.seen_from-requires-clause-terminal
seen_from-requires-clause-terminal c = record {
  apart = c.requires.apart;
  last = c.terminal_of-terminal.ensures.terminal;
  same = c.terminal_of-terminal.ensures.found;
}

pub add_unknown-requires-clause-terminal : goal.add_unknown-requires-clause-terminal
add_unknown-requires-clause-terminal c = record {
  apart = c.requires.apart;
  last = c.terminal_of-terminal.ensures.terminal;
  same = c.terminal_of-terminal.ensures.found;
}

pub add_cycle-requires-clause-terminal : goal.add_cycle-requires-clause-terminal
add_cycle-requires-clause-terminal c = record {
  apart = c.requires.apart;
  last = c.terminal_of-terminal.ensures.terminal;
  same = c.terminal_of-terminal.ensures.found;
}

pub add_indexes-requires-clause-terminal : goal.add_indexes-requires-clause-terminal
add_indexes-requires-clause-terminal c = record {
  apart = c.requires.apart;
  last = c.terminal_of-terminal.ensures.terminal;
  same = c.terminal_of-terminal.ensures.found;
}

pub seen_from-requires-clause-links : goal.seen_from-requires-clause-links
seen_from-requires-clause-links c = links_here c.args.rows.now c.terminal_of-terminal.result c.args.ops.now c.deref.result.now c.in_ok-links.links.items
    c.deref.ensures.value c.in_ok-links.ensures c.requires.ops c.terminal_of-terminal.ensures.found

pub seen_from-requires-clause-start : goal.seen_from-requires-clause-start
seen_from-requires-clause-start c =
    let n = ops_len c.args.rows.now in let m = ap (λ (os : List Op). length os) c.requires.ops in
    let t = c.terminal_of-terminal.ensures.terminal.holds.0 in
    start_here c.args.rows.now c.terminal_of-terminal.result c.index-ops-terminal-2.result c.start_of-start.result c.start_of-start.ensures
    c.terminal_of-terminal.ensures.found
    (terminal_op c.args.rows.now c.terminal_of-terminal.result c.args.ops.now c.index-ops-terminal-2.result (omega (arith, n, m, t))
    c.index-ops-terminal-2.is c.requires.ops c.terminal_of-terminal.ensures.found)

pub add_cycle-requires-clause-links : goal.add_cycle-requires-clause-links
add_cycle-requires-clause-links c = links_here c.args.rows.now c.terminal_of-terminal.result c.args.ops.now c.deref-3.result.now c.in_ok-links.links.items
    c.deref-3.ensures.value c.in_ok-links.ensures c.requires.ops c.terminal_of-terminal.ensures.found

pub add_cycle-requires-clause-start : goal.add_cycle-requires-clause-start
add_cycle-requires-clause-start c =
    let n = ops_len c.args.rows.now in let m = ap (λ (os : List Op). length os) c.requires.ops in
    let t = c.terminal_of-terminal.ensures.terminal.holds.0 in
    start_here c.args.rows.now c.terminal_of-terminal.result c.index-ops-terminal-2.result c.start_of-start.result c.start_of-start.ensures
    c.terminal_of-terminal.ensures.found
    (terminal_op c.args.rows.now c.terminal_of-terminal.result c.args.ops.now c.index-ops-terminal-2.result (omega (arith, n, m, t))
    c.index-ops-terminal-2.is c.requires.ops c.terminal_of-terminal.ensures.found)

pub returns : goal.returns
returns c =
    let n = ops_len c.args.rows.now in let m = ap (λ (os : List Op). length os) c.requires.ops in
    let t = c.terminal_of-terminal.ensures.terminal.holds.0 in
    let op = terminal_op c.args.rows.now c.terminal_of-terminal.result c.args.ops.now c.index-ops-terminal.result (omega (arith, n, m, t))
    c.index-ops-terminal.is c.requires.ops c.terminal_of-terminal.ensures.found in
    let has' : HasTerminal c.args.rows.now c.terminal_of-terminal.result = record {
      apart = c.requires.apart;
      last = c.terminal_of-terminal.ensures.terminal;
      same = c.terminal_of-terminal.ensures.found;
    } in
    linked_parts c.args.rows.now _ _ _ _ _ _ _
    (result_row c.args.rows.now c.terminal_of-terminal.result has' c.args.read.now c.index-ops-terminal.result _ _ c.requires.read op
    c.in_ok-add_no_result.ensures)
    c.in_ok-add_unknown.ensures c.in_ok-add_cycle.ensures c.in_ok-add_features.ensures c.in_ok-add_rules.ensures c.in_ok-add_indexes.ensures
