use Rattle.std.proofs.Common.{◌≡◌, length, rules, arith, refl, sym, vec_len}
use Rattle.std.proofs.lemmas.List.{length-append}
use Rattle.llb_execution.proofs.InputTrees.{gathered_start, gathered_next, gathered_missing, gathered_end}
use Rattle.llb_execution.proofs.input_trees.all_at.Goals as goal

pub loop-edge-init : goal.loop-edge-init
loop-edge-init g c =
    record {
      gathered = rw c.in_ok-trees.ensures.items (gathered_start (g.O.Outputs.ending c.args.outputs.now) c.args.edges.now);
      count = rw c.in_ok-trees.ensures.items refl;
      reserved = search rules;
    }

pub push_reserved-requires : goal.push_reserved-requires
push_reserved-requires g c =
    let len : vec_len c.loop-edge.trees ≡ length c.loop-edge.trees.items = search rules in
    omega (arith, len, c.loop-edge.invariant.count, c.loop-edge.invariant.reserved, c.loop-edge-test.true)

pub loop-edge-preserved : goal.loop-edge-preserved
loop-edge-preserved g c =
    record {
      gathered = rw c.push_reserved.ensures.items
          (gathered_next (g.O.Outputs.ending c.args.outputs.now) c.args.edges.now c.loop-edge.edge-index c.loop-edge.trees.items _
          c.loop-edge.invariant.gathered c.loop-edge-test.true (search rules));
      count = rw c.push_reserved.ensures.items (omega (arith, length-append c.loop-edge.trees.items, c.loop-edge.invariant.count));
      reserved = search rules;
    }

pub returns : goal.returns
returns g c =
    sym (gathered_end (g.O.Outputs.ending c.args.outputs.now) c.args.edges.now c.loop-edge.edge-index c.loop-edge.trees.items
    c.loop-edge.invariant.gathered c.loop-edge-test.false)

pub returns-in-None : goal.returns-in-None
returns-in-None g c =
    sym (gathered_missing (g.O.Outputs.ending c.args.outputs.now) c.args.edges.now c.loop-edge.edge-index c.loop-edge.trees.items
    c.loop-edge.invariant.gathered c.loop-edge-test.true (search rules))
