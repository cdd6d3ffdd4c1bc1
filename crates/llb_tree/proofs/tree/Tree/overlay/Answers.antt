use Rattle.std.proofs.Common.{arith, ◌+◌, ◌≤◌}
use Rattle.llb_tree.specs.Tree.{height}
use Rattle.llb_tree.proofs.OverlayTrees.{IsTree-overlaid, height-overlaid}
use Rattle.llb_tree.proofs.tree.Tree.overlay.Goals as goal

pub invariant_of-self-2 : goal.invariant_of-self-2
invariant_of-self-2 c =
    let settings = c.args.settings.now in
    let lower = c.self in
    let upper = c.upper in
    let whole = c.lay_node.new.lower in
    let laid = c.in_ok-lay_node.ensures.ok in
    let most = c.max-depth.ensures in
    let low : height lower.inside.root ≤ c.max-depth.result + 1 = omega (arith, most, lower.invariant.deep) in
    let high : height upper.inside.root ≤ c.max-depth.result + 1 = omega (arith, most, upper.invariant.deep) in
    record {
      tree = IsTree-overlaid settings lower.inside.root upper.inside.root whole laid c.are_settings.ensures lower.invariant.tree upper.invariant.tree;
      deep = height-overlaid settings lower.inside.root upper.inside.root whole laid (c.max-depth.result + 1) low high;
      short = omega (arith, most, lower.invariant.short, upper.invariant.short);
    }
