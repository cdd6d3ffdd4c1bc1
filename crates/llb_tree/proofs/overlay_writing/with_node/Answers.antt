use Rattle.std.proofs.Common.{◌≡◌, map, sym, ap, ◌∙◌, refl}
use Rattle.llb_tree.specs.Nodes.{pair_of}
use Rattle.llb_tree.specs.Laying.{those, written}
use Rattle.llb_tree.proofs.CoveringChildren.{node_written}
use Rattle.llb_tree.proofs.overlay_writing.with_node.Goals.{in-Some, in-None+in_ok-list-in-None}
use Rattle.llb_tree.proofs.overlay_writing.with_node.Goals as goal

pub returns : goal.returns
returns c =
    let upper = c.args.upper.now in
    let there = c.index_mut.result.now in
    let pairs : map pair_of c.match-made.list.items ≡ map pair_of (those c.args.made upper) =
    elim c.match-made.branch [
      | in-Some w ↦ ap (λ v. map pair_of v.items) w.list-is ∙ sym (ap (λ o. map pair_of (those o upper)) w.in-Some.is)
      | in-None+in_ok-list-in-None w ↦ ap (λ v. map pair_of v.items) w.list-is ∙ w.in_ok-list-in-None.ensures
          ∙ sym (ap (λ o. map pair_of (those o upper)) w.in-None.is)
    ] in
    node_written c.match-made.list.items c.args.i there (record { name = there.name; node = c.args.node }) c.index_mut.ensures.value refl
    ∙ ap (written c.args.i c.args.node) pairs
