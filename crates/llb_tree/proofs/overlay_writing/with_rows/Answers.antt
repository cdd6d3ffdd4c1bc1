use Rattle.std.proofs.Common.{◌≡◌, map, set, sym, ap, ◌∙◌}
use Rattle.llb_tree.specs.Nodes.{pair_of}
use Rattle.llb_tree.specs.ChildPieces.{row_pairs}
use Rattle.llb_tree.specs.Laying.{those_pieces}
use Rattle.llb_tree.proofs.LaidPieces.{map_set}
use Rattle.llb_tree.proofs.overlay_writing.with_rows.Goals.{in-Some, in-None+in_ok-list-in-None}
use Rattle.llb_tree.proofs.overlay_writing.with_rows.Goals as goal

pub returns : goal.returns
returns c =
    let upper = c.args.upper.now in
    let pairs : map row_pairs c.match-made.list.items ≡ map row_pairs (those_pieces c.args.made upper) =
    elim c.match-made.branch [
      | in-Some w ↦ ap (λ v. map row_pairs v.items) w.list-is ∙ sym (ap (λ o. map row_pairs (those_pieces o upper)) w.in-Some.is)
      | in-None+in_ok-list-in-None w ↦ ap (λ v. map row_pairs v.items) w.list-is ∙ w.in_ok-list-in-None.ensures
          ∙ sym (ap (λ o. map row_pairs (those_pieces o upper)) w.in-None.is)
    ] in
    map_set c.match-made.list.items c.args.i c.in_ok-list.field-0
    ∙ (λ k. set (pairs k) c.args.i (map pair_of (c.in_ok-list.ensures k)))
