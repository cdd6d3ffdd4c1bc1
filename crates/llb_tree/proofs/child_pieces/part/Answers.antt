use Rattle.std.proofs.Common.{◌/◌, map, length, ap, ◌∙◌, arith, rules}
use Rattle.llb_tree.specs.Nodes.{rows_in, pair_of}
use Rattle.llb_tree.proofs.PiecesAroundName.{parted}
use Rattle.llb_tree.proofs.child_pieces.part.Goals as goal

pub returns : goal.returns
returns c =
    let both = parted c.args.pieces.now.items c.insert.new.self.items c.args.at (length c.as_slice-rows.result.now / 2) c.index.result.now
    c.in_ok-lower.lower c.in_ok-upper.upper c.as_slice-rows.result.now c.requires.pieced c.requires.within
    (c.as_slice-rows.ensures.value ∙ ap (λ v. v.items) c.deref.ensures ∙ ap rows_in c.index.ensures) (omega arith) (omega arith)
    (ap (map pair_of) c.in_ok-lower.ensures ∙ c.in_ok-copies.ensures ∙ ap (map pair_of) c.split_at.ensures.front)
    (ap (map pair_of) c.in_ok-upper.ensures ∙ c.in_ok-copies-2.ensures ∙ ap (map pair_of) c.split_at.ensures.back)
    c.in_ok-insert.ensures.items in
    record { same = both.0; pieced = both.1; some = search rules }
