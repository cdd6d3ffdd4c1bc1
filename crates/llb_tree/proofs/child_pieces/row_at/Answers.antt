use Rattle.std.proofs.Common.{Contains, sym, ap, subst, ◌∙◌, arith}
use Rattle.llb_tree.specs.Nodes.{rows_in}
use Rattle.llb_tree.proofs.GuessedPlaces.{row_within}
use Rattle.llb_tree.proofs.child_pieces.row_at.Goals as goal

pub returns : goal.returns
returns c =
    let piece = c.index-pieces-at.result in
    let kid = c.index-rows-i.result in
    let rows = c.as_slice-rows.ensures.value ∙ ap (λ v. v.items) c.deref.ensures ∙ ap rows_in (sym c.index-pieces-at.is) in
    row_within c.args.pieces.now piece kid (c.args.at, omega (arith, c.if-at-pieces.false), sym c.index-pieces-at.is)
    (subst (λ ks. Contains ks kid) rows (c.args.i, omega (arith, c.if-i-rows.false), sym c.index-rows-i.is))
