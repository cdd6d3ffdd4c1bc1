use Rattle.std.proofs.Common.{◌<◌, ◌++◌, length, sym, ap, subst, ◌∙◌, arith, append-nil}
use Rattle.std.proofs.lemmas.Bool.Decides.{nat_tests}
use Rattle.llb_tree.specs.Nodes.{kids_in}
use Rattle.llb_tree.proofs.PieceEdits.{pushed_piece, pushed_full, no_children}
use Rattle.llb_tree.proofs.child_pieces.end_piece.Goals as goal

pub returns-then-is_empty-clause-same : goal.returns-then-is_empty-clause-same
returns-then-is_empty-clause-same c =
    sym (ap (λ ks. kids_in c.args.pieces.now.items ++ ks)
    (sym c.as_slice.ensures.value ∙ no_children c.as_slice.result.now (sym c.is_empty.ensures ∙ c.if-is_empty.true))
    ∙ append-nil (kids_in c.args.pieces.now.items))

pub returns-clause-same : goal.returns-clause-same
returns-clause-same c =
    pushed_piece c.args.pieces.now.items c.push.new.self.items c.in_ok-of.field-0 c.args.rows.items c.in_ok-push.ensures.items c.in_ok-of.ensures

pub returns-clause-full : goal.returns-clause-full
returns-clause-full c h =
    let some : 0 < length c.as_slice.result.now = grind (arith, nat_tests, c.is_empty.ensures, c.if-is_empty.false) in
    pushed_full c.args.pieces.now.items c.push.new.self.items c.in_ok-of.field-0 c.args.rows.items c.in_ok-push.ensures.items c.in_ok-of.ensures
    (subst (λ ks. 0 < length ks) c.as_slice.ensures.value some) h
