use Rattle.std.specs.Cmp.Lexicographic.{same_text}
use Rattle.std.proofs.Common.{sym, ap, ◌∙◌}
use Rattle.llb_tree.specs.Nodes.{kids_in, name_of}
use Rattle.llb_tree.proofs.GuessedPlaces.{named_here}
use Rattle.llb_tree.proofs.PiecesAroundName.{sorted_kids}
use Rattle.llb_tree.proofs.child_pieces.child_near.Goals as goal

pub returns-in-Some : goal.returns-in-Some
returns-in-Some c =
    named_here c.args.name.now (kids_in c.args.pieces.now) c.in-Some.kid.now (sorted_kids c.args.pieces.now c.requires) c.in-Some.ensures
    (sym c.deref.ensures ∙ same_text c.deref.result.now c.args.name.now (sym c.if-eq.true ∙ c.eq.ensures))
