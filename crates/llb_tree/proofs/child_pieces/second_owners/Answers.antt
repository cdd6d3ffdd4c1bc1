use Rattle.std.proofs.Common.{ap, map}
use Rattle.llb_tree.specs.Nodes.{pair_of}
use Rattle.llb_tree.proofs.PieceEdits.{piece_pushed}
use Rattle.llb_tree.proofs.child_pieces.second_owners.Goals as goal

pub loop-piece-preserved : goal.loop-piece-preserved
loop-piece-preserved c = piece_pushed c.args.pieces.now c.loop-piece.copied.items c.push.new.self.items c.loop-piece.piece-index _ c.piece-item.result
    c.loop-piece.invariant c.in_ok-push.ensures.items c.piece-item.is (ap (map pair_of) c.in_ok-copy.ensures) c.loop-piece-test.true
