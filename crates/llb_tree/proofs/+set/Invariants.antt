use Rattle.std.proofs.Common.{◌+◌, ◌*◌, length}
use Rattle.llb_tree.proofs.+set.Given as goal

abbrev pub decreases-node::Node::set : goal.decreases-node::Node::set
decreases-node::Node::set l = 5 * length l.names.now

abbrev pub decreases-edit::set_below : goal.decreases-edit::set_below
decreases-edit::set_below l = 5 * length l.rest.now + 4

abbrev pub decreases-edit::set_piece : goal.decreases-edit::set_piece
decreases-edit::set_piece l = 5 * length l.rest.now + 3

abbrev pub decreases-edit::set_rows : goal.decreases-edit::set_rows
decreases-edit::set_rows l = 5 * length l.rest.now + 2

abbrev pub decreases-edit::set_in : goal.decreases-edit::set_in
decreases-edit::set_in l = 5 * length l.rest.now + 1
