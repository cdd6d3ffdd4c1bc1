-- What a program works on may go to another thread. A search over all fields at once is past its limit, so that each type has its own fact.
use denote.Builtin.{u32}
use denote.Struct.Field.{u32-field}
use denote.Hole.{as_row}
use denote.Param.Send.{IsSend, sendable, view_send}
use denote.Param.SendFields.{as_row_send, variants_send, declared_send}
use Rattle.std.proofs.Crossing.{crosses, Vec-send}
use Rattle.std.specs.contracts.alloc.Global as heap
use Rattle.std.specs.contracts.impls.GlobalAllocator.TheImpl.{ghosts}
use Rattle.std.specs.contracts.vec.Vec as vec
use Rattle.llb_tree.proofs.node.Node.TheLaws.TheKnot as knot
use Rattle.llb_tree.specs.contracts.tree.Tree as tree
use Rattle.llb_mount.specs.contracts.view.View as mounts
use Rattle.llb_execution.specs.contracts.workspace.WorkState as own
use Rattle.llb_execution.specs.contracts.workspace.Workspace as workspace
use Rattle.llb_execution.specs.contracts.workspace.Workspace.TheInside as inside

-- all that a tree is made of may go to another thread, and so may the tree
pub tree_send : IsSend tree.the_row
tree_send = search (crosses, knot.crosses, sendable) depth 60 fits 20000

-- a list of trees may go to another thread, as each tree may
pub trees_send : IsSend (vec.the_row tree.the_row heap.the_row ghosts)
trees_send = Vec-send tree.the_row tree_send

one : IsSend (as_row tree.the_field)
one = as_row_send tree.the_field tree_send

many : IsSend (as_row (vec.the_field tree.the_row heap.the_row ghosts))
many = as_row_send (vec.the_field tree.the_row heap.the_row ghosts) trees_send

numbers : IsSend (as_row (vec.the_field u32 heap.the_row ghosts))
numbers = search (crosses, sendable) depth 20

last : IsSend (as_row u32-field)
last = search (crosses, sendable) depth 20

mounts_send : IsSend mounts.the_row
mounts_send = search (crosses, knot.crosses, sendable) depth 60 fits 20000

own_send : IsSend own.the_row
own_send =
    variants_send own.enum ((one, tt), ((many, (many, tt)), ((many, (one, tt)), ((as_row_send mounts.the_field mounts_send, (numbers, (last, tt))), tt))))

inside_send : IsSend inside.the_row
inside_send = declared_send inside.the_type (own_send, tt)

-- all that a workspace owns may go to another thread, and so may the workspace
pub workspace_crosses : IsSend workspace.the_row
workspace_crosses = view_send inside.the_row _ _ _ _ inside_send
