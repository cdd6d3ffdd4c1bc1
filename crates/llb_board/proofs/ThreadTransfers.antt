-- A board may go to another thread, as its parts may. A search over all their fields at once is past its limit, so that each type has its own fact.
use denote.Hole.{as_row}
use denote.Param.Send.{IsSend, sendable, view_send}
use denote.Param.SendFields.{as_row_send, variants_send, declared_send}
use Rattle.std.proofs.Crossing.{crosses, Vec-send}
use Rattle.std.specs.contracts.alloc.Global as heap
use Rattle.std.specs.contracts.impls.GlobalAllocator.TheImpl.{ghosts}
use Rattle.std.specs.contracts.vec.Vec as vec
use Rattle.llb_wire.proofs.owned_list.Many.TheSendSync as many_crosses
use Rattle.llb_tree.specs.contracts.tree.Tree as tree
use Rattle.llb_execution.proofs.ThreadTransfers.{tree_send, trees_send, workspace_crosses}
use Rattle.llb_execution.specs.contracts.workspace.Workspace as workspace
use Rattle.llb_execution.proofs.steps.Steps.TheSendSync as steps_cross
use Rattle.llb_execution.specs.contracts.steps.Steps as steps
use Rattle.llb_cache.proofs.caches.Lease.TheSendSync as lease_crosses
use Rattle.llb_cache.proofs.lease_needs.Instance.TheSendSync as place_crosses
use Rattle.llb_cache.specs.contracts.lease_needs.Instance as place
use Rattle.llb_cache.specs.contracts.caches.Caches as caches
use Rattle.llb_board.specs.contracts.users_and_open_inputs.Links as links
use Rattle.llb_loader.proofs.graph.Graph.TheSendSync as graph_crosses
use Rattle.llb_loader.specs.contracts.graph.Graph as graph
use Rattle.llb_loader.specs.contracts.local_trees.Locals as locals
use Rattle.llb_events.proofs.fault.VertexFault.TheSendSync as fault_crosses
use Rattle.llb_board.specs.contracts.vertices.build.Build as build
use Rattle.llb_board.specs.contracts.vertices.build.Build.TheInside as build_inside
use Rattle.llb_board.specs.contracts.workers.running_workers.Seat as seat
use Rattle.llb_board.specs.contracts.workers.running_workers.Execution as execution
use Rattle.llb_board.specs.contracts.vertices.vertex_state.Stage as stage
use Rattle.llb_board.specs.contracts.vertices.Vertices as vertices
use Rattle.llb_board.specs.contracts.vertices.Vertices.TheInside as vertices_inside
use Rattle.llb_board.specs.contracts.workers.Workers as workers
use Rattle.llb_board.specs.contracts.workers.Workers.TheInside as workers_inside
use Rattle.llb_board.specs.contracts.history.events.Events as events
use Rattle.llb_board.specs.contracts.history.History as history
use Rattle.llb_board.specs.contracts.history.History.TheInside as history_inside
use Rattle.llb_board.specs.contracts.board.Board as board
use Rattle.llb_board.specs.contracts.board.Board.TheInside as inside

steps_send : IsSend steps.the_row
steps_send = steps_cross.the_send

places_send : IsSend (as_row (vec.the_field place.the_row heap.the_row ghosts))
places_send = as_row_send (vec.the_field place.the_row heap.the_row ghosts) (Vec-send place.the_row place_crosses.the_send)

execution_send : IsSend execution.the_row
execution_send = declared_send execution.the_type (
  search sendable,
  (
    search sendable,
    (
      search (crosses, sendable) depth 20,
      (
        as_row_send workspace.the_field workspace_crosses,
        (
          places_send,
          (
            as_row_send (vec.the_field tree.the_row heap.the_row ghosts) trees_send,
            (as_row_send steps.the_field steps_send, tt),
          ),
        ),
      ),
    ),
  ),
)

seat_send : IsSend seat.the_row
seat_send = variants_send seat.enum (tt, ((search (lease_crosses.the_send, crosses, sendable) depth 20, (execution_send, tt)), tt))

graph_send : IsSend graph.the_row
graph_send = graph_crosses.the_send

locals_send : IsSend locals.the_row
locals_send = search (tree_send, crosses, sendable) depth 60 fits 20000

build_inside_send : IsSend build_inside.the_row
build_inside_send = declared_send build_inside.the_type (as_row_send graph.the_field graph_send, (as_row_send locals.the_field locals_send, tt))

build_send : IsSend build.the_row
build_send = view_send build_inside.the_row _ _ _ _ build_inside_send

seats_send : IsSend (as_row (vec.the_field seat.the_row heap.the_row ghosts))
seats_send = as_row_send (vec.the_field seat.the_row heap.the_row ghosts) (Vec-send seat.the_row seat_send)

stage_send : IsSend stage.the_row
stage_send = variants_send stage.enum (
  tt,
  (
    (search sendable, tt),
    (
      (search (many_crosses.the_send, tree_send, crosses, sendable) depth 20, tt),
      ((search (fault_crosses.the_send, crosses, sendable) depth 20, tt), tt),
    ),
  ),
)

stages_send : IsSend (as_row (vec.the_field stage.the_row heap.the_row ghosts))
stages_send = as_row_send (vec.the_field stage.the_row heap.the_row ghosts) (Vec-send stage.the_row stage_send)

links_send : IsSend links.the_row
links_send = search (crosses, sendable) depth 60 fits 20000

vertices_inside_send : IsSend vertices_inside.the_row
vertices_inside_send = declared_send vertices_inside.the_type (
  as_row_send build.the_field build_send,
  (stages_send, (search (crosses, sendable) depth 20, (as_row_send links.the_field links_send, (search sendable, tt)))),
)

pub vertices_send : IsSend vertices.the_row
vertices_send = view_send vertices_inside.the_row _ _ _ _ vertices_inside_send

pub caches_send : IsSend caches.the_row
caches_send = search (tree_send, place_crosses.the_send, crosses, sendable) depth 60 fits 20000

workers_inside_send : IsSend workers_inside.the_row
workers_inside_send = declared_send workers_inside.the_type (seats_send, (as_row_send caches.the_field caches_send, tt))

pub workers_send : IsSend workers.the_row
workers_send = view_send workers_inside.the_row _ _ _ _ workers_inside_send

events_send : IsSend events.the_row
events_send = search (crosses, sendable) depth 60 fits 20000

history_inside_send : IsSend history_inside.the_row
history_inside_send = declared_send history_inside.the_type (as_row_send events.the_field events_send, (search (crosses, sendable) depth 20, tt))

history_send : IsSend history.the_row
history_send = view_send history_inside.the_row _ _ _ _ history_inside_send

inside_send : IsSend inside.the_row
inside_send = declared_send inside.the_type (
  search (crosses, sendable) depth 20,
  (
    as_row_send vertices.the_field vertices_send,
    (
      as_row_send workers.the_field workers_send,
      (as_row_send caches.the_field caches_send, (as_row_send history.the_field history_send, tt)),
    ),
  ),
)

-- all that a board has may go to another thread, and so may the board
pub board_crosses : IsSend board.the_row
board_crosses = view_send inside.the_row _ _ _ _ inside_send
