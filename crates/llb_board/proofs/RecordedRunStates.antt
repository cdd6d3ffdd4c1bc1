-- What a board's state is, since its record is a run.
use Rattle.llb_loader.specs.Graph.{IsGraph}
use Rattle.llb_model.specs.State.{opening}
use Rattle.llb_model.specs.ConsistentStates.{IsConsistent}
use Rattle.llb_model.specs.WholeRunLaws.{IsReached}
use Rattle.llb_model.specs.PlainVertices.{StandsByOutcomes}
use Rattle.llb_model.proofs.ConsistencyPreservation.{opening_consistent, run_consistent}
use Rattle.llb_model.proofs.PlainVertexStates.{opening_plain, run_plain}
use Rattle.llb_board.specs.BoardValue.{BoardValue, Replays}

-- a board's state is consistent, as granted events lead to it
pub consistent : (b : BoardValue) → Replays b → IsConsistent b.build b.state
consistent b here = run_consistent b.build (opening b.build b.opening) b.state b.events here.replies (opening_consistent b.build b.opening) here.leads

-- a board's state is one that granted events lead to from an opening state: those of its record
pub reached : (b : BoardValue) → Replays b → IsReached b.build b.state
reached b here = record { opened = b.opening; events = b.events; replies = here.replies; leads = here.leads }

-- the states of vertices of a board with no cache at or before them are by their plain outcomes
pub plain : (b : BoardValue) → IsGraph b.build.graph → Replays b → StandsByOutcomes b.build b.state
plain b graph here = run_plain b.build graph (opening b.build b.opening) b.state b.events here.replies (opening_plain b.build b.opening) here.leads
