-- Read MachinePromise first (the promise of the whole machine for a board), then BoardValue (what contracts see of a board), EventResults (what the call for an
-- event returns), Opening (of a board), Landing (of an outcome), PlainVertexJobs (which outcomes land without a comparison) and UndoableEvents (`Board::walk`
-- does an event, `Board::undo` takes it back). Laws has what else holds of every board; BoardInvariant has the invariant of a board, and History its record and
-- the room for more events.
-- The parts of a board: UsersAndOpenInputs (the users of a vertex, how many inputs of a vertex are open, and where a mark spreads), Vertices (the vertices as
-- contracts see them, and what is kept besides) and Workers (the workers as contracts see them). Then come WorkerRules (the results of a claim, a step, a
-- settle and a cancel for a worker), OptionalLeases (leases that may be absent) and Jobs (the job that remains for a worker).
-- The rest: CacheNeeds (what a claim takes of the caches), RunningWorkerSupplies (what a worker has while it runs a vertex), WorkersKeptForUndo (what is kept
-- to take an event back), WorkedOnAndCachedTrees (the trees that a worker works on), Statuses (how callers see a vertex and a worker), Faults (the refusals of
-- `Board::walk`), WorkerModelValues (the model's values for a worker's data in the code), ClaimPreparation (what a claim prepares from the vertex alone) and
-- WorkerUndo (what is kept of a worker before its settle or cancel).
pub mod UsersAndOpenInputs
pub mod Faults
pub mod Statuses
pub mod CacheNeeds
pub mod OptionalLeases
pub mod WorkerModelValues
pub mod Jobs
pub mod WorkedOnAndCachedTrees
pub mod WorkerRules
pub mod RunningWorkerSupplies
pub mod ClaimPreparation
pub mod WorkerUndo
pub mod Vertices
pub mod Workers
pub mod WorkersKeptForUndo
pub mod BoardValue
pub mod EventResults
pub mod History
pub mod BoardInvariant
pub mod Laws
pub mod MachinePromise
pub mod Opening
pub mod Landing
pub mod PlainVertexJobs
pub mod UndoableEvents
