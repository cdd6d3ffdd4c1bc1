pub mod ThreadTransfers
pub mod DriverEvents
pub mod WorkerEventCounts
pub mod DriverRunEnds
pub mod BoardContinuations
pub mod WorkersAndVertices
pub mod WorkerCalls
pub mod WorkerTallies
pub mod PassFractions
pub mod ThreadLists
pub mod ThreadedRunEnds
pub mod PlainMarksAndKnownJobs
pub mod IdleWorkers
pub mod CancelFreeEvents
mod Waits
