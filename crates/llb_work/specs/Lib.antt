-- Read SingleThreadDriver first (what a run on one thread does to a board, and how it leaves a board that it runs to the end), then LockSharingWorkers (what
-- workers that share one lock may do to a board) and RunEnds (what a run returns, with Faults). Tasks says what a worker is to do next, and Waits when all
-- workers wait. WorkerPasses, Threads, StartingSupplies and WorkerShares say what each worker is given and gives back.
pub mod SingleThreadDriver
pub mod LockSharingWorkers
pub mod RunEnds
pub mod WorkerPasses
pub mod Threads
pub mod StartingSupplies
pub mod WorkerShares
pub mod Faults
pub mod Tasks
pub mod Waits
