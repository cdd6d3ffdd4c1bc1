-- Read first LoadResult and GraphOfRowsResult (what loading returns), GraphOfRows (the graph of the rows, or the first fault) with ReachedRows and Numbering,
-- Graph (what is true of every graph), Features (what is not supported) and Rules (what an op has to meet) with Mounts, MountTypes and Scripts, then
-- LocalSources, FirstMissingTree, Faults and UniqueResult. RowsWithoutBytes, RulesByKind, ReachedRowChecks, GraphOfRowsStages, WaitingRows, RowLookup,
-- RowReading, VertexBuilding and KeyOrder follow the steps of the code.
pub mod ReachedRows
pub mod Mounts
pub mod MountTypes
pub mod KeyOrder
pub mod Scripts
pub mod Rules
pub mod RulesByKind
pub mod Graph
pub mod Numbering
pub mod WaitingRows
pub mod Faults
pub mod RowLookup
pub mod LocalSources
pub mod FirstMissingTree
pub mod Features
pub mod GraphOfRows
pub mod RowReading
pub mod RowsWithoutBytes
pub mod ReachedRowChecks
pub mod GraphOfRowsStages
pub mod VertexBuilding
pub mod GraphOfRowsResult
pub mod LoadResult
pub mod UniqueResult
