pub mod MountTreeReplacement
pub mod Routing
pub mod DistinctDests
pub mod PathOrderPrefixes
pub mod DestOrderInsertion
pub mod LongestPrefixSearch
