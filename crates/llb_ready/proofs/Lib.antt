pub mod ListSums
pub mod PassWeights
pub mod PassParts
pub mod PutAndTake
pub mod PassSplitAndJoin
pub mod WholePassFacts
