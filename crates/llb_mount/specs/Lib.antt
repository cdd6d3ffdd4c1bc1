-- Read View first (a list of mounts, and how a view changes), then Route (to which mount a path leads), then DestOrder (how a view of many mounts
-- finds that mount).
pub mod View
pub mod Route
pub mod DestOrder
