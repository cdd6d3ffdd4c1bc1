-- Read first PassKnowledge (what contracts know of a pass, and how each call changes what they know) and Conservation (what is known of all numbers that were
-- put and taken), then QueuePasses (the definitions that clauses cite). QueueInvariant has the invariant of the queue, which no clause cites.
pub mod PassKnowledge
pub mod Conservation
pub mod QueueInvariant
pub mod QueuePasses
