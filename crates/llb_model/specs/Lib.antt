-- Read first State (the state of the machine) and Table (for a state and an event: the next state and the reply, or why the event is refused), then Program
-- (what a vertex does), Caches (instances of caches and their trees), Run (whole runs), Outcome (plain outcomes), EventBounds (how many events a run can have)
-- and ClaimOrder (the claim order). ConsistentStates, PlainVertices, WholeRunLaws and Landing state what is true of every list of granted events; the laws of
-- llb_board cite them. TwoCacheModels relates the rows and leases of llb_cache to the machine's state. CodedStores turns the contents of caches into pairs,
-- numbers and lists. ListsFromEarlierItems builds lists.
pub mod ListsFromEarlierItems
pub mod Caches
pub mod CodedStores
pub mod Program
pub mod Outcome
pub mod State
pub mod Table
pub mod Run
pub mod EventBounds
pub mod ConsistentStates
pub mod PlainVertices
pub mod ClaimOrder
pub mod WholeRunLaws
pub mod TwoCacheModels
pub mod Landing
