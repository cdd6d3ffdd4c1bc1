-- Read first Table (the fields of every message), Records (how a field is read from its records) and Messages (how a message is read from its records), then
-- Definition and Limits (a whole definition, and its limits), Writing (canonical bytes: the one way in which a message is written), OpsWithinLimits (which ops
-- are within the limits), ReadWriteLaws and CanonicalFields (laws of reading and writing). Attributes is about a source's attributes, OpKindNames about kinds
-- of ops, Faults about faults.
pub mod Faults
pub mod Limits
pub mod Table
pub mod Records
pub mod Attributes
pub mod Messages
pub mod OpKindNames
pub mod Writing
pub mod OpsWithinLimits
pub mod Definition
pub mod ReadWriteLaws
pub mod CanonicalFields
