-- Read first Caches (keys with their instances, leases, and what each call does to them), Key (which keys are the same) and CallResults (how calls fail). Then
-- LeasePreparation (what is prepared for a lease), LeaseAdditions (what a lease adds to the rows, and how this is removed), InstanceMarks (the marks of leased
-- instances), KeyOrder and RowOrder (the order in which keys are searched), FirstRowOfKey (the row of a key) and KeyEquality (`same_key` is an equivalence, as
-- the `Eq` of `Key` requires).
pub mod Key
pub mod KeyEquality
pub mod KeyOrder
pub mod Caches
pub mod CallResults
pub mod RowOrder
pub mod LeaseAdditions
pub mod LeasePreparation
pub mod InstanceMarks
pub mod FirstRowOfKey
