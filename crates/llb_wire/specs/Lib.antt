-- Read first CallResults (how a result is specified, in every crate), Spelling (the grammar of the wire), Reading (a record from left to right, with its first
-- fault) and Records, then Sink (what takes bytes), Hexadecimal, TextComparison, Decimal, Digest, Hashing and Faults.
pub mod CallResults
pub mod Spelling
pub mod Reading
pub mod Records
pub mod Sink
pub use Rattle.std.specs.Io.KnownBytes.{Appends, Keeps}
pub mod Hashing
pub mod Digest
pub mod Hexadecimal
pub mod TextComparison
pub mod Decimal
pub mod Faults
