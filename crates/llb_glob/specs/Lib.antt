-- Read Matching with ClassValue and Class first (when a path matches a pattern), then PatternGrammar (what spells a part) and Pattern (what a text reads as)
-- with ItemReading, then ClasslessPatterns and CallResults. PartReading, PositionSets and TextCheckCounts follow the steps of the code.
pub mod CallResults
pub mod ClassValue
pub mod Class
pub mod Matching
pub mod PatternGrammar
pub mod ItemReading
pub mod ClasslessPatterns
pub mod PartReading
pub mod PositionSets
pub mod Pattern
pub mod TextCheckCounts
