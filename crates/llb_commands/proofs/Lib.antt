pub mod TextsOfLines
pub mod AllDoneIfResultTree
pub mod DriverRunEnds
pub mod RunOutput
pub mod SubcommandEntry
pub mod ArgumentMatches
pub mod SourceFileReading
pub mod SameEntriesSameOutput
pub mod EntryTextOutput
pub mod NumberParsing
mod StepCommandLine
pub mod SteppingOutput
mod ReachedStates
pub mod FailureLines
pub mod FoundFaults
pub mod TextsInMemory
pub mod MatchedDefinitions
