-- Read first Aim (all that is promised for a graph, a board and a stepper), then CallStreams (what the streams of a call hold) and ProgramOutput (what a run
-- prints for the bytes that it reads) with GraphText and WrittenPrefix, FindingLines, PlanText, MatchText and AgreementText (what else `show` prints),
-- ScriptLine (whether a text is a script), Assembly (asm and dis), Stepping (a session), CommandLine (what the words ask for), HelpPages (the page for words
-- that ask for help), Sources (files of local sources), BoundedReading (reading within bounds), Faults (what a fault prints, with its status) and Commands
-- (how each command and the program end). Running and AssemblyParts have the steps of a run and of assembling.
pub mod CallStreams
pub mod BoundedReading
pub mod Faults
pub mod ProgramOutput
pub mod Running
pub mod WrittenPrefix
pub mod GraphText
pub mod FindingLines
pub mod PlanText
pub mod MatchText
pub mod AgreementText
pub mod ScriptLine
pub mod CommandLine
pub mod HelpPages
pub mod Sources
pub use Rattle.std.specs.Io.KnownBytes.{Appends, Consumes, IsAtEnd, Keeps}
pub mod Assembly
pub mod AssemblyParts
pub mod Aim
pub mod Stepping
pub mod Commands
