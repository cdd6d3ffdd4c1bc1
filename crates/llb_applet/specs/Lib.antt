-- Read Scripts first (the script that arguments are read as) with Words, Applets and Calls (what a text means), then Commands (the view after a command)
-- with PathsInMounts (what a path means on a view), CallResults (what calls return) and ScriptTextLaws; then Causes (why a command has status 1). CallReading
-- and ViewChanges follow the steps of the code.
pub mod CallResults
pub mod Words
pub mod Applets
pub mod Calls
pub mod Scripts
pub mod CallReading
pub mod PathsInMounts
pub mod Commands
pub mod Causes
pub mod ViewChanges
pub mod ScriptTextLaws
