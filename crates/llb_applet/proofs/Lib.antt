pub mod FirstBadPosition
pub mod CallWordGathering
pub mod MountTreeExchange
pub mod ScriptTextRoundTrip
pub mod AndOnlyScripts
pub mod DirectoryChains
mod FirstCommandOfScript
mod PathsOfWords
mod ExactCauses
