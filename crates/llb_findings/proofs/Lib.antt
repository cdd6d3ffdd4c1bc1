mod SelectionParts
mod BrokenRules
mod OpsAndRules
mod FindingsAgree
mod RowFindings
mod EveryFault
mod FindingsInBytes
mod LinkedFindings
