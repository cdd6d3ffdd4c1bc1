pub mod KeptMachineValue
pub mod DropGlue
pub mod HandleAfterCalls
pub mod MessageLineCalls
