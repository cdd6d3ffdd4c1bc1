-- Read first Findings (every fault of rows or of a definition), over Selections (those of a list that have a property). FindingSteps follows the steps of
-- the code.
pub mod Selections
pub mod Findings
pub mod FindingSteps
