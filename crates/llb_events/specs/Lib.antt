-- Read Faults first (the texts of refusals, and how the results of events are specified), then FailureText (the text of a vertex's failure).
pub mod Faults
pub mod FailureText
