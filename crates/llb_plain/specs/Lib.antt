-- Read first Evaluation (what an evaluation returns), then OutcomeModelValues (what an outcome of this crate represents) and CallResults.
pub mod CallResults
pub mod OutcomeModelValues
pub mod Evaluation
