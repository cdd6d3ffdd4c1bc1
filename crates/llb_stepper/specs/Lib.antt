-- Read first Stepping (what a stepper is, what events and stops are), then Records (the lines of a record), Replies (what calls on a board return, and the
-- replies to the events of its record), StepperResults (what calls on a stepper return) and Faults (the texts of refusals). StepperInvariant is the invariant
-- of a stepper, UndoableEventReplies restates lines and breakpoints for the replies of the board's call `walk`, and BreakpointSets says how breakpoints are
-- looked up.
pub mod Stepping
pub mod Records
pub mod Replies
pub mod StepperResults
pub mod Faults
pub mod StepperInvariant
pub mod UndoableEventReplies
pub mod BreakpointSets
