-- Read FileActions first (the tree after an action), with Owners, Making, Removing and Copying, then CopyLaws (what a copy puts at each path), Refusals
-- (why an action is refused) and CallResults.
-- CopyPlacement has the steps in which the code puts copied entries into a tree.
pub mod CallResults
pub mod Owners
pub mod Making
pub mod Removing
pub mod Copying
pub mod CopyPlacement
pub mod FileActions
pub mod Refusals
pub mod CopyLaws
