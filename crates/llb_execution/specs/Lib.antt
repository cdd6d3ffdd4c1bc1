-- Read first ModelValues (which values of llb_model the types of this crate represent), then SavedWorkspaces (how a micro-step is taken back), Outputs (how
-- outputs replace empty trees), Jobs (what a worker takes away from a board, and what the worker brings back), and WorkspaceTrees (the trees of a workspace, in
-- a fixed order).
pub mod ModelValues
pub mod Outputs
pub mod SavedWorkspaces
pub mod Jobs
pub mod WorkspaceTrees
