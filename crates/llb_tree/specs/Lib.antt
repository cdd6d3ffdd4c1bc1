-- Read first Tree (a tree as a map from paths to entries, and its edits) and Path (names, paths, and how a text is read) with ModeAndOwner and ModeTexts, then
-- Overlay (one tree over another), Walks, PathTests, PathEntries and CallResults. PathOrder has the laws of the order of paths, which the code of the type
-- `Path` cites; Nodes, ChildPieces, EntryLookup, TreeHeights and Laying say how this crate keeps trees as nodes; CodedTrees says how trees are turned into
-- plain values.
pub mod CallResults
pub mod Path
pub mod PathOrder
pub mod ModeAndOwner
pub mod ModeTexts
pub mod Tree
pub mod CodedTrees
pub mod Nodes
pub mod ChildPieces
pub mod EntryLookup
pub mod TreeHeights
pub mod PathEntries
pub mod Overlay
pub mod Laying
pub mod Walks
pub mod PathTests
