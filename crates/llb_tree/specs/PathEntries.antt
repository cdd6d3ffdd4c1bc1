-- The definitions of `Nodes` that the contracts of callers use: an entry, and a path with its entry, as contracts see them.
pub use Rattle.llb_tree.specs.Nodes.{seen, pair_seen}
