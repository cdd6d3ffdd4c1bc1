-- One tree laid over another: the entry of the result at a path, and the result as a map.
use Rattle.std.specs.Prelude.{not, ◌++◌, Option, Some, None, if◌then◌else◌}
use Rattle.std.specs.FinMap as finite
use Rattle.std.specs.FinMap.Entries.{where_key}
use Rattle.llb_tree.specs.Path.{path_cmp}
use Rattle.llb_tree.specs.Tree.{Entry, TreeMap, Look}
pub use Rattle.llb_tree.specs.Overlay.{is_file, below_file}

-- the first entry if there is one, else the second
abbrev pub or_else : Option Entry → Option Entry → Option Entry
or_else (Some e) other = Some e
or_else None other = other

-- the entry of the result at a path: what the upper tree has there, else what the lower tree has there, unless a file of the upper tree is above the path
abbrev pub lay_at : Look → Look → Look
lay_at lower upper p = or_else (upper p) (if below_file upper p then None else lower p)

-- the upper tree laid over the lower one: all entries of the upper tree, and those entries of the lower tree that are at a path where the upper tree has no
-- entry, and that are below no file of the upper tree
unfoldable pub lay : TreeMap → TreeMap → TreeMap
lay lower upper = finite.from_entries (finite.entries upper ++ where_key path_cmp (λ p. not (below_file (finite.get upper) p)) (finite.entries lower))
