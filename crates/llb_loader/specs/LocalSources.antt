-- Local sources: the name of each, and the trees that are given for names.
use Rattle.std.specs.Prelude.{ℕ, cond, nat_eq, List, length, map, drop, Option, Some, None, String, string_bytes, codes}
use Rattle.std.specs.List.{starts_with}
use Rattle.std.specs.Map.{lookup}
use Rattle.std.specs.Str.{bytes_eq}
use Rattle.indexmap.specs.IndexMap.{insert_entry}
use Rattle.llb_ops.specs.declared.op.Op.{Op}
use Rattle.llb_ops.specs.declared.op.Kind.{Kind}
use Rattle.llb_ops.specs.declared.op.Kind.TheVariants.{Source}
use Rattle.llb_ops.specs.declared.source.SourceOp.{SourceOp}
use Rattle.llb_tree.specs.Tree.{TreeMap}

-- the rest of a text after a prefix, if the text begins with that prefix
abbrev pub behind : List ℕ → List ℕ → Option (List ℕ)
behind prefix text = cond (starts_with nat_eq text prefix) (Some (drop (length prefix) text)) None

-- the part of a source's identifier after `local://`; none if the identifier does not begin with `local://`
abbrev pub source_name : SourceOp → Option (List ℕ)
source_name s = behind (codes "local://") s.identifier

-- the name of a local source, from the kind of the op; nothing for an op of another kind
abbrev pub name_by_kind : Option Kind → Option (List ℕ)
name_by_kind (Some (Source s)) = source_name s
name_by_kind _ = None

-- the name of a local source; nothing if the op is not a local source
abbrev pub local_name : Op → Option (List ℕ)
local_name op = name_by_kind op.kind

-- ---- the trees that are given

-- a name with the tree that is given for it
abbrev pub Local : Type 0
Local = List ℕ × TreeMap

-- the entries of the code's map from names to trees, as a list of pairs
unfoldable pub locals_of : {Z : Type 0} → List (String Z × TreeMap) → List Local
locals_of entries = map (λ e. (string_bytes e.0, e.1)) entries

-- the tree that is given for a name, if there is one
abbrev pub tree_of_local : List Local → List ℕ → Option TreeMap
tree_of_local locals name = lookup (bytes_eq name) locals

-- the list after a tree is given for a name: if the name had a tree, the new tree replaces it; else the name is added at the end, with the new tree
abbrev pub with_local : List Local → List ℕ → TreeMap → List Local
with_local locals name tree = insert_entry bytes_eq locals name tree
