-- The first of a graph's local sources for which no tree is given.
use Rattle.std.specs.Prelude.{ℕ, List, [], ◌∷◌, Option, Some, None, is_some, if◌then◌else◌}
use Rattle.llb_loader.specs.declared.graph.Vertex.{Vertex}
use Rattle.llb_loader.specs.LocalSources.{Local, local_name, tree_of_local}

-- the name if no tree is given for this name; none if a tree is given for the name, or if there is no name
abbrev pub lacks : List Local → Option (List ℕ) → Option (List ℕ)
lacks locals None = None
lacks locals (Some name) = if is_some (tree_of_local locals name) then None else Some name

-- the first value if there is one, else the second value
abbrev pub first_of : {A : Type 0} → Option A → Option A → Option A
first_of (Some x) later = Some x
first_of None later = later

-- the name of the first local source, in the order of the vertices, for which no tree is given
abbrev pub missing_local : List Local → List Vertex → Option (List ℕ)
missing_local locals [] = None
missing_local locals (v ∷ vs) = first_of (lacks locals (local_name v.op)) (missing_local locals vs)
