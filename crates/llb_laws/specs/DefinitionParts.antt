-- Parts of loaded definitions that can be loaded too.
use Rattle.std.specs.Prelude.{◌≡◌, ℕ, List, Some, Ok, slice_get}
use Rattle.std.specs.List.{Contains}
use Rattle.std.specs.List.Sorted.{IsPermutation}
use Rattle.llb_wire.specs.Digest.{digest_text}
use Rattle.llb_ops.specs.Definition.{definition_of}
use Rattle.llb_loader.specs.declared.graph.Vertex.{Vertex}
use Rattle.llb_loader.specs.declared.fault.LoadFault.{LoadFault}
use Rattle.llb_loader.specs.Graph.{Numbered}
use Rattle.llb_loader.specs.LoadResult.{IsGraphIn, IsRefusalIn}
use Rattle.llb_laws.specs.Definitions.{HasPart, last_entry}

-- of the entries xs, those from which vertices of the graph are made are among the entries ys
abbrev pub HasVertices : Numbered → List (List ℕ) → List (List ℕ) → Type 0
HasVertices g xs ys = (v : ℕ) (x : Vertex) (entry : List ℕ) → slice_get g.vertices v ≡ Some x → Contains xs entry → digest_text entry ≡ x.digest
    → Contains ys entry

-- no refusal applies to these bytes, so that they are loaded unless memory is refused
abbrev pub IsNotRefused : List ℕ → Type 0
IsNotRefused e = (f : LoadFault) → ¬ IsRefusalIn e f

-- entries that the result does not need can be left out: a definition of some entries of one that is loaded as this graph, with the same last entry and with
-- each entry from which a vertex is made, is not refused
abbrev pub PartIsNotRefused : List ℕ → Numbered → List ℕ → Type 0
PartIsNotRefused d g e = IsGraphIn d g → (xs ys : List (List ℕ)) → definition_of d ≡ Ok xs → definition_of e ≡ Ok ys
    → HasPart xs ys → HasVertices g xs ys → IsNotRefused e

-- entries can be put into another order: a definition of the same entries as one that is loaded, with the same last entry, is not refused
abbrev pub OrderIsNotRefused : List ℕ → Numbered → List ℕ → Type 0
OrderIsNotRefused d g e = IsGraphIn d g → (xs ys : List (List ℕ)) → definition_of d ≡ Ok xs → definition_of e ≡ Ok ys
    → IsPermutation xs ys → last_entry xs ≡ last_entry ys → IsNotRefused e
