-- What `show --matches` prints for two definitions: for each vertex of the second the vertex of the first that it matches.
use Rattle.std.specs.Prelude.{◌≡◌, ◌⊎◌, ◌<◌, ℕ, List, ◌++◌, codes, length, Option, Some, None, slice_get}
use Rattle.std.specs.List.{flat_map, enumerate_from}
use Rattle.std.specs.Fmt.{decimal}
use Rattle.llb_ops.specs.declared.fault.OpFault.TheVariants.{OverLimit}
use Rattle.llb_loader.specs.declared.fault.LoadFault.{LoadFault}
use Rattle.llb_loader.specs.declared.fault.LoadFault.TheVariants.{Definition}
use Rattle.llb_loader.specs.declared.graph.Vertex.{Vertex}
use Rattle.llb_loader.specs.Graph.{Numbered}
use Rattle.llb_laws.specs.MatchingMarks.{LoadMatched}
use Rattle.llb_laws.specs.Refusals.{IsRefusalOfTwo}
use Rattle.llb_commands.specs.Assembly.{Ends}
use Rattle.llb_commands.specs.CallStreams.{Io}
use Rattle.llb_commands.specs.Sources.{limit}
use Rattle.llb_commands.specs.declared.fault.ProgramFault.{ProgramFault}
use Rattle.llb_commands.specs.declared.fault.ProgramFault.TheVariants as fault

-- the text of a vertex of the first graph, which has this number: a space, the number, a space, and its digest; a space and a dash if there is no such vertex
abbrev pub old_text : ℕ → Option Vertex → List ℕ
old_text p (Some v) = codes " " ++ (decimal p ++ (codes " " ++ v.digest))
old_text p None = codes " -"

-- the text of a partner, which is the number of a vertex of the first graph, if that graph has so many vertices
abbrev pub partner_text : List Vertex → Option ℕ → List ℕ
partner_text olds (Some p) = old_text p (slice_get olds p)
partner_text olds None = codes " -"

-- the line of the vertex with this number
abbrev pub match_line : List Vertex → ℕ → Vertex → Option ℕ → List ℕ
match_line olds number v partner = decimal number ++ (codes " " ++ (v.digest ++ (codes " matches" ++ (partner_text olds partner ++ codes "\n"))))

-- the line of a vertex that is paired with its number
abbrev pub matched_line : List Vertex → List ℕ → ℕ × Vertex → List ℕ
matched_line olds partners p = match_line olds p.0 p.1 (slice_get partners p.0)

-- the whole text: the lines of the vertices of the second graph, numbered from 0
abbrev pub match_text : List Vertex → List Vertex → List ℕ → List ℕ
match_text olds vertices partners = flat_map (matched_line olds partners) (enumerate_from 0 vertices)

-- the two definitions are loaded as graphs, and `text` says of each vertex of the second which vertex of the first it matches (`LoadMatched`)
pub record IsMatchText (old bytes text : List ℕ) : Type 0 where
  pub first : Numbered
  pub second : Numbered
  pub partners : List ℕ
  pub matched : LoadMatched old first bytes second partners
  pub same : text ≡ match_text first.vertices second.vertices partners

-- there are more bytes than the program reads, and the fault, 81 13, says so
abbrev pub IsOverLimit : ProgramFault → List ℕ → Type 0
IsOverLimit p bytes = (limit < length bytes) × (p ≡ fault.Refused (Definition OverLimit))

-- one of the two definitions is refused: the first or else the second by loading; or the second is too long, so neither is loaded
abbrev pub IsRefusedOfTwo : List ℕ → ProgramFault → List ℕ → Type 0
IsRefusedOfTwo old p bytes = ((e : LoadFault) × IsRefusalOfTwo old bytes e × (p ≡ fault.Refused e)) ⊎ IsOverLimit p bytes

-- How `show --matches` ends for a first definition that was read: it writes what the vertices of the second, which is its input, match.
abbrev pub Matches : List ℕ → Io → ℕ → Type 0
Matches old = Ends (IsMatchText old) (IsRefusedOfTwo old)
