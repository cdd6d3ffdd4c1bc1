-- What `show --plan` prints for a graph: for each vertex whether what it reads goes by value, and which of its actions write the byte 255.
use Rattle.std.specs.Prelude.{◌≡◌, ◌↔◌, ◌&&◌, ℕ, Bool, true, false, if◌then◌else◌, IsTrue, List, [], ◌++◌, codes, length, slice_index_or}
use Rattle.std.specs.List.{flat_map, enumerate_from, list_any}
use Rattle.std.specs.Fmt.{decimal}
use Rattle.llb_ops.specs.declared.file_op.Action.{Action}
use Rattle.llb_loader.specs.declared.graph.Vertex.{Vertex}
use Rattle.llb_loader.specs.Graph.{Numbered}
use Rattle.llb_loader.specs.LoadResult.{IsGraphIn}
use Rattle.llb_loader.specs.Rules.{kind_actions}
use Rattle.llb_model.specs.Program.{program_of}
use Rattle.llb_laws.specs.ContentLaws.{body_has_mark, step_digests}
use Rattle.llb_laws.specs.TokenPlans.{mounts_cache}
use Rattle.llb_laws.specs.TokenRuns.{IsByValue, MakesDigest, WritesNoMarkAtAll}
use Rattle.llb_commands.specs.Assembly.{Ends}
use Rattle.llb_commands.specs.CallStreams.{Io}
use Rattle.llb_commands.specs.ProgramOutput.{IsRefused}

-- ---- a line

-- how what a vertex reads is given: by value, or with a token in place of each content
abbrev pub way_text : Bool → List ℕ
way_text true = codes "value"
way_text false = codes "token"

-- why what is at or before a vertex is given by value: the vertex makes a digest; or it mounts a cache, and some vertex of the graph makes a digest (`some`);
-- a dash if neither is so
abbrev pub cause_text : Bool → Vertex → List ℕ
cause_text some v =
    if list_any step_digests (program_of v).steps then codes "digest" else if some && mounts_cache v then codes "cache" else codes "-"

-- the number of an action that writes the byte 255, after a space; nothing for any other action
abbrev pub mark_text : ℕ × Action → List ℕ
mark_text p = if body_has_mark p.1.kind then codes " " ++ decimal p.0 else []

-- the numbers of the actions that write the byte 255; a dash if there are none
abbrev pub marks_text : List Action → List ℕ
marks_text actions = if list_any (λ a. body_has_mark a.kind) actions then flat_map mark_text (enumerate_from 0 actions) else codes " -"

-- the line of the vertex with this number; `by_value` says whether what it reads goes by value, and `some` whether some vertex makes a digest
abbrev pub plan_line : ℕ → Vertex → Bool → Bool → List ℕ
plan_line number v by_value some = decimal number ++ (codes " " ++ (v.digest ++ (codes " reads " ++ (way_text by_value
    ++ (codes " cause " ++ (cause_text some v ++ (codes " marks" ++ (marks_text (kind_actions v.op.kind) ++ codes "\n"))))))))

-- the line of a vertex that is paired with its number
abbrev pub planned_line : List Bool → Bool → ℕ × Vertex → List ℕ
planned_line marks some p = plan_line p.0 p.1 (slice_index_or marks p.0 false) some

-- ---- the text

-- the last line, by whether no vertex writes the byte 255
abbrev pub whole_line : Bool → List ℕ
whole_line true = codes "marks no\n"
whole_line false = codes "marks yes\n"

-- the lines of the vertices, numbered from 0
abbrev pub planned_lines : List Vertex → List Bool → Bool → List ℕ
planned_lines vertices marks some = flat_map (planned_line marks some) (enumerate_from 0 vertices)

-- the whole text
abbrev pub plan_text : List Vertex → List Bool → Bool → Bool → List ℕ
plan_text vertices marks some none = planned_lines vertices marks some ++ whole_line none

-- `text` is the plan of graph g: what a vertex reads goes by value exactly if `IsByValue` says so, and the last line says whether a vertex writes the byte 255
pub record IsPlanOf (g : Numbered) (text : List ℕ) : Type 0 where
  pub marks : List Bool
  pub as_many : length marks ≡ length g.vertices
  pub exact : (k : ℕ) → (slice_index_or marks k false ≡ true) ↔ IsByValue g k
  pub some : Bool
  pub digests : IsTrue some ↔ MakesDigest g
  pub none : Bool
  pub unmarked : IsTrue none ↔ WritesNoMarkAtAll g
  pub same : text ≡ plan_text g.vertices marks some none

-- the bytes are loaded as a graph, and `text` is its plan
abbrev pub IsPlanText : List ℕ → List ℕ → Type 0
IsPlanText bytes text = (g : Numbered) × IsGraphIn bytes g × IsPlanOf g text

-- How `show --plan` ends: it writes the plan of the graph of a definition.
abbrev pub Plans : Io → ℕ → Type 0
Plans = Ends IsPlanText IsRefused
