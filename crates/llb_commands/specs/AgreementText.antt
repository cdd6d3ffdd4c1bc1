-- What `show --agrees` prints for a graph and trees of its local sources: for each vertex whether it reads the same of them and of a newer tree.
use Rattle.std.specs.Prelude.{◌≡◌, ℕ, Bool, true, false, List, ◌++◌, codes, slice_index_or}
use Rattle.std.specs.List.{flat_map, enumerate_from}
use Rattle.std.specs.Fmt.{decimal}
use Rattle.llb_tree.specs.Tree.{TreeMap}
use Rattle.llb_loader.specs.declared.graph.Vertex.{Vertex}
use Rattle.llb_loader.specs.Graph.{Numbered}
use Rattle.llb_loader.specs.LoadResult.{IsGraphIn}
use Rattle.llb_loader.specs.LocalSources.{Local}
use Rattle.llb_laws.specs.AgreedSources.{AreAgreements}
use Rattle.llb_commands.specs.Assembly.{Ends}
use Rattle.llb_commands.specs.CallStreams.{Io}
use Rattle.llb_commands.specs.ProgramOutput.{IsRefused}

-- the word for whether a vertex reads the same
abbrev pub agreed_text : Bool → List ℕ
agreed_text true = codes "yes"
agreed_text false = codes "no"

-- the line of the vertex with this number
abbrev pub agreement_line : ℕ → Vertex → Bool → List ℕ
agreement_line number v agrees = decimal number ++ (codes " " ++ (v.digest ++ (codes " agrees " ++ (agreed_text agrees ++ codes "\n"))))

-- the line of a vertex that is paired with its number
abbrev pub agreed_line : List Bool → ℕ × Vertex → List ℕ
agreed_line marks p = agreement_line p.0 p.1 (slice_index_or marks p.0 false)

-- the whole text: the lines of the vertices, numbered from 0
abbrev pub agreement_text : List Vertex → List Bool → List ℕ
agreement_text vertices marks = flat_map (agreed_line marks) (enumerate_from 0 vertices)

-- `text` says of each vertex of graph g whether it reads the same of each local source that has a tree in ls, whether the source has that tree or u
pub record IsAgreementOf (g : Numbered) (ls : List Local) (u : TreeMap) (text : List ℕ) : Type 0 where
  pub marks : List Bool
  pub are : AreAgreements g.vertices ls u marks
  pub same : text ≡ agreement_text g.vertices marks

-- the bytes are loaded as a graph, and `text` says which of its vertices agree
abbrev pub IsAgreementText : List Local → TreeMap → List ℕ → List ℕ → Type 0
IsAgreementText ls u bytes text = (g : Numbered) × IsGraphIn bytes g × IsAgreementOf g ls u text

-- How `show --agrees` ends, on these trees of local sources and this newer tree: it writes which vertices of the graph of a definition agree.
abbrev pub Agrees : List Local → TreeMap → Io → ℕ → Type 0
Agrees ls u = Ends (IsAgreementText ls u) IsRefused
