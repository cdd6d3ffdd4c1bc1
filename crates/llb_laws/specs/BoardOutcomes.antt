-- How vertices end on two boards: vertices with the same digest, that a matching relates, after renamed sources, or after outputs that sources replace; and the
-- results of definitions with the same last entry, or of which one is the other renamed.
use Rattle.std.specs.Prelude.{◌≡◌, ℕ, ◌<◌, List, length, Bool, true, Option, Some, slice_get}
use Rattle.llb_tree.specs.Tree.{TreeMap}
use Rattle.llb_loader.specs.declared.graph.Edge.{Edge}
use Rattle.llb_loader.specs.Graph.{Numbered}
use Rattle.llb_loader.specs.LoadResult.{IsGraphIn}
use Rattle.llb_model.specs.Outcome.{Ending, outcome, output_in, is_plain}
use Rattle.llb_model.specs.State.{Settled, ending_at}
use Rattle.llb_board.specs.BoardValue.{BoardValue}
use Rattle.llb_laws.specs.Digests.{HaveOneDigest, HaveSameSources, IsPartOf}
use Rattle.llb_laws.specs.Matchings.{IsMatched, By}
use Rattle.llb_laws.specs.AlikeTrees.{BothLists}
use Rattle.llb_laws.specs.RenamedAndKeptSources.{Origin, Kept, Copied, HaveOrigins, HasTreesRenamed, IsRenamed}
use Rattle.llb_laws.specs.Definitions.{IsRewritten, LoadToOneEnd}

-- two settled vertices with the same digest have equal endings, if no cache mount is at or before them, and the sources at or before them have the same
-- trees on both boards
abbrev pub SettleAlike : BoardValue → BoardValue → Type 0
SettleAlike b c = (v w : ℕ) → HaveOneDigest b.build.graph v c.build.graph w → HaveSameSources b.build.graph v b.build.locals c.build.locals
    → is_plain b.build v ≡ true
    → (s t : Ending) → slice_get b.state.statuses v ≡ Some (Settled s) → slice_get c.state.statuses w ≡ Some (Settled t) → s ≡ t

-- two settled vertices that a matching of the two builds relates have equal endings, if no cache mount is at or before either of them
abbrev pub MatchedSettleAlike : BoardValue → BoardValue → Type 0
MatchedSettleAlike b c = (test : ℕ → ℕ → Bool) → IsMatched b.build c.build (By test) → (v w : ℕ) → test v w ≡ true
    → is_plain b.build v ≡ true → is_plain c.build w ≡ true
    → (s t : Ending) → slice_get b.state.statuses v ≡ Some (Settled s) → slice_get c.state.statuses w ≡ Some (Settled t) → s ≡ t

-- the output that an edge of a board's graph leads to, once the edge's vertex is done (`Board::output`)
abbrev pub output_on : BoardValue → Edge → Option TreeMap
output_on b e = output_in (ending_at b.state.statuses e.vertex) e.index

-- no cache mount is at or before a vertex of board b whose output is replaced in graph h
abbrev pub KeepsPlain : BoardValue → Numbered → (ℕ → Origin) → Type 0
KeepsPlain b h origin = (w : ℕ) (kept : Edge) → w < length h.vertices → origin w ≡ Kept kept → is_plain b.build kept.vertex ≡ true

-- vertex v of board b and vertex w of board c have the same plain outcome; and once both are settled, they have equal endings, if no cache mount is at or
-- before either of them
pub record EndAlike (b c : BoardValue) (v w : ℕ) : Type 0 where
  pub outcomes : outcome b.build v ≡ outcome c.build w
  pub endings : is_plain b.build v ≡ true → is_plain c.build w ≡ true
      → (s t : Ending) → slice_get b.state.statuses v ≡ Some (Settled s) → slice_get c.state.statuses w ≡ Some (Settled t) → s ≡ t

-- if local sources of board c have the trees of outputs of board b, with no cache mount at or before these, and all other vertices of c are copies of vertices
-- of b (`HaveOrigins`), then each copy ends like its original (`EndAlike`)
abbrev pub KeptOutputsStandIn : BoardValue → BoardValue → Type 0
KeptOutputsStandIn b c = (origin : ℕ → Origin) → HaveOrigins (output_on b) b.build c.build origin → KeepsPlain b c.build.graph origin
    → (v w : ℕ) → w < length c.build.graph.vertices → origin w ≡ Copied v → EndAlike b c v w

-- if board c's graph is that of b with its local sources renamed, and the trees are given under the new names, each vertex ends alike on both (`EndAlike`)
abbrev pub RenamedSettleAlike : BoardValue → BoardValue → Type 0
RenamedSettleAlike b c = (rename : List ℕ → List ℕ) → BothLists (IsRenamed rename) b.build.graph.vertices c.build.graph.vertices
    → HasTreesRenamed rename b.build.graph b.build.locals c.build.locals → (v : ℕ) → EndAlike b c v v

-- if the second board's definition is the first's with its entries rewritten, and each source's tree is given under its new name, the results are outputs with
-- the same number, of vertices that end alike on both boards (`EndAlike`)
abbrev pub RewritingSettlesAlike : List ℕ → BoardValue → List ℕ → BoardValue → Type 0
RewritingSettlesAlike d b e c = IsGraphIn d b.build.graph → IsGraphIn e c.build.graph → (rewrite rename : List ℕ → List ℕ) → IsRewritten rewrite rename d e
    → HasTreesRenamed rename b.build.graph b.build.locals c.build.locals
    → EndAlike b c b.build.graph.result.vertex c.build.graph.result.vertex × (b.build.graph.result.index ≡ c.build.graph.result.index)

-- the vertices of the results of two boards have equal endings once both are settled, and the results are outputs with the same number; if no cache mount is at
-- or before the first result, and the sources at or before it have the same trees on both boards
abbrev pub ResultsSettleAlike : BoardValue → BoardValue → Type 0
ResultsSettleAlike b c = HaveSameSources b.build.graph b.build.graph.result.vertex b.build.locals c.build.locals
    → is_plain b.build b.build.graph.result.vertex ≡ true
    → (s t : Ending) → slice_get b.state.statuses b.build.graph.result.vertex ≡ Some (Settled s)
    → slice_get c.state.statuses c.build.graph.result.vertex ≡ Some (Settled t)
    → (s ≡ t) × (b.build.graph.result.index ≡ c.build.graph.result.index)

-- if each entry of the second board's definition is an entry of the first's, and the last entries are the same, the results are settled alike
abbrev pub PartSettlesAlike : List ℕ → BoardValue → List ℕ → BoardValue → Type 0
PartSettlesAlike d b e c = LoadToOneEnd d b.build.graph e c.build.graph → IsPartOf e d → ResultsSettleAlike b c
