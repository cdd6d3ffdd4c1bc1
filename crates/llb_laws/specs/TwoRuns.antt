-- Two runs of one definition on the same local trees. The premises of the laws of two graphs and of two boards hold of them, and so do the conclusions.
use Rattle.std.specs.Prelude.{◌≡◌, ℕ, ◌<◌, ◌==◌, Bool, true, List, [], length, fold, Option, Some, None, if◌then◌else◌, option_map, Result, Ok, Err, slice_get}
use Rattle.llb_tree.specs.Tree.{TreeMap}
use Rattle.llb_loader.specs.declared.graph.Edge.{Edge}
use Rattle.llb_loader.specs.FirstMissingTree.{missing_local}
use Rattle.llb_loader.specs.Graph.{Numbered}
use Rattle.llb_loader.specs.LoadResult.{IsGraphIn}
use Rattle.llb_loader.specs.LocalSources.{Local}
use Rattle.llb_events.specs.declared.event.Event.{Event}
use Rattle.llb_model.specs.Program.{Build}
use Rattle.llb_model.specs.Outcome.{Ending, is_plain, outcome}
use Rattle.llb_model.specs.State.{Settled}
use Rattle.llb_board.specs.BoardValue.{BoardValue, opened}
use Rattle.llb_board.specs.PlainVertexJobs.{plain_job}
use Rattle.llb_board.specs.UndoableEvents.{walk_of}
use Rattle.llb_board.specs.declared.board.undoable_event.Reply.{Reply}
use Rattle.llb_board.specs.declared.fault.WalkFault.{WalkFault}
use Rattle.llb_laws.specs.AlikeTrees.{BothLists}
use Rattle.llb_laws.specs.BoardOutcomes.{EndAlike, KeepsPlain, output_on}
use Rattle.llb_laws.specs.Definitions.{HaveEntriesInSomeOrder, HaveOneResult, IsRewritten, LoadToOneEnd}
use Rattle.llb_laws.specs.DefinitionParts.{IsNotRefused}
use Rattle.llb_laws.specs.Digests.{HaveOneDigest, HaveOneOutcome, HaveSameSources, IsPartOf, LoadWithoutCollision}
use Rattle.llb_laws.specs.Jobs.{WorkedElsewhereLands, given_to}
use Rattle.llb_laws.specs.Keys.{AreKept, HaveOneKey, HaveOneWork, KeptOutputsServe, TreesDoNotCollide}
use Rattle.llb_laws.specs.Matchings.{By, IsMatched, output_at}
use Rattle.llb_laws.specs.RenamedAndKeptSources.{Copied, HaveOrigins, HasTreesRenamed, IsRenamed}

-- ---- one run

-- the board to which a call of `walk` led; the board before the call, if the event was refused
abbrev pub board_by : BoardValue → Result (BoardValue × Reply) WalkFault → BoardValue
board_by b (Ok (c, r)) = c
board_by b (Err e) = b

-- the board after an event; if the event is refused, the board is as before
abbrev pub board_after : BoardValue → Event → BoardValue
board_after b e = board_by b (walk_of b e)

-- the board after these events, without those that are refused
abbrev pub after_each : BoardValue → List Event → BoardValue
after_each b es = fold board_after b es

-- this definition is loaded as the board's graph; the board was opened on these local trees, without caches, and these events were done, if they were granted
pub record IsRunOf (d : List ℕ) (ls : List Local) (workers : ℕ) (es : List Event) (b : BoardValue) : Type 0 where
  pub graph : Numbered
  pub loaded : IsGraphIn d graph
  pub ran : b ≡ after_each (opened (record { graph = graph; locals = ls }) workers []) es

-- the definition is loaded as a graph in which some local source has no tree
pub record LacksTree (d : List ℕ) (ls : List Local) : Type 0 where
  pub graph : Numbered
  pub loaded : IsGraphIn d graph
  pub name : List ℕ
  pub missing : missing_local ls graph.vertices ≡ Some name

-- ---- the premises of the laws

-- a matching: each vertex with the vertex of the other graph that has its number
abbrev pub same_number : ℕ → ℕ → Bool
same_number v w = v == w

-- the outputs of a board's vertices with no cache mount at or before them
abbrev pub plain_outputs : BoardValue → Edge → Option TreeMap
plain_outputs b e = if is_plain b.build e.vertex then output_on b e else None

-- premises on two graphs, of a definition and of itself: entries do not collide, the last entries are the same, and so are all entries, in some order; each
-- entry is rewritten to itself; vertices with the same number are renamed sources, or equal
pub record MeetGraphs (d : List ℕ) (g h : Numbered) : Type 0 where
  pub apart : LoadWithoutCollision d g d h
  pub ends : LoadToOneEnd d g d h
  pub part : IsPartOf d d
  pub order : HaveEntriesInSomeOrder d d
  pub rewritten : IsRewritten (λ entry. entry) (λ name. name) d d
  pub renamed : BothLists (IsRenamed (λ name. name)) g.vertices h.vertices

-- premises on two builds: vertices with the same number have the same digest, the same trees of sources and, whatever makes the digests of trees, the same key;
-- to relate vertices by number is a matching; each vertex is a copy of the one with its number; sources have the same trees
pub record MeetBuilds (b c : Build) : Type 0 where
  pub digests : (v : ℕ) → v < length b.graph.vertices → HaveOneDigest b.graph v c.graph v
  pub sources : (v : ℕ) → HaveSameSources b.graph v b.locals c.locals
  pub keys : (digest_of : TreeMap → List ℕ) (v : ℕ) → v < length b.graph.vertices → HaveOneKey digest_of b v c v
  pub trees : (digest_of : TreeMap → List ℕ) → TreesDoNotCollide digest_of b.locals c.locals
  pub matched : IsMatched b c (By same_number)
  pub copies : HaveOrigins (output_at b) b c Copied
  pub under : HasTreesRenamed (λ name. name) b.graph b.locals c.locals

-- premises on a board and a build: the board's outputs with no cache mount at or before them are kept for the build, whatever makes the digests of trees; and
-- each vertex of the build is a copy of the board's vertex with its number
pub record MeetOutputs (b : BoardValue) (c : Build) : Type 0 where
  pub kept : (digest_of : TreeMap → List ℕ) → AreKept digest_of b c (plain_outputs b)
  pub copies : HaveOrigins (output_on b) b.build c Copied
  pub plain : KeepsPlain b c.graph Copied

-- ---- what the laws conclude

-- conclusions on two graphs: vertices with the same number have the same outcome, by digests, by the names of sources and as copies, the same work by their
-- keys, and the same jobs but for the workers; the results are the same, by the last entry and by all entries in some order; and the definition is not refused,
-- by its parts and by their order
pub record AgreeAsGraphs (d : List ℕ) (b c : Build) : Type 0 where
  pub outcomes : (v : ℕ) → v < length b.graph.vertices → HaveOneOutcome b v c v
  pub works : (digest_of : TreeMap → List ℕ) (v : ℕ) → v < length b.graph.vertices → HaveOneWork b v c v
  pub jobs : (v a w : ℕ) → v < length b.graph.vertices → plain_job c w v ≡ option_map (given_to w v) (plain_job b a v)
  pub by_name : (v : ℕ) → outcome b v ≡ outcome c v
  pub by_origin : (v : ℕ) → v < length b.graph.vertices → outcome b v ≡ outcome c v
  pub by_last : HaveOneResult b c
  pub by_order : HaveOneResult b c
  pub loads : IsNotRefused d
  pub loads_too : IsNotRefused d

-- vertex v has equal endings once it is settled on both boards, if no cache mount is at or before it
abbrev pub HasOneEnding : BoardValue → BoardValue → ℕ → Type 0
HasOneEnding b c v = is_plain b.build v ≡ true
    → (s t : Ending) → slice_get b.state.statuses v ≡ Some (Settled s) → slice_get c.state.statuses v ≡ Some (Settled t) → s ≡ t

-- conclusions on two boards: vertices with the same number end alike, by digests, by the matching, by the names of sources, and as copies; so do the results,
-- by the last entry and by rewriting each entry to itself; an outcome that was worked over the first graph lands on the second board; and kept outputs serve
pub record AgreeAsBoards (b c : BoardValue) : Type 0 where
  pub by_digest : (v : ℕ) → v < length b.build.graph.vertices → HasOneEnding b c v
  pub by_matching : (v : ℕ) → HasOneEnding b c v
  pub by_name : (v : ℕ) → EndAlike b c v v
  pub by_origin : (v : ℕ) → v < length b.build.graph.vertices → EndAlike b c v v
  pub by_part : HasOneEnding b c b.build.graph.result.vertex
  pub by_entry : EndAlike b c b.build.graph.result.vertex c.build.graph.result.vertex
  pub lands : WorkedElsewhereLands b.build.graph c
  pub serve : KeptOutputsServe b c.build.graph c.build.graph

-- the premises of the laws hold of two boards of this definition, and so do the conclusions
pub record AgreeByLaws (d : List ℕ) (b c : BoardValue) : Type 0 where
  pub graphs : MeetGraphs d b.build.graph c.build.graph
  pub builds : MeetBuilds b.build c.build
  pub outputs : MeetOutputs b c.build
  pub agree : AgreeAsGraphs d b.build c.build
  pub ends : AgreeAsBoards b c
