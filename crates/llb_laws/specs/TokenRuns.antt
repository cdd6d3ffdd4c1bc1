-- How the contents of local trees and caches reappear in whole runs, with caches, for any workers and any order of events.
use Rattle.std.specs.Prelude.{◌≡◌, ◌⊎◌, ℕ, ◌+◌, Bool, true, false, List, [], Option, Some, slice_get}
use Rattle.std.specs.List.{All, list_any}
use Rattle.llb_tree.specs.Tree.{TreeMap}
use Rattle.llb_loader.specs.declared.graph.Vertex.{Vertex}
use Rattle.llb_loader.specs.ReachedRows.{Reached}
use Rattle.llb_loader.specs.Graph.{Numbered, links}
use Rattle.llb_loader.specs.LocalSources.{Local, local_name, tree_of_local}
use Rattle.llb_events.specs.declared.event.Event.{Event}
use Rattle.llb_model.specs.Caches.{Instance, Store, content, Has}
use Rattle.llb_model.specs.TwoCacheModels.{store_of}
use Rattle.llb_model.specs.Program.{Build, Need, needs_of, program_of}
use Rattle.llb_model.specs.Outcome.{output_in}
use Rattle.llb_model.specs.State.{State, opening, ending_at}
use Rattle.llb_model.specs.Table.{Reply}
use Rattle.llb_model.specs.Run.{run, is_complete, chosen}
use Rattle.llb_model.specs.WholeRunLaws.{AreChosen}
use Rattle.llb_board.specs.BoardValue.{BoardValue, replies_in}
use Rattle.llb_stepper.specs.Records.{record_text}
use Rattle.llb_laws.specs.AlikeTrees.{IsKept, BothOptions, BothLists, AreAlike, RelatesStep}
use Rattle.llb_laws.specs.ContentLaws.{By, ExpandsTo, spelled, HasNames, IsLiteral, AreExchanged, step_digests, step_writes_mark}
use Rattle.llb_laws.specs.AlikeStates.{AreAlikeStores, AreAlikeStates, AreAlikeReplies, AnswerAlike, AreAlikeRuns}

-- ---- whole runs

-- a graph with a list of local trees
abbrev pub with_locals : Numbered → List Local → Build
with_locals g ls = record { graph = g; locals = ls }

-- the state and the replies after these events, if each is granted; at first no vertex has run, and the caches have the trees of this store
abbrev pub run_from : Numbered → List Local → ℕ → Store → List Event → Option (State × List Reply)
run_from g ls workers store es = run (with_locals g ls) (opening (with_locals g ls) (record { workers = workers; store = store })) es

-- on both lists of local trees, with caches of both stores, the same events are granted, and the two runs differ only in contents, which R relates
abbrev pub HaveAlikeRuns : (List ℕ → List ℕ → Type 0) → Numbered → List Local → List Local → ℕ → Store → Store → Type 0
HaveAlikeRuns R g ls ms workers s t = (es : List Event)
    → BothOptions (AreAlikeRuns R (with_locals g ls) (with_locals g ms)) (run_from g ls workers s es) (run_from g ms workers t es)

-- ---- a law for each relation between contents

-- `RelatesStep` holds of each micro-step of the graph: R relates to itself what is written without being read; if digests are made, R relates those of related
-- contents
abbrev pub RelatesAllWritten : (List ℕ → List ℕ → Type 0) → Numbered → Type 0
RelatesAllWritten R g = (k : ℕ) (x : Vertex) → slice_get g.vertices k ≡ Some x → All (RelatesStep R) (program_of x).steps

-- each local source of the graph has trees in both lists that are equal except for contents, which R relates (`AreAlike`), or has no tree in either
abbrev pub HaveAlikeLocals : (List ℕ → List ℕ → Type 0) → Numbered → List Local → List Local → Type 0
HaveAlikeLocals R g ls ms = (k : ℕ) (x : Vertex) (name : List ℕ) → slice_get g.vertices k ≡ Some x → local_name x.op ≡ Some name
    → BothOptions (AreAlike R) (tree_of_local ls name) (tree_of_local ms name)

-- if `RelatesAllWritten` holds, and local trees and caches at the opening differ only in related contents, so do the runs, event by event
abbrev pub HandsRunsOn : (List ℕ → List ℕ → Type 0) → Numbered → Type 0
HandsRunsOn R g = (ls ms : List Local) (workers : ℕ) (s t : Store) → RelatesAllWritten R g → HaveAlikeLocals R g ls ms → AreAlikeStores R s t
    → HaveAlikeRuns R g ls ms workers s t

-- `HandsRunsOn` holds for every relation that a test decides and that appending keeps
abbrev pub HandsRunRelationsOn : Numbered → Type 0
HandsRunRelationsOn g = (test : List ℕ → List ℕ → Bool) → IsKept (By test) → HandsRunsOn (By test) g

-- no vertex of the graph makes a digest of contents
abbrev pub MakesNoDigestAtAll : Numbered → Type 0
MakesNoDigestAtAll g = (k : ℕ) (x : Vertex) → slice_get g.vertices k ≡ Some x → list_any step_digests (program_of x).steps ≡ false

-- if no digest is made, and pieces of the contents of local trees and caches are replaced, the runs differ only by such replacements
abbrev pub HandsRunContentsOn : Numbered → Type 0
HandsRunContentsOn g = (pairs : List (List ℕ × List ℕ)) (ls ms : List Local) (workers : ℕ) (s t : Store) → MakesNoDigestAtAll g
    → HaveAlikeLocals (AreExchanged pairs) g ls ms → AreAlikeStores (AreExchanged pairs) s t → HaveAlikeRuns (AreExchanged pairs) g ls ms workers s t

-- ---- tokens

-- no vertex of the graph has a micro-step that writes the byte 255, which begins a token (a number in place of a content), other than by a listing of what is
-- no name
abbrev pub WritesNoMarkAtAll : Numbered → Type 0
WritesNoMarkAtAll g = (k : ℕ) (x : Vertex) → slice_get g.vertices k ≡ Some x → list_any step_writes_mark (program_of x).steps ≡ false

-- vertex k makes a digest of contents
pub record MakesDigestAt (g : Numbered) (k : ℕ) : Type 0 where
  pub vertex : Vertex
  pub there : slice_get g.vertices k ≡ Some vertex
  pub digests : list_any step_digests (program_of vertex).steps ≡ true

-- some vertex makes a digest of contents
abbrev pub MakesDigest : Numbered → Type 0
MakesDigest g = (k : ℕ) × MakesDigestAt g k

-- vertex k mounts a cache
pub record MountsCacheAt (g : Numbered) (k : ℕ) : Type 0 where
  pub vertex : Vertex
  pub there : slice_get g.vertices k ≡ Some vertex
  pub need : Need
  pub has : Has (needs_of vertex) need

-- what vertex k reads has to be given by value: the vertex is at or before one that makes a digest or, if any vertex of the graph makes a digest, at or before
-- one that mounts a cache
pub record IsByValue (g : Numbered) (k : ℕ) : Type 0 where
  pub top : ℕ
  pub before : Reached (links g.vertices) top k
  pub cause : MakesDigestAt g top ⊎ (MountsCacheAt g top × MakesDigest g)

-- each local source that has to be given by value (`IsByValue`) has equal trees in both lists, without the byte 255, which begins a token, or none in either
abbrev pub HaveAlikeValues : Numbered → List Local → List Local → Type 0
HaveAlikeValues g ls ms = (k : ℕ) (x : Vertex) (name : List ℕ) → IsByValue g k → slice_get g.vertices k ≡ Some x → local_name x.op ≡ Some name
    → BothOptions (AreAlike IsLiteral) (tree_of_local ls name) (tree_of_local ms name)

-- if the vertex is a local source, its tree has only names in its paths (`HasNames`)
abbrev pub SourceHasNames : List Local → Vertex → Type 0
SourceHasNames ls x = (name : List ℕ) (t : TreeMap) → local_name x.op ≡ Some name → tree_of_local ls name ≡ Some t → HasNames t

-- the tree of each local source of the graph has only names in its paths (`HasNames`)
abbrev pub LocalsHaveNames : Numbered → List Local → Type 0
LocalsHaveNames g ls = All (SourceHasNames ls) g.vertices

-- the tree of each cache instance has only names in its paths (`HasNames`)
abbrev pub CachesHaveNames : Store → Type 0
CachesHaveNames s = (p : Instance) (t : TreeMap) → content s p ≡ Some t → HasNames t

-- The local trees and caches on the left have tokens for some of the contents of those on the right, and only names in their paths. Sources that have to be
-- given by value (`IsByValue`) have equal trees on both sides, without the byte 255, which begins a token; and so have the caches, if some vertex makes a
-- digest.
pub record HaveTokens (table : ℕ → List ℕ) (g : Numbered) (ls ms : List Local) (s t : Store) : Type 0 where
  pub sources : HaveAlikeLocals (ExpandsTo (spelled table)) g ls ms
  pub values : HaveAlikeValues g ls ms
  pub caches : AreAlikeStores (ExpandsTo (spelled table)) s t
  pub literal : MakesDigest g → AreAlikeStores IsLiteral s t
  pub local_names : LocalsHaveNames g ls
  pub cache_names : CachesHaveNames s

-- if tokens stand for contents in local trees and caches (`HaveTokens`), they do so in all that a run leads to, and the same events are granted
abbrev pub HandsRunTokensOn : Numbered → Type 0
HandsRunTokensOn g = (table : ℕ → List ℕ) (ls ms : List Local) (workers : ℕ) (s t : Store) → WritesNoMarkAtAll g → HaveTokens table g ls ms s t
    → HaveAlikeRuns (ExpandsTo (spelled table)) g ls ms workers s t

-- if there are no caches at the opening (the store of no rows), the premises of `HaveTokens` on the local trees suffice
abbrev pub NeedsNoCaches : Numbered → Type 0
NeedsNoCaches g = (table : ℕ → List ℕ) (ls ms : List Local) → HaveAlikeLocals (ExpandsTo (spelled table)) g ls ms → HaveAlikeValues g ls ms
    → LocalsHaveNames g ls → HaveTokens table g ls ms (store_of []) (store_of [])

-- ---- a board over tokens

-- the tree of the graph's result in a state: none if the result's vertex is not done
abbrev pub result_tree : Numbered → State → Option TreeMap
result_tree g s = output_in (ending_at s.statuses g.result.vertex) g.result.index

-- for two lists of replies to the same events: the lines that are printed for each event are the same with both replies
abbrev pub PrintAlike : List Vertex → List Event → List Reply → List Reply → Type 0
PrintAlike vertices es rs qs = (i : ℕ) (e : Event) (r q : Reply) → slice_get es i ≡ Some e → slice_get rs i ≡ Some r → slice_get qs i ≡ Some q
    → record_text vertices (i + 1) (e, r) ≡ record_text vertices (i + 1) (e, q)

-- The record of a board over tokens is granted as well on the contents themselves (the local trees `ms`, and caches with the trees of `t`), with the same
-- printed lines, and leads to a state that differs from the board's only in that tokens are expanded. Any tree that is the board's result with each token
-- replaced by its content is the result in that state; the same holds for each instance of a cache. Each further event is granted in both or refused in both,
-- for the same cause. The board is complete exactly if that state is, and both have the same chosen event, which a run on one thread does next; so if the
-- record is a run on one thread, it is so on the contents.
pub record StandsForContents (table : ℕ → List ℕ) (b : BoardValue) (ms : List Local) (t : Store) : Type 0 where
  pub state : State
  pub replies : List Reply
  pub leads : run_from b.build.graph ms b.opening.workers t b.events ≡ Some (state, replies)
  pub alike : AreAlikeStates (ExpandsTo (spelled table)) b.state state
  pub said : BothLists (AreAlikeReplies (ExpandsTo (spelled table))) (replies_in b) replies
  pub lines : PrintAlike b.build.graph.vertices b.events (replies_in b) replies
  pub answers : AnswerAlike (ExpandsTo (spelled table)) b.build (with_locals b.build.graph ms) b.state state
  pub result : (tree other : TreeMap) → result_tree b.build.graph b.state ≡ Some tree → AreAlike (ExpandsTo (spelled table)) tree other
      → result_tree b.build.graph state ≡ Some other
  pub caches : (p : Instance) (tree other : TreeMap) → content b.state.store p ≡ Some tree → AreAlike (ExpandsTo (spelled table)) tree other
      → content state.store p ≡ Some other
  pub complete : is_complete b.build b.state ≡ is_complete (with_locals b.build.graph ms) state
  pub next : chosen b.build b.state ≡ chosen (with_locals b.build.graph ms) state
  pub alone : AreChosen b.build (opening b.build b.opening) b.events
      → AreChosen (with_locals b.build.graph ms) (opening (with_locals b.build.graph ms) (record { workers = b.opening.workers; store = t })) b.events

-- if the graph writes no byte 255, the board's local trees and caches may be replaced by those for which they stand (`HaveTokens`): `StandsForContents`
abbrev pub BoardStandsForContents : BoardValue → Type 0
BoardStandsForContents b = (table : ℕ → List ℕ) (ms : List Local) (t : Store) → WritesNoMarkAtAll b.build.graph
    → HaveTokens table b.build.graph b.build.locals ms b.opening.store t → StandsForContents table b ms t
