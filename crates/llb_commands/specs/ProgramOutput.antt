-- What the program prints for the bytes that it reads.
use Rattle.std.specs.Prelude.{◌≡◌, ◌≤◌, ◌<◌, ◌⊎◌, ℕ, zero, suc, true, false, List, [], ◌++◌, length, codes, Option, Some, None, IfSome, slice_get}
use Rattle.std.specs.Fmt.{decimal}
use Rattle.llb_tree.specs.Tree.{TreeMap}
use Rattle.llb_loader.specs.declared.fault.LoadFault.{LoadFault}
use Rattle.llb_loader.specs.Graph.{Numbered}
use Rattle.llb_loader.specs.LoadResult.{IsGraphIn, IsRefusalIn}
use Rattle.llb_loader.specs.LocalSources.{Local}
use Rattle.llb_events.specs.declared.fault.VertexFault.{VertexFault}
use Rattle.llb_model.specs.Caches.{no_instances}
use Rattle.llb_model.specs.Program.{Build}
use Rattle.llb_model.specs.Outcome.{Failed, ending_in, outcome, output_in}
use Rattle.llb_model.specs.State.{State, Opening, opening, ending_at}
use Rattle.llb_loader.specs.FirstMissingTree.{missing_local}
use Rattle.llb_events.specs.declared.event.Event.{Event}
use Rattle.llb_model.specs.Table.{Reply}
use Rattle.llb_model.specs.Run.{run, is_complete, StandsPlainly}
use Rattle.llb_model.specs.WholeRunLaws.{HasNoCaches}
use Rattle.llb_treetext.specs.TreeText.{tree_text}
use Rattle.llb_events.specs.FailureText.{failure_text}
use Rattle.llb_board.specs.Statuses.{look_at}
use Rattle.llb_board.specs.declared.status.Status.{Status}
use Rattle.llb_board.specs.declared.status.Status.TheVariants as look
use Rattle.llb_board.specs.Opening.{may_work}
use Rattle.llb_work.specs.SingleThreadDriver.{EndsInClaimOrder}
use Rattle.llb_commands.specs.declared.fault.ProgramFault.{ProgramFault}
use Rattle.llb_commands.specs.declared.fault.ProgramFault.TheVariants as fault
use Rattle.llb_commands.specs.Faults.{TellsWhy}
use Rattle.llb_commands.specs.CallStreams.{Io, Stream, IsKept, IsPartWritten, IsWritten}
use Rattle.llb_session.specs.GraphText.{graph_text}

-- the build of a run: a graph and the local trees
abbrev pub build_of : List Local → Numbered → Build
build_of locals g = record { graph = g; locals = locals }

-- the opening of a run: this number of workers, and caches without instances
abbrev pub run_opening : ℕ → Opening
run_opening workers = record { workers = workers; store = no_instances }

-- The events are a run by one worker, and each is the event that `chosen` of llb_model returns. In the run's last state, s, each vertex and each instance is as
-- if the vertices had been run one after another, in the order of their claims. Every such run ends in state s.
pub record IsAlone (b : Build) (s : State) (events : List Event) : Type 0 where
  pub ends : EndsInClaimOrder b (run_opening 1) events s
  pub only : (es : List Event) (t : State) → EndsInClaimOrder b (run_opening 1) es t → t ≡ s

-- A state in which a run of a build by this number of workers ends: granted events lead to it, and every vertex is done, failed or blocked. Without caches each
-- vertex has its plain outcome in this state, for any number of workers. With one worker the events are the chosen ones, and all such runs end in s: `IsAlone`.
pub record IsEnd (workers : ℕ) (b : Build) (s : State) : Type 0 where
  pub events : List Event
  pub replies : List Reply
  pub leads : run b (opening b (run_opening workers)) events ≡ Some (s, replies)
  pub complete : is_complete b s ≡ true
  pub plain : HasNoCaches b → (v : ℕ) → v < length b.graph.vertices → StandsPlainly (slice_get s.statuses v) (outcome b v)
  pub alone : workers ≡ 1 → IsAlone b s events

-- the tree of a graph's result in a state: none if the result's vertex is not done
abbrev pub result_in : State → Numbered → Option TreeMap
result_in s g = output_in (ending_at s.statuses g.result.vertex) g.result.index

-- the tree of a graph's result, by the plain outcomes
abbrev pub plain_result : Build → Option TreeMap
plain_result b = output_in (ending_in (outcome b b.graph.result.vertex)) b.graph.result.index

-- The bytes are the definition of a graph. A run of the graph on these local trees by this number of workers has ended, and its result is a tree with this
-- text. Then no vertex has failed, and without caches the tree is also the result's tree by the plain outcomes.
pub record Yields (workers : ℕ) (locals : List Local) (bytes text : List ℕ) : Type 0 where
  pub graph : Numbered
  pub loaded : IsGraphIn bytes graph
  pub state : State
  pub ended : IsEnd workers (build_of locals graph) state
  pub tree : TreeMap
  pub result : result_in state graph ≡ Some tree
  pub plainly : HasNoCaches (build_of locals graph) → plain_result (build_of locals graph) ≡ Some tree
  pub none_failed : (v : ℕ) (f : VertexFault) → ending_at state.statuses v ≡ Some (Failed f) → ⊥
  pub printed : text ≡ tree_text tree

-- a vertex whose number is at most v has failed
pub record FailsBy (s : State) (v : ℕ) : Type 0 where
  pub vertex : ℕ
  pub before : vertex ≤ v
  pub fault : VertexFault
  pub failed : ending_at s.statuses vertex ≡ Some (Failed fault)

-- The bytes are the definition of a graph. A run of the graph has ended, and its result is no tree, because a vertex has failed.
pub record YieldsNone (workers : ℕ) (locals : List Local) (bytes : List ℕ) : Type 0 where
  pub graph : Numbered
  pub loaded : IsGraphIn bytes graph
  pub state : State
  pub ended : IsEnd workers (build_of locals graph) state
  pub result : result_in state graph ≡ None
  pub fails : FailsBy state graph.result.vertex

-- the bytes are refused as the definition of a graph, and the fault says why
abbrev pub IsRefused : ProgramFault → List ℕ → Type 0
IsRefused p bytes = (e : LoadFault) × IsRefusalIn bytes e × (p ≡ fault.Refused e)

-- No board can be opened on the graph, and the fault says why: it names the first local source without a tree; or all local sources have a tree, and the number
-- of workers is 0 or more than 64.
abbrev pub IsUnopened : List Local → Numbered → ℕ → ProgramFault → Type 0
IsUnopened locals g workers (fault.MissingLocal name) = missing_local locals g.vertices ≡ Some name
IsUnopened locals g workers fault.Workers = (missing_local locals g.vertices ≡ None) × (may_work workers ≡ false)
IsUnopened locals g workers _ = ⊥

-- no run begins, and the fault says why: the bytes are refused as a definition, or no board can be opened on the graph that they define
abbrev pub IsNotRun : ℕ → List Local → ProgramFault → List ℕ → Type 0
IsNotRun workers locals p bytes = IsRefused p bytes ⊎ ((g : Numbered) × IsGraphIn bytes g × IsUnopened locals g workers p)

-- a run of the graph of these bytes yields a text (`Yields`); a prefix of this text is written, and no more
abbrev pub YieldsPart : ℕ → List Local → Stream → List ℕ → Type 0
YieldsPart workers locals output bytes = (text : List ℕ) × Yields workers locals bytes text × IsPartWritten output text

-- a run of the graph of these bytes yields a text (`Yields`); this text is written, and nothing else
abbrev pub YieldsAll : ℕ → List Local → Stream → List ℕ → Type 0
YieldsAll workers locals output bytes = (text : List ℕ) × Yields workers locals bytes text × IsWritten output text

-- ---- the lines of failures

-- the line of a vertex that has failed
abbrev pub failed_line : ℕ → Option Status → List ℕ
failed_line v (Some (look.Failed f)) = codes "failed " ++ (decimal v ++ (codes " " ++ (failure_text f ++ codes "\n")))
failed_line v _ = []

-- the lines of the failed vertices whose numbers are lower than the given number, by number
unfoldable pub failed_lines : Build → State → ℕ → List ℕ
failed_lines b s zero = []
failed_lines b s (suc v) = failed_lines b s v ++ failed_line v (look_at b s v)

-- the result is no tree, and the lines of all failures are written
abbrev pub FailsAll : ℕ → List Local → Stream → List ℕ → Type 0
FailsAll workers locals errors bytes = (y : YieldsNone workers locals bytes)
    × IsWritten errors (failed_lines (build_of locals y.graph) y.state (length y.graph.vertices))

-- How a run by a number of workers ends. Status 0: the text of the result is written, and nothing else. 1: a vertex failed, so the result is no tree, and
-- nothing is written but the lines of the failures. 2: the bytes are refused, a local tree is missing, or the number of workers is not 1 to 64, and nothing is
-- written but the line with this fault. 3: a device, a thread or memory failed; nothing is written, or a prefix of the text.
abbrev pub Runs : ℕ → List Local → Io → ℕ → Type 0
Runs workers locals io status =
    ((status ≡ 0) × IsKept io.errors × IfSome io.input.before (YieldsAll workers locals io.output))
    ⊎ (((status ≡ 1) × IsKept io.output × IfSome io.input.before (FailsAll workers locals io.errors))
    ⊎ (((status ≡ 2) × IsKept io.output × TellsWhy (IsNotRun workers locals) io.input.before io.errors)
    ⊎ ((status ≡ 3) × (IsKept io.output ⊎ IfSome io.input.before (YieldsPart workers locals io.output)))))

-- the bytes are loaded as a graph, whose text is written, and nothing else
abbrev pub DrawsAll : Stream → List ℕ → Type 0
DrawsAll output bytes = (g : Numbered) × IsGraphIn bytes g × IsWritten output (graph_text g)

-- the bytes are loaded as a graph; a prefix of the text of this graph is written, and no more
abbrev pub DrawsPart : Stream → List ℕ → Type 0
DrawsPart output bytes = (g : Numbered) × IsGraphIn bytes g × IsPartWritten output (graph_text g)

-- How `show` ends. Status 0: the text of the graph is written, and nothing else. 2: the bytes are refused, and nothing is written but the line that says why.
-- 3: a device or memory failed; nothing is written, or a prefix of the text.
abbrev pub Draws : Io → ℕ → Type 0
Draws io status =
    ((status ≡ 0) × IsKept io.errors × IfSome io.input.before (DrawsAll io.output))
    ⊎ (((status ≡ 2) × IsKept io.output × TellsWhy IsRefused io.input.before io.errors)
    ⊎ ((status ≡ 3) × (IsKept io.output ⊎ IfSome io.input.before (DrawsPart io.output))))
