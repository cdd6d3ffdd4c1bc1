-- The aim of the whole project (README has it word for word) as one record, `Aim`, with one field or more for each phrase of the aim. The record is about a
-- text, a definition with its entries, the graph that the definition is loaded as, a board and a stepper.
use Rattle.std.specs.Prelude.{◌≡◌, ◌≤◌, ◌<◌, ℕ, List, length, Some, Ok}
use Rattle.llb_ops.specs.Definition.{definition_of}
use Rattle.llb_asm.specs.ItemLines.{kept}
use Rattle.llb_asm.specs.TextGrammar.{SpellsEntries}
use Rattle.llb_loader.specs.Graph.{Numbered}
use Rattle.llb_loader.specs.LoadResult.{IsGraphIn}
use Rattle.llb_model.specs.State.{opening}
use Rattle.llb_model.specs.Table.{Reply}
use Rattle.llb_model.specs.Run.{run}
use Rattle.llb_board.specs.BoardValue.{BoardValue, Replays}
use Rattle.llb_board.specs.Laws.{SettledArePlain}
use Rattle.llb_board.specs.MachinePromise.{LockedOnce}
use Rattle.llb_stepper.specs.Replies.{RepliesAreRecorded}
use Rattle.llb_stepper.specs.Records.{RecordIsTheRun, ReplaysOnAStepper}
use Rattle.llb_stepper.specs.Stepping.{Stepping, PastIsTheRecords, IsReplayed}
use Rattle.llb_session.specs.GoOutput.{GoPrintsTheRun}
use Rattle.llb_commands.specs.Assembly.{IsAssembled}

-- The definition is accepted: it is loaded as the graph. The machine's board and the stepper's board are both over this graph, each with some local trees.
pub record IsAccepted (definition : List ℕ) (graph : Numbered) (board : BoardValue) (stepper : Stepping) : Type 0 where
  pub loaded : IsGraphIn definition graph
  pub board_over : board.build.graph ≡ graph
  pub stepper_over : stepper.board.build.graph ≡ graph

-- The property holds for every board over the graph whose events lead, by the table, from the board's opening state to the board's state. So the property
-- holds for all local trees, any number of workers, and every interleaving of events.
abbrev pub AfterAll : Numbered → (BoardValue → Type 0) → Type 0
AfterAll graph Holds = (b : BoardValue) (replies : List Reply) → b.build.graph ≡ graph
    → run b.build (opening b.build b.opening) b.events ≡ Some (b.state, replies) → Holds b

-- If a text is read as the entries of the definition, then the bytes that the text is assembled to are loaded as the graph, and as no other graph.
abbrev pub LoadsAsOne : List ℕ → List ℕ → List (List ℕ) → Numbered → Type 0
LoadsAsOne text definition entries graph = SpellsEntries (kept text) entries → definition_of definition ≡ Ok entries → (assembled : List ℕ) (other : Numbered)
    → IsAssembled text assembled → IsGraphIn assembled graph × (IsGraphIn assembled other → other ≡ graph)

-- what is proved about a text, a definition with its entries, the graph that the definition is loaded as, a board and a stepper
pub record Aim (text definition : List ℕ) (entries : List (List ℕ)) (graph : Numbered) (board : BoardValue) (stepper : Stepping) : Type 0 where
  -- the machine's board has 1 to 64 workers
  pub some_workers : 0 < length board.state.workers
  pub few_workers : length board.state.workers ≤ 64
  -- After every interleaving of atomic steps the machine's state and replies are those that the table has for the events in the record: by the table, these
  -- events lead from the opening state to the board's state, with a reply to each event. A call that does an event returns a reply (clause `gives`); in the run
  -- of the record after the call, this is the reply to the record's last event.
  pub replays : Replays board
  pub replies : RepliesAreRecorded board
  -- no two executions hold one locked cache at once
  pub locked_once : AfterAll graph LockedOnce
  -- every settled vertex with no cache mount at or before it has the graph's plain outcome
  pub plain : AfterAll graph SettledArePlain
  -- if the text is read as the entries of the definition, the bytes that the text is assembled to are loaded as the definition's graph
  pub one_graph : LoadsAsOne text definition entries graph
  -- The stepper is on the same graph. The table leads, by the stepper's record, to the stepper's state. If `back` takes k events back, the board is the one to
  -- which the record without its last k events leads. The lines of the record, and those that a session's `go` prints, are the run's events and replies.
  pub stepper_state : Replays stepper.board
  pub stepper_past : PastIsTheRecords stepper
  pub stepper_lines : RecordIsTheRun stepper
  pub session_lines : GoPrintsTheRun stepper
  -- Each event of the machine's record is granted again on the machine's board as it was opened. A stepper without breakpoints that starts on the board as it
  -- was opened and replays the record ends on the machine's board, and its lines are the events and replies of the machine's run.
  pub record_replays : IsReplayed board
  pub stepper_replays : ReplaysOnAStepper board
