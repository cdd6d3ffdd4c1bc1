-- What a session prints: statuses of vertices, lines of the record, trees, the work of workers, caches, and refusals.
use Rattle.std.specs.Prelude.{ℕ, zero, suc, ◌+◌, ◌==◌, if◌then◌else◌, List, [], ◌++◌, codes, length, Option, Some, None, option_map, slice_get}
use Rattle.std.specs.Map.{keys_of}
use Rattle.std.specs.Fmt.{decimal}
use Rattle.llb_tree.specs.Tree.{TreeMap}
use Rattle.llb_treetext.specs.TreeText.{tree_text, path_text}
use Rattle.llb_cache.specs.Caches.{Row, trees_of}
use Rattle.llb_cache.specs.declared.key.Key.{Key}
use Rattle.llb_cache.specs.declared.key.Seed.{Seed}
use Rattle.llb_cache.specs.declared.key.Mode.{Mode}
use Rattle.llb_cache.specs.declared.key.Mode.TheVariants.{Shared, Private, Locked}
use Rattle.llb_model.specs.Program.{Workspace}
use Rattle.llb_execution.specs.WorkspaceTrees.{Role, Local, Input, ResultOf, Laid, MountAt, roles_of}
use Rattle.llb_events.specs.FailureText.{failure_text}
use Rattle.llb_board.specs.BoardValue.{BoardValue}
use Rattle.llb_board.specs.Statuses.{look_at}
use Rattle.llb_board.specs.declared.status.Status.{Status}
use Rattle.llb_board.specs.declared.status.Status.TheVariants.{Waiting, Ready, Blocked, Running, Done, Failed}
use Rattle.llb_stepper.specs.declared.fault.StepperFault.{StepperFault}
use Rattle.llb_stepper.specs.Faults.{stepper_text}
use Rattle.llb_stepper.specs.Records.{record_text, record_at}
use Rattle.llb_stepper.specs.Stepping.{Stepping}

-- the text for the status of a vertex
abbrev pub look_text : Status → List ℕ
look_text Waiting = codes "waiting"
look_text Ready = codes "ready"
look_text Blocked = codes "blocked"
look_text (Running w) = codes "running " ++ decimal w
look_text Done = codes "done"
look_text (Failed f) = codes "failed " ++ failure_text f

-- the line for the status of a vertex
abbrev pub status_line : ℕ → Status → List ℕ
status_line v look = decimal v ++ (codes " " ++ (look_text look ++ codes "\n"))

-- the line for the status of a vertex; empty if there is no such vertex
abbrev pub status_line_of : ℕ → Option Status → List ℕ
status_line_of v None = []
status_line_of v (Some look) = status_line v look

-- the lines of the vertices whose numbers are lower than the given number
unfoldable pub status_lines : BoardValue → ℕ → List ℕ
status_lines b zero = []
status_lines b (suc v) = status_lines b v ++ status_line_of v (look_at b.build b.state v)

-- a text with a line end after it; empty if there is no text
abbrev pub with_line_end : Option (List ℕ) → List ℕ
with_line_end None = []
with_line_end (Some text) = text ++ codes "\n"

-- the line of event i of the record, counted from 1; empty if there is no event i, or if the board had event i when the stepper was made
abbrev pub record_line : Stepping → ℕ → List ℕ
record_line s i = with_line_end (option_map (record_text s.board.build.graph.vertices i) (record_at s i))

-- the lines of the k events that follow the first `from` events of the record
unfoldable pub record_lines : Stepping → ℕ → ℕ → List ℕ
record_lines s from zero = []
record_lines s from (suc k) = record_lines s from k ++ record_line s (from + k + 1)

-- the text of a tree; the line `none` if there is no tree
abbrev pub tree_lines : Option TreeMap → List ℕ
tree_lines None = codes "none\n"
tree_lines (Some t) = tree_text t

-- the words for the role of a tree in a worker's work: a local tree, an input, an action's result, what a merge has laid so far, or the tree of a mount
abbrev pub role_text : Role → List ℕ
role_text Local = codes "local"
role_text Input = codes "input"
role_text (ResultOf a) = codes "result " ++ decimal a
role_text Laid = codes "laid"
role_text (MountAt dest) = codes "mount " ++ path_text dest

-- the line for tree i of those that a worker works on
abbrev pub role_line : ℕ → Role → List ℕ
role_line i role = decimal i ++ (codes " " ++ (role_text role ++ codes "\n"))

-- the line for tree i of those that a worker works on; empty if there is no such tree
abbrev pub role_line_of : ℕ → Option Role → List ℕ
role_line_of i None = []
role_line_of i (Some role) = role_line i role

-- the lines for the trees that a worker works on, as far as their numbers are lower than the given number
unfoldable pub role_lines : List Role → ℕ → List ℕ
role_lines roles zero = []
role_lines roles (suc i) = role_lines roles i ++ role_line_of i (slice_get roles i)

-- a line for each tree that a worker works on, given the role of each tree (input, mount ..: see `role_text`); the line `none` if there are no trees
abbrev pub part_lines : List Role → List ℕ
part_lines roles = if length roles == 0 then codes "none\n" else role_lines roles (length roles)

-- the lines for the trees that a worker works on, given its workspace; the line `none` if there is no workspace or no tree
abbrev pub work_lines : Option Workspace → List ℕ
work_lines None = codes "none\n"
work_lines (Some own) = part_lines (roles_of own)

-- the word for a mode
abbrev pub mode_word : Mode → List ℕ
mode_word Shared = codes "shared"
mode_word Private = codes "private"
mode_word Locked = codes "locked"

-- the text of a seed (the output that a new instance begins with); `-` if there is none
abbrev pub seed_text : Option Seed → List ℕ
seed_text None = codes "-"
seed_text (Some s) = s.digest ++ (codes "." ++ decimal s.index)

-- the line for key k of the caches, a key with n instances
abbrev pub key_line : ℕ → Key → ℕ → List ℕ
key_line k key n =
    decimal k
    ++ (codes " "
    ++ (mode_word key.mode ++ (codes " " ++ (decimal n ++ (codes " " ++ (seed_text key.seed ++ (codes " " ++ (key.id ++ codes "\n"))))))))

-- the line for key k; empty if there is no such key
abbrev pub key_line_of : List Row → ℕ → Option Key → List ℕ
key_line_of rows k None = []
key_line_of rows k (Some key) = key_line k key (length (trees_of rows key))

-- the lines of the keys whose numbers are lower than the given number
unfoldable pub key_lines : List Row → ℕ → List ℕ
key_lines rows zero = []
key_lines rows (suc k) = key_lines rows k ++ key_line_of rows k (slice_get (keys_of rows) k)

-- the line that reports a refusal
abbrev pub fault_line : StepperFault → List ℕ
fault_line e = codes "fault " ++ (stepper_text e ++ codes "\n")

-- the line that is printed after an event was taken back: `back` and how many events the record still has
abbrev pub back_line : ℕ → List ℕ
back_line left = codes "back " ++ (decimal left ++ codes "\n")
