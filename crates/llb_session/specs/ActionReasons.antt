-- Why an action of the file op that a worker runs is refused on the trees that the worker works on now, and the words that say so.
use Rattle.std.specs.Prelude.{ℕ, List, [], ◌++◌, codes, Option, Some, None, option_map, slice_get}
use Rattle.llb_tree.specs.Tree.{TreeMap}
use Rattle.llb_treetext.specs.TreeText.{path_text}
use Rattle.llb_ops.specs.declared.file_op.Action.{Action}
use Rattle.llb_fileop.specs.Refusals.{refusal_of}
use Rattle.llb_fileop.specs.declared.refusal.Field.{Field}
use Rattle.llb_fileop.specs.declared.refusal.Field.TheVariants as field
use Rattle.llb_fileop.specs.declared.refusal.Obstacle.{Obstacle}
use Rattle.llb_fileop.specs.declared.refusal.Obstacle.TheVariants as obstacle
use Rattle.llb_fileop.specs.declared.refusal.Refusal.{Refusal}
use Rattle.llb_fileop.specs.declared.refusal.Refusal.TheVariants.{NotPath, NotPattern, NoMatch, Root, At}
use Rattle.llb_loader.specs.declared.graph.Vertex.{Vertex}
use Rattle.llb_model.specs.Program.{Build, MicroStep, ReadLocal, Act, LayInput, Run, Workspace, program_of, trees_in, base_in}
use Rattle.llb_model.specs.State.{State, Execution, runs}
use Rattle.llb_session.specs.Reasons.{vertex_run}

-- ---- the action and its trees

-- why an action is refused on the trees that it names by number: the inputs of its file op, then the results so far
abbrev pub refusal_among : Action → List TreeMap → Option Refusal
refusal_among action trees = refusal_of action.kind (base_in action.input trees) (base_in action.secondary_input trees)

-- why a micro-step is refused on a workspace, if it is an action and is refused
abbrev pub refusal_in : Workspace → Option MicroStep → Option Refusal
refusal_in own (Some (Act action)) = refusal_among action (trees_in own)
refusal_in own (Some ReadLocal) = None
refusal_in own (Some (LayInput i)) = None
refusal_in own (Some (Run setting command ends)) = None
refusal_in own None = None

-- the workspace of what is run, if something is
abbrev pub own_run : Option Execution → Option Workspace
own_run o = option_map (λ (x : Execution). x.own) o

-- why micro-step k of a vertex is refused, given the workspace and the vertex
abbrev pub refusal_on : ℕ → Option Workspace → Option Vertex → Option Refusal
refusal_on k None v = None
refusal_on k (Some own) None = None
refusal_on k (Some own) (Some v) = refusal_in own (slice_get (program_of v).steps k)

-- why action k of the file op that worker w runs is refused on the trees that w works on now; nothing if w runs no file op, if the file op has no action k, or
-- if the action would not be refused
abbrev pub refusal_at : Build → State → ℕ → ℕ → Option Refusal
refusal_at b s w k = refusal_on k (own_run (runs (slice_get s.workers w))) (vertex_run b (runs (slice_get s.workers w)))

-- ---- texts

-- the name of a text of an action
abbrev pub field_name : Field → List ℕ
field_name field.Path = codes "path"
field_name field.Source = codes "src"
field_name field.Dest = codes "dest"

-- what is said before the path at which something is wrong
abbrev pub before_obstacle : Obstacle → List ℕ
before_obstacle obstacle.Nothing = codes "nothing is at "
before_obstacle obstacle.NoSource = codes "nothing is at "
before_obstacle obstacle.NoDir = codes "there is no directory "
before_obstacle obstacle.FileAbove = []
before_obstacle obstacle.IsDir = []
before_obstacle obstacle.IsFile = []
before_obstacle obstacle.DirReplaced = []
before_obstacle obstacle.TooLong = codes "what is at "

-- what is said after the path at which something is wrong
abbrev pub after_obstacle : Obstacle → List ℕ
after_obstacle obstacle.Nothing = []
after_obstacle obstacle.NoSource = codes " in the tree that it copies from"
after_obstacle obstacle.NoDir = []
after_obstacle obstacle.FileAbove = codes " is a file"
after_obstacle obstacle.IsDir = codes " is a directory"
after_obstacle obstacle.IsFile = codes " is a file"
after_obstacle obstacle.DirReplaced = codes " is a directory"
after_obstacle obstacle.TooLong = codes " would get a path of more than 128 names"

-- what is said before the text or the path that a refusal names
abbrev pub before_subject : Refusal → List ℕ
before_subject (NotPath text) = codes "the text of "
before_subject (NotPattern text) = codes "the text of "
before_subject (NoMatch text) = codes "nothing matches the text of "
before_subject Root = codes "this cannot be done at the root"
before_subject (At what path) = before_obstacle what

-- the name of the text, or the path, that a refusal names; nothing for the root
abbrev pub subject : Refusal → List ℕ
subject (NotPath text) = field_name text
subject (NotPattern text) = field_name text
subject (NoMatch text) = field_name text
subject Root = []
subject (At what path) = path_text path

-- what is said after the text or the path that a refusal names
abbrev pub after_subject : Refusal → List ℕ
after_subject (NotPath text) = codes " is not a path"
after_subject (NotPattern text) = codes " is not a pattern"
after_subject (NoMatch text) = []
after_subject Root = []
after_subject (At what path) = after_obstacle what

-- a refusal in words
abbrev pub refusal_text : Refusal → List ℕ
refusal_text r = before_subject r ++ (subject r ++ after_subject r)
