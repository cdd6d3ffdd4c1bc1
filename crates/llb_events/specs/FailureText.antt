-- The text of a failure: the end of the output line that names the failed vertex.
use Rattle.std.specs.Prelude.{ℕ, List, ◌++◌, codes}
use Rattle.std.specs.Fmt.{decimal}
use Rattle.llb_events.specs.declared.fault.VertexFault.{VertexFault}
use Rattle.llb_events.specs.declared.fault.VertexFault.TheVariants.{Action, Exit}

-- the text of a failure: the action's number and its fault, or the command's number and its status
abbrev pub failure_text : VertexFault → List ℕ
failure_text (Action a n) = codes "action " ++ (decimal a ++ (codes " fault " ++ decimal n))
failure_text (Exit c status) = codes "command " ++ (decimal c ++ (codes " status " ++ decimal status))
