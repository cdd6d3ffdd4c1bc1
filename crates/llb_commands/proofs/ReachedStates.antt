-- What holds wherever a run of the table leads.
use Rattle.std.proofs.Common.{sym, subst}
use Rattle.llb_loader.specs.Graph.{Numbered, IsGraph}
use Rattle.llb_model.specs.State.{opening}
use Rattle.llb_model.proofs.UntouchedExclusiveInstances as others
use Rattle.llb_model.proofs.PlainVertexStates.{opening_plain, run_plain}
use Rattle.llb_board.specs.MachinePromise.{LockedOnce}
use Rattle.llb_board.specs.Laws.{SettledArePlain}
use Rattle.llb_commands.specs.Aim.{AfterAll}

pub locked_once : (graph : Numbered) → AfterAll graph LockedOnce
locked_once graph b replies over leads w u p q has other same locked =
    others.locked_once b.build b.state (record { opened = b.opening; events = b.events; replies = replies; leads = leads }) w u has.execution
    other.execution p q has.runs other.runs has.has other.has same locked

pub plain : (graph : Numbered) → IsGraph graph → AfterAll graph SettledArePlain
plain graph is b replies over leads v e plainly there =
    (run_plain b.build (subst IsGraph (sym over) is) (opening b.build b.opening) b.state b.events replies (opening_plain b.build b.opening) leads).settled v e
    plainly there
