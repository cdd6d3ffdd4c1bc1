use denote.Exit.{no}
use denote.Param.{param}
use denote.Param.Send.{param_send, arg_send}
use denote.RattleType.{RattleType}
use Rattle.std.proofs.Common.{sym, subst}
use Rattle.llb_ready.specs.declared.queue.ReadyQueue.{ReadyQueue}
use Rattle.llb_work.specs.WorkerPasses.{IsPassFor}
use Rattle.llb_work.proofs.ThreadTransfers.{number, three_cross, crew_crosses, kit_crosses}
use Rattle.llb_work.proofs.thread_scope.Crew.start.Goals as goal

pub spawn_with-requires : goal.spawn_with-requires
spawn_with-requires g c κs =
    let name : RattleType = param 0 g.row.S in
    let gate : RattleType = param 1 g.row.G in
    let rt : RattleType = param 2 g.row.R in (
      param_send 2 _ (arg_send _ no _ (
          three_cross _ _ _ _ (crew_crosses name g.S.Gated g.S.Ledger _ gate rt c.type_bounds.sync-G c.type_bounds.sync-R) number (kit_crosses name g.S.Ledger)
          )),
      (
        param_send 3 _ (arg_send _ no _ (kit_crosses name g.S.Ledger)),
        (
          (c.requires.stop, c.requires.pass),
          λ r kept. subst (λ (q : ReadyQueue). IsPassFor q c.args.w r.pass) (sym c.of.ensures) kept,
        ),
      ),
    )
