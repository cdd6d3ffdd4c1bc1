use Rattle.llb_progress.proofs.Schedules.{if_ok, held_up}
use Rattle.llb_progress.proofs.schedule.claim_ready.Goals as goal

pub returns-clause-held : goal.returns-clause-held
returns-clause-held c =
    let b = c.args.board.now in
    λ idle is. if_ok c.go.result c.go.ensures.refused (λ done refused no. held_up b c.args.w c.args.v c.ready_or_held_up.ensures idle is (refused no))
