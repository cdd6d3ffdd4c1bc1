use Rattle.std.proofs.Common.{ap, ◌∙◌, Err}
use Rattle.llb_board.specs.Opening.{open_memory}
use Rattle.llb_commands.proofs.SteppingOutput.{lacks, unmanned}
use Rattle.llb_commands.proofs.board_opening.opened.Goals as goal

pub returns-in-Err-MissingLocal-clause-fault : goal.returns-in-Err-MissingLocal-clause-fault
returns-in-Err-MissingLocal-clause-fault c =
    let e = c.in-Err-MissingLocal in
    let refused = e.ensures.gives (ap open_memory e.field-0-is) ∙ ap (λ f. Err f) e.field-0-is in
    λ is. lacks c.args.locals c.args.graph _ _ c.new.result _ c.args.workers e.name refused

pub returns-in-Err-Workers-clause-fault : goal.returns-in-Err-Workers-clause-fault
returns-in-Err-Workers-clause-fault c =
    let e = c.in-Err-Workers in
    let refused = e.ensures.gives (ap open_memory e.field-0-is) ∙ ap (λ f. Err f) e.field-0-is in
    λ is. unmanned c.args.locals c.args.graph _ _ c.new.result _ c.args.workers refused
