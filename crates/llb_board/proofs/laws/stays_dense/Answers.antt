use Rattle.std.proofs.Common.{subst}
use Rattle.llb_model.specs.Caches.{Store}
use Rattle.llb_model.specs.WholeRunLaws.{IsDense}
use Rattle.llb_model.proofs.GaplessInstances.{stays_dense}
use Rattle.llb_model.proofs.TwoModelsContents.{kept_dense}
use Rattle.llb_board.proofs.laws.stays_dense.Goals as goal

pub returns-clause-here : goal.returns-clause-here
returns-clause-here c =
    let b = c.args.board.now in
    subst (λ (s : Store). IsDense s) c.caches.ensures.contents (kept_dense c.caches.result.now.rows)

pub returns-clause-after : goal.returns-clause-after
returns-clause-after c = stays_dense c.args.board.now.build
