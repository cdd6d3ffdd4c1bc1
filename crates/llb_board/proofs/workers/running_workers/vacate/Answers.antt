use Rattle.std.proofs.Common.{◌∙◌, sym, ap, subst}
use Rattle.std.specs.Prelude.{Some, slice_set}
use Rattle.std.proofs.lemmas.Option.{slice_get-get_or}
use Rattle.llb_board.specs.WorkerModelValues.{IsRunning}
use Rattle.llb_board.specs.declared.workers.running_workers.Seat.{Seat}
use Rattle.llb_board.proofs.workers.running_workers.vacate.Goals as goal

pub unreachable-requires : goal.unreachable-requires
unreachable-requires c =
    subst IsRunning
    (slice_get-get_or c.args.seats.now.items c.args.w c.index_mut.result.now c.requires.low
    ∙ ap (λ d. Some d) (sym (c.replace.ensures.value ∙ c.index_mut.ensures.value) ∙ c.in-Idle.is))
    c.requires.runs

pub returns-clause-ran : goal.returns-clause-ran
returns-clause-ran c =
    slice_get-get_or c.args.seats.now.items c.args.w c.index_mut.result.now c.requires.low
    ∙ ap (λ d. Some d) (sym (c.replace.ensures.value ∙ c.index_mut.ensures.value) ∙ c.in-Runs.is)

pub returns-clause-idle : goal.returns-clause-idle
returns-clause-idle c = ap (λ (d : Seat). slice_set c.args.seats.now.items c.args.w d) c.replace.ensures.after
