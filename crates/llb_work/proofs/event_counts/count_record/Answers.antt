use Rattle.std.proofs.Common.{◌<◌, drop, ap, ◌∙◌}
use Rattle.std.proofs.lemmas.List.Elements.{All-same}
use Rattle.llb_model.specs.Table.{worker_of}
use Rattle.llb_work.proofs.WorkerEventCounts.{by_workers}
use Rattle.llb_work.proofs.event_counts.count_record.Goals as goal

pub count_events-requires-clause-workers : goal.count_events-requires-clause-workers
count_events-requires-clause-workers c =
    let added = c.split_at.ensures.back ∙ ap (drop c.args.before) (c.as_slice.ensures ∙ c.events.ensures.all) in
    All-same (λ e. worker_of e < 64) _ _ added (by_workers c.args.board.now c.args.before c.replays.ensures.run c.has_workers.ensures.few)
