use Rattle.std.proofs.Common.{◌≡◌, length, drop, None, true, arith, ap, ◌∙◌}
use Rattle.llb_model.specs.Run.{events_by, chosen, is_complete}
use Rattle.llb_model.proofs.RunCompletion.{complete_rests}
use Rattle.llb_work.proofs.BoardContinuations.{no_shorter}
use Rattle.llb_work.proofs.DriverEvents.{all_granted, when_true}
use Rattle.llb_work.proofs.DriverRunEnds.{ends_in_order}
use Rattle.llb_work.proofs.WorkerTallies.{zeros}
use Rattle.llb_work.proofs.one_thread_run.run_alone.Goals.{then-whole, else-whole}
use Rattle.llb_work.proofs.one_thread_run.run_alone.Goals as goal

pub count_record-requires-clause-within : goal.count_record-requires-clause-within
count_record-requires-clause-within c =
    let same = c.len-before.ensures ∙ ap length c.events.ensures.all in
    let b = c.go_to_end-whole.new.board in
    omega (arith, same, no_shorter c.args.board b (all_granted c.args.board b c.go_to_end-whole.ensures.goes))

pub returns-clause-made : goal.returns-clause-made
returns-clause-made c =
    let b = c.go_to_end-whole.new.board in
    let same : c.len-before.result ≡ length c.args.board.events = c.len-before.ensures ∙ ap length c.events.ensures.all in
    λ w lt.
    let added = ap (λ n. events_by w (drop n b.events)) same in
    omega (arith, c.count_record.ensures.each w lt, zeros 64 w, added)

pub returns-clause-order : goal.returns-clause-order
returns-clause-order c =
    let b = c.go_to_end-whole.new.board in
    λ fresh ended.
    let left = when_true c.go_to_end-whole.result (chosen b.build b.state ≡ None) c.go_to_end-whole.ensures.ends
    (elim c.if-whole.branch [ then-whole w ↦ w.if-whole.true | else-whole w ↦ absurd (cc (ended, w.fault-is)) ]) in
    let complete : is_complete b.build b.state ≡ true = c.chosen_until_complete.ensures.0 left in
    ends_in_order c.args.board b c.go_to_end-whole.ensures.goes c.replays.ensures.run fresh complete
    (complete_rests b.build c.is_graph.ensures b.state c.is_consistent.ensures complete) c.alone_in_claim_order.ensures
