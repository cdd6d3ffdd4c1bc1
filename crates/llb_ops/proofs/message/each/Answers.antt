use Rattle.std.proofs.Common.{Ok, sym, ap, ◌∙◌, arith, eq-eqb}
use Rattle.std.proofs.lemmas.Bool.{ne_eqb}
use Rattle.std.proofs.lemmas.Result.{err_from_is_err_and}
use Rattle.llb_ops.proofs.NestedMessageLoop.{goes_on, passes, ends, is_done}
use Rattle.llb_ops.specs.Records.{message_of, each, all, views}
use Rattle.llb_ops.proofs.message.each.Goals as goal
use Rattle.llb_ops.proofs.message.each.Goals.{then-part-number+in_ok-message+in_ok-push, else-part-number}

pub returns-in_err-message : goal.returns-in_err-message
returns-in_err-message g c =
    let p = err_from_is_err_and c.from_residual-in_err-message.result c.from_residual-in_err-message.ensures.1 in
    rw (p.1, p.2) (ends (message_of g.M.Message.shape g.M.Message.reading) c.in_err-message.field-0.0 c.loop-part.messages.items
    c.args.number c.args.records.now c.loop-part.part-index _
    (each (message_of g.M.Message.shape g.M.Message.reading) (all c.args.number (views c.args.records.now))) c.loop-part-test.true
    (eq-eqb _ _ c.if-part-number.true) c.in_err-message.ensures c.loop-part.invariant)

pub loop-part-preserved : goal.loop-part-preserved
loop-part-preserved g c =
    elim c.if-part-number.branch [
      | then-part-number+in_ok-message+in_ok-push w ↦
          goes_on (message_of g.M.Message.shape g.M.Message.reading) c.loop-part.messages.items c.if-part-number.messages.items
          c.args.number c.args.records.now c.loop-part.part-index _ w.in_ok-message.message
          (each (message_of g.M.Message.shape g.M.Message.reading) (all c.args.number (views c.args.records.now)))
          c.loop-part-test.true (eq-eqb _ _ w.if-part-number.true) w.in_ok-message.ensures
          (ap (λ ms. ms.items) w.messages-is ∙ w.in_ok-push.ensures.items) c.loop-part.invariant
      | else-part-number w ↦
          passes (message_of g.M.Message.shape g.M.Message.reading) c.loop-part.messages.items c.if-part-number.messages.items
          c.args.number c.args.records.now c.loop-part.part-index _
          (each (message_of g.M.Message.shape g.M.Message.reading) (all c.args.number (views c.args.records.now)))
          c.loop-part-test.true (ne_eqb _ _ w.if-part-number.false) (ap (λ ms. ms.items) w.messages-is) c.loop-part.invariant
    ]

pub returns : goal.returns
returns g c = is_done (message_of g.M.Message.shape g.M.Message.reading) c.loop-part.messages.items c.args.number c.args.records.now
    c.loop-part.part-index (each (message_of g.M.Message.shape g.M.Message.reading) (all c.args.number (views c.args.records.now)))
    (omega arith) c.loop-part.invariant ∙ ap (λ ms. Ok ms) (sym c.new.ensures)
