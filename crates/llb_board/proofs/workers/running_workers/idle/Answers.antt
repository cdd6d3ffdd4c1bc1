use Rattle.std.proofs.Common.{◌≡◌, length, rules, arith, ap, ◌∙◌, ◌++◌, ◌∷◌, [], vec_len}
use Rattle.std.proofs.lemmas.List.{length-replicate}
use Rattle.llb_board.specs.declared.workers.running_workers.Seat.TheVariants.{Idle}
use Rattle.llb_model.proofs.Lists.{replicate_more}
use Rattle.llb_board.proofs.workers.running_workers.idle.Goals as goal

pub push_reserved-requires : goal.push_reserved-requires
push_reserved-requires c =
    let len : vec_len c.loop-i.seats ≡ length c.loop-i.seats.items = search rules in
    omega (arith, len, ap length c.loop-i.invariant.all, length-replicate c.loop-i._i Idle, c.loop-i.invariant.reserved, c.loop-i-test.true)

pub loop-i-preserved : goal.loop-i-preserved
loop-i-preserved c =
    record {
      all = c.push_reserved.ensures.items ∙ ap (λ l. l ++ Idle ∷ []) c.loop-i.invariant.all ∙ replicate_more Idle c.loop-i._i;
      reserved = search rules;
    }
