use Rattle.std.proofs.Common.{◌≡◌, ◌+◌, length, refl, sym, ap, subst, ◌∙◌}
use Rattle.std.specs.Prelude.{slice_get, Some}
use Rattle.std.proofs.lemmas.Option.{slice_get_read}
use Rattle.llb_cache.specs.Caches.{CachesValue, Leases}
use Rattle.llb_board.specs.declared.workers.running_workers.Seat.TheVariants as seat
use Rattle.llb_board.proofs.LeaseInstances.{LeasedFrom, leased_next, leased_idle, out_next, none_left}
use Rattle.llb_board.proofs.workers.leased_instances.give_all_back.Goals as goal
use Rattle.llb_board.proofs.workers.leased_instances.give_all_back.Goals.{in-Runs, in_default}

pub give_back-requires : goal.give_back-requires
give_back-requires c =
    let at : slice_get c.args.seats.now c.loop-seat.seat-index ≡ Some (seat.Runs c.in-Runs.lease c.in-Runs.field-1)
    = slice_get_read c.args.seats.now (length c.args.seats.now) c.loop-seat.seat-index c.seat-item.result refl c.loop-seat-test.true
    c.seat-item.is ∙ ap Some c.in-Runs.is in
    out_next c.loop-seat.caches.out c.loop-seat.seat-index c.in-Runs.lease c.in-Runs.field-1 c.args.seats.now c.loop-seat.invariant.leased at

pub loop-seat-preserved : goal.loop-seat-preserved
loop-seat-preserved c =
    let at : slice_get c.args.seats.now c.loop-seat.seat-index ≡ Some c.seat-item.result
    = slice_get_read c.args.seats.now (length c.args.seats.now) c.loop-seat.seat-index c.seat-item.result refl c.loop-seat-test.true c.seat-item.is in
    elim c.match-seat.branch [
      | in-Runs w ↦
          let new = w.caches-is ∙ w.give_back.ensures in
          record {
            rows = ap (λ (v : CachesValue). v.rows) new ∙ c.loop-seat.invariant.rows;
            leased = subst (λ (o : Leases). LeasedFrom o (c.loop-seat.seat-index + 1) c.args.seats.now) (sym (ap (λ (v : CachesValue). v.out) new))
                (leased_next c.loop-seat.caches c.loop-seat.seat-index w.in-Runs.lease w.in-Runs.field-1 c.args.seats.now
                c.loop-seat.invariant.leased (at ∙ ap Some w.in-Runs.is));
          }
      | in_default w ↦
          record {
            rows = ap (λ (v : CachesValue). v.rows) w.caches-is ∙ c.loop-seat.invariant.rows;
            leased = subst (λ (o : Leases). LeasedFrom o (c.loop-seat.seat-index + 1) c.args.seats.now) (sym (ap (λ (v : CachesValue). v.out) w.caches-is))
                (leased_idle c.loop-seat.caches.out c.loop-seat.seat-index c.args.seats.now c.loop-seat.invariant.leased (at ∙ ap Some w.in_default.is));
          }
    ]

pub returns-clause-none : goal.returns-clause-none
returns-clause-none c = none_left c.loop-seat.caches.out c.loop-seat.seat-index c.args.seats.now c.loop-seat.invariant.leased c.loop-seat-test.false
