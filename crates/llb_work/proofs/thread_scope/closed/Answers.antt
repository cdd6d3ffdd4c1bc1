use Rattle.std.proofs.Common.{arith}
use Rattle.llb_work.proofs.thread_scope.closed.Goals as goal

pub returns : goal.returns
returns g c =
    let old = c.args.shared in
    let sum_is = c.audit.ensures.whole c.requires.whole in
    record {
      start = old.kept;
      after = old.after;
      made = omega (arith, old.booked, sum_is, c.requires.made, c.count_record.ensures.sum);
      stops = old.stops;
      uncancelled = old.uncancelled;
    }
