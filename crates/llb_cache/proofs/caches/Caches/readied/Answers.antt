use Rattle.std.proofs.Common.{arith, List, sym, subst}
use Rattle.std.specs.List.{All}
use Rattle.std.proofs.lemmas.Grind.{common_steps}
use Rattle.std.proofs.lemmas.List.Elements.{All-push}
use Rattle.llb_cache.specs.declared.taken_instances.Ready.{Ready}
use Rattle.llb_cache.specs.LeasePreparation.{FitsIn}
use Rattle.llb_cache.proofs.caches.Caches.readied.Goals as goal

pub loop-need-preserved : goal.loop-need-preserved
loop-need-preserved c = record {
  takes = grind (arith, common_steps);
  room = subst (λ (rs : List Ready). All FitsIn rs) (sym c.in_ok-push.ensures.items)
      (All-push FitsIn c.loop-need.readies.items _ c.loop-need.invariant.room
      (record { tree = c.in_ok-room.ensures; mark = c.in_ok-marks.ensures.room; clear = c.in_ok-marks.ensures.clear }));
}
