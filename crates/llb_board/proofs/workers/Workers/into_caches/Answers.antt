use Rattle.std.proofs.Common.{List, map, sym, ap, subst, ◌∙◌}
use Rattle.llb_cache.proofs.InstanceHolders.{none_out}
use Rattle.llb_model.specs.TwoCacheModels.{AreLeased}
use Rattle.llb_board.specs.WorkerModelValues.{at_of, leased_by}
use Rattle.llb_board.specs.Workers.{WorkersValue}
use Rattle.llb_board.specs.declared.workers.running_workers.Seat.{Seat}
use Rattle.llb_board.proofs.workers.Workers.into_caches.Goals as goal

pub give_all_back-requires : goal.give_all_back-requires
give_all_back-requires c =
    subst (λ (ds : List Seat). AreLeased c.self.inside.caches.out (map at_of ds) (map leased_by ds)) (sym c.deref.ensures.value) c.self.invariant.leased

pub returns : goal.returns
returns c = record {
  rows = c.give_all_back.ensures.rows ∙ ap (λ (s : WorkersValue). s.rows) c.self.view_is;
  free = none_out c.give_all_back.new.caches.out c.is_exclusive.ensures.ends c.give_all_back.ensures.none;
}
