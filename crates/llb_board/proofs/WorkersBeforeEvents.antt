-- What is kept of workers before an event.
use Rattle.std.proofs.Common.{◌≡◌, ℕ, ◌+◌, List, map, length, Option, Some, refl, sym, ap, ◌∙◌}
use Rattle.std.specs.Prelude.{slice_get}
use Rattle.llb_cache.specs.declared.lease_additions.Growth.{Growth}
use Rattle.llb_cache.specs.Caches.{CachesValue, Row, AreApart}
use Rattle.llb_cache.specs.LeaseAdditions.{LentValue}
use Rattle.llb_tree.specs.Tree.{TreeMap}
use Rattle.llb_execution.specs.SavedWorkspaces.{Saved, saved_of}
use Rattle.llb_model.specs.Caches.{trees_at}
use Rattle.llb_model.specs.TwoCacheModels.{store_of, growth_for}
use Rattle.llb_model.proofs.TwoModelsLeases.{leased_holds_as}
use Rattle.llb_board.specs.OptionalLeases.{lent_of}
use Rattle.llb_board.specs.RunningWorkerSupplies.{Supplies, needs_at}
use Rattle.llb_board.specs.WorkersKeptForUndo.{Unclaim, Unstep, Resume, MarksClaim, MarksStep, MarksEnd}
use Rattle.llb_board.specs.WorkerUndo.{left_in}
use Rattle.llb_board.specs.Vertices.{VerticesValue}
use Rattle.llb_board.specs.WorkerModelValues.{at_of, leased_by, execution_of}
use Rattle.llb_board.specs.Workers.{Fits}
use Rattle.llb_board.specs.declared.workers.running_workers.Seat.{Seat}
use Rattle.llb_board.specs.declared.workers.running_workers.Seat.TheVariants as seat
use Rattle.llb_board.specs.declared.workers.running_workers.Execution as own
use Rattle.llb_board.specs.declared.workers.undoing.End.{End}
use Rattle.llb_board.proofs.RunningWorkersAndLeases.{Crew}
use Rattle.llb_board.proofs.SuppliesAtStartAndEnd.{made_enough}
use Rattle.llb_board.proofs.Lists.{get_map}
use Rattle.llb_model.proofs.Lists.{length_map}
use Rattle.llb_model.proofs.TwoModelsUndo.{growths_are}
use Rattle.llb_board.proofs.TableStepOfWorker.{seen_of}

-- before a claim, what its lease will add is all that it can displace of the caches
pub marks_claim : (vs : VerticesValue) (ds : List Seat) (c : CachesValue) (w v : ℕ) (gs : List Growth) → Crew ds c.out → AreApart c.out
    → gs ≡ map (growth_for c) (needs_at (slice_get vs.build.graph.vertices v)) → MarksClaim vs (seen_of ds c.rows) w v (record { back = Unclaim w v gs })
marks_claim vs ds c w v gs crew apart is = record {
  back = ap (Unclaim w v) (is ∙ growths_are c (map at_of ds) (needs_at (slice_get vs.build.graph.vertices v))
      (leased_holds_as c.out (map at_of ds) (map leased_by ds) crew.leased) apart);
}

module _ (vs : VerticesValue) (ds : List Seat) (rows : List Row) (w : ℕ) (l : Option ℕ) (x : own.Execution) (fits : Fits vs.build (seen_of ds rows))
    (there : slice_get ds w ≡ Some (seat.Runs l x)) where
  -- before a step, the mark of the worker's view and the trees of its instances are all that the step can displace
  pub marks_step : (m : Saved) (ts : List TreeMap) → m ≡ saved_of x.view → ts ≡ trees_at (store_of rows) x.places.items
      → MarksStep vs (seen_of ds rows) w (record { back = Unstep w m ts })
  marks_step m ts is trees =
      let made = made_enough vs.build ds w l x fits there in
      record {
        x = execution_of x;
        runs = get_map at_of ds w (seat.Runs l x) there;
        back = λ i. Unstep w (is i) (trees i);
        mounts = ap (λ (s : Supplies). s.mounts) made;
        keys = ap (λ (s : Supplies). s.keys) made;
      }

  -- before a settle or a cancel, the worker's execution and a lease of its instances are all that it can displace
  pub marks_end : (e : End) (y : own.Execution) (lent : Option LentValue) → left_in y ≡ left_in x → lent ≡ lent_of x.places.items (length ds + 1)
      → MarksEnd vs (seen_of ds rows) e w (record { back = Resume e w (left_in y) lent })
  marks_end e y lent is ready = record {
    left = left_in x;
    runs = get_map at_of ds w (seat.Runs l x) there;
    back = (λ i. Resume e w (is i) (ready i)) ∙ ap (λ n. Resume e w (left_in x) (lent_of x.places.items (n + 1))) (sym (length_map at_of ds));
    supplies = made_enough vs.build ds w l x fits there;
    keys = refl;
  }
