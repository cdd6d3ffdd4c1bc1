use Rattle.std.proofs.Common.{◌≡◌, ◌∙◌, sym, subst}
use Rattle.std.specs.Prelude.{slice_get, slice_set}
use Rattle.llb_execution.specs.ModelValues.{left_with}
use Rattle.llb_model.specs.TwoCacheModels.{put_each}
use Rattle.llb_execution.specs.Jobs.{OutcomeValue, IsOutcome}
use Rattle.llb_model.specs.State.{places_at}
use Rattle.llb_board.specs.Workers.{Fits, steps_left}
use Rattle.llb_board.proofs.RunningWorkersAndLeases.{Crew}
use Rattle.llb_board.proofs.LandedWorkers.{has_seat, low_seat, few_steps, leased_count, few_trees, land_crew, land_workers, land_rows, land_fits}
use Rattle.llb_board.proofs.workers.Workers.land.Goals as goal
use Rattle.llb_board.proofs.workers.Workers.land.Goals.{After-into_left-count}

-- the outcome, by its parts
outcome : After-into_left-count → OutcomeValue
outcome c = record {
  job = c.args.outcome.job;
  count = c.into_left-count.result.0;
  left = left_with c.into_left-count.result.1 c.into_left-count.result.2.items c.into_left-count.result.3;
}

outcome_is : (c : After-into_left-count) → outcome c ≡ c.args.outcome
unfolding outcome
outcome_is c = λ i. record { job = c.args.outcome.job; count = c.into_left-count.ensures.count i; left = c.into_left-count.ensures.left i }

whole : (c : After-into_left-count) → IsOutcome (outcome c).job (outcome c).count (outcome c).left
whole c = subst (λ (v : OutcomeValue). IsOutcome v.job v.count v.left) (sym (outcome_is c)) c.is_whole.ensures

pub put_left-lease-requires-clause-low : goal.put_left-lease-requires-clause-low
unfolding outcome
put_left-lease-requires-clause-low c =
    let p = (goal.at.put_left-lease-requires-clause-low c).After-into_left-count in
    let s = c.self.inside in
    let seat = has_seat c.args.vertices.now s.seats.items s.caches.rows c.args.self.now c.args.w c.args.outcome.job c.self.view_is c.requires.runs in
    low_seat c.args.vertices.now.build s.seats.items s.caches.rows s.caches.out c.args.w (outcome p) seat (whole p) c.self.invariant

pub put_left-lease-requires-clause-few : goal.put_left-lease-requires-clause-few
unfolding outcome
put_left-lease-requires-clause-few c =
    let p = (goal.at.put_left-lease-requires-clause-few c).After-into_left-count in
    let s = c.self.inside in
    let seat = has_seat c.args.vertices.now s.seats.items s.caches.rows c.args.self.now c.args.w c.args.outcome.job c.self.view_is c.requires.runs in
    few_steps c.args.vertices.now.build s.seats.items s.caches.rows s.caches.out c.args.w (outcome p) seat (whole p) c.self.invariant

pub write_back-requires-clause-count : goal.write_back-requires-clause-count
unfolding outcome
write_back-requires-clause-count c =
    let p = (goal.at.write_back-requires-clause-count c).After-into_left-count in
    let s = c.self.inside in
    let seat = has_seat c.args.vertices.now s.seats.items s.caches.rows c.args.self.now c.args.w c.args.outcome.job c.self.view_is c.requires.runs in
    leased_count c.args.vertices.now.build s.seats.items s.caches.rows s.caches.out c.args.w (outcome p) seat (whole p) c.self.invariant
    c.put_left-lease.result c.put_left-lease.ensures.leased

pub write_back-requires-clause-few : goal.write_back-requires-clause-few
unfolding outcome
write_back-requires-clause-few c =
    let p = (goal.at.write_back-requires-clause-few c).After-into_left-count in
    let s = c.self.inside in
    let seat = has_seat c.args.vertices.now s.seats.items s.caches.rows c.args.self.now c.args.w c.args.outcome.job c.self.view_is c.requires.runs in
    few_trees c.args.vertices.now.build s.seats.items s.caches.rows s.caches.out c.args.w (outcome p) seat (whole p) c.self.invariant
    c.vertex.ensures.graph (subst (Fits c.args.vertices.now.build) (sym c.self.view_is) c.requires.fits)

pub invariant_of-self : goal.invariant_of-self
unfolding outcome
invariant_of-self c =
    let p = (goal.at.invariant_of-self c).After-into_left-count in
    let s = c.self.inside in
    let seat = has_seat c.args.vertices.now s.seats.items s.caches.rows c.args.self.now c.args.w c.args.outcome.job c.self.view_is c.requires.runs in
    subst (Crew c.put_left-lease.new.seats.items) (sym c.write_back.ensures.out)
    (land_crew c.args.vertices.now.build s.seats.items s.caches.rows s.caches.out c.args.w (outcome p) seat (whole p) c.self.invariant
    c.put_left-lease.new.seats.items c.put_left-lease.ensures.left)

pub returns-clause-workers : goal.returns-clause-workers
unfolding outcome
returns-clause-workers c =
    let p = (goal.at.returns-clause-workers c).After-into_left-count in
    let s = c.self.inside in
    let seat = has_seat c.args.vertices.now s.seats.items s.caches.rows c.args.self.now c.args.w c.args.outcome.job c.self.view_is c.requires.runs in
    land_workers c.args.vertices.now.build s.seats.items s.caches.rows s.caches.out c.args.w (outcome p) seat (whole p) c.self.invariant
    c.put_left-lease.new.seats.items c.put_left-lease.ensures.left
    ∙ (λ i. slice_set (c.self.view_is i).workers c.args.w (steps_left (outcome_is p i) (slice_get (c.self.view_is i).workers c.args.w)))

pub returns-clause-rows : goal.returns-clause-rows
unfolding outcome
returns-clause-rows c =
    let p = (goal.at.returns-clause-rows c).After-into_left-count in
    let s = c.self.inside in
    let seat = has_seat c.args.vertices.now s.seats.items s.caches.rows c.args.self.now c.args.w c.args.outcome.job c.self.view_is c.requires.runs in
    land_rows c.args.vertices.now.build s.seats.items s.caches.rows s.caches.out c.args.w (outcome p) seat (whole p) c.self.invariant
    c.put_left-lease.result c.write_back.new.caches.rows c.put_left-lease.ensures.leased c.write_back.ensures.rows
    ∙ (λ i. put_each (c.self.view_is i).rows (places_at (slice_get (c.self.view_is i).workers c.args.w)) (outcome_is p i).left.work.trees)

pub returns-clause-fits : goal.returns-clause-fits
unfolding outcome
returns-clause-fits c =
    let p = (goal.at.returns-clause-fits c).After-into_left-count in
    let s = c.self.inside in
    let seat = has_seat c.args.vertices.now s.seats.items s.caches.rows c.args.self.now c.args.w c.args.outcome.job c.self.view_is c.requires.runs in
    land_fits c.args.vertices.now.build s.seats.items s.caches.rows s.caches.out c.args.w (outcome p) seat (whole p) c.self.invariant
    c.put_left-lease.new.seats.items c.write_back.new.caches.rows c.put_left-lease.ensures.left
    (subst (Fits c.args.vertices.now.build) (sym c.self.view_is) c.requires.fits)
