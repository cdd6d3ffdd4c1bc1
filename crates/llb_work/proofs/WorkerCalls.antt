-- Each call of a worker is granted or changes nothing; either way the record goes on.
use Rattle.std.proofs.Common.{◌≡◌, ℕ, false, [], ◌∷◌, ◌++◌, Result, Ok, Err, refl, ap, ◌∙◌}
use Rattle.std.specs.Prelude.{IfOk, OnErr, Some}
use Rattle.std.specs.List.{count_by}
use Rattle.std.specs.Result.{result_ok}
use Rattle.std.proofs.lemmas.Option.{slice_get_within}
use Rattle.llb_model.specs.State.{State, Idle}
use Rattle.llb_model.specs.Table.{Job, Reply, Claimed, HasStepped, HasSettled, HasCancelled, claim_grant, table}
use Rattle.llb_model.specs.Landing.{landing}
use Rattle.llb_model.proofs.GrantedEvents.{claim_is}
use Rattle.llb_events.specs.declared.event.Event.{Event}
use Rattle.llb_events.specs.declared.event.Event.TheVariants.{Claim, Step, Settle, Cancel}
use Rattle.llb_events.specs.declared.event.Stepped.{Stepped}
use Rattle.llb_events.specs.declared.event.Settled.{Settled}
use Rattle.llb_events.specs.declared.event.Cancelled.{Cancelled}
use Rattle.llb_events.specs.declared.refusal.ClaimFault.{ClaimFault}
use Rattle.llb_events.specs.declared.refusal.StepFault.{StepFault}
use Rattle.llb_events.specs.declared.refusal.SettleFault.{SettleFault}
use Rattle.llb_events.specs.declared.refusal.CancelFault.{CancelFault}
use Rattle.llb_events.specs.Faults.{GivesClaim, GivesStep, GivesSettle, GivesCancel}
use Rattle.llb_execution.specs.Jobs.{OutcomeValue}
use Rattle.llb_board.specs.BoardValue.{BoardValue, after_event, recorded}
use Rattle.llb_board.specs.PlainVertexJobs.{ClaimsArePlain}
use Rattle.llb_board.specs.Landing.{Lands}
use Rattle.llb_board.specs.EventResults.{claim_of, step_of, settle_of, cancel_of}
use Rattle.llb_board.specs.declared.fault.LandFault.{LandFault}
use Rattle.llb_work.specs.LockSharingWorkers.{GoesOn, CancelsNothing, is_cancel}
use Rattle.llb_work.specs.SingleThreadDriver.{Takes}
use Rattle.llb_work.specs.Tasks.{IsClaimed}
use Rattle.llb_work.proofs.BoardContinuations.{stays, takes_one}
use Rattle.llb_work.proofs.CancelFreeEvents.{as_before, block, takes_no_cancel, leaves_cancels}
use Rattle.llb_work.proofs.DriverEvents.{claim_takes, step_takes, settle_takes, cancel_takes}
use Rattle.llb_work.proofs.WorkersAndVertices.{is_of_both}

-- a board goes on from another, by events none of which is a cancel
pub record Works (b n : BoardValue) : Type 0 where
  pub goes : GoesOn b n
  pub uncancelled : CancelsNothing b n

works_by : (b n : BoardValue) (e : Event) → is_cancel e ≡ false → Takes b e n → Works b n
works_by b n e is takes = record { goes = takes_one b n e takes; uncancelled = takes_no_cancel b n e is takes }

rests : (b n : BoardValue) → n ≡ b → Works b n
rests b n same = record { goes = stays b n same; uncancelled = leaves_cancels b n same }

-- a claim adds its event to the record or changes nothing
pub claim_works : (b n : BoardValue) (w v : ℕ) (r : Result Job ClaimFault) → GivesClaim (λ job. (n, Claimed job)) r (claim_of b w v) → OnErr r (n ≡ b)
    → Works b n
claim_works b n w v (Ok job) gives err = works_by b n (Claim w v) refl (claim_takes Claimed b n w v (Ok job) gives refl)
claim_works b n w v (Err e) gives err = rests b n err

-- if a recorded call returns a board and a reply, it was granted with the state of that board and that reply
granted : {F : Type 0} (b n : BoardValue) (e : Event) (o : Result (State × Reply) F) (r : Reply) → recorded b e o ≡ Ok (n, r)
    → result_ok o ≡ Some (n.state, r)
granted {F} b n e (Err cause) r given = absurd cc
granted {F} b n e (Ok (s, q)) r given =
    let same : ◌≡◌ {A = BoardValue × Reply} (after_event b e s, q) (n, r) = inside_ok given in
    ap (λ (x : BoardValue × Reply). Some (x.0.state, x.1)) same
  where
    inside_ok : {x y : BoardValue × Reply} → ◌≡◌ {A = Result (BoardValue × Reply) F} (Ok x) (Ok y) → x ≡ y
    inside_ok e = cc

job_in : Job → Reply → Job
job_in other (Claimed job) = job
job_in other r = other

-- a claim that is granted is of a worker and a vertex of the board, and so is its job
pub claim_here : (b n : BoardValue) (w v : ℕ) (r : Result Job ClaimFault) → ClaimsArePlain b → GivesClaim (λ job. (n, Claimed job)) r (claim_of b w v)
    → IfOk r (IsClaimed b w v)
unfolding table job_in
claim_here b n w v (Err e) plain gives = tt
claim_here b n w v (Ok job) plain gives =
    let given = granted b n (Claim w v) (claim_grant b.build b.state w v) (Claimed job) gives in
    let c = claim_is b.build b.state w v (n.state, Claimed job) given in
    let same = ap (λ (a : State × Reply). job_in job a.1) c.gives in
    let worker = slice_get_within b.state.workers w Idle c.idle in
    let vertex = slice_get_within b.build.graph.vertices v c.start.vertex c.begins.there in
    record {
      worker = ap (λ (j : Job). j.worker) same;
      vertex = ap (λ (j : Job). j.vertex) same;
      has = is_of_both b w v worker vertex;
      plain = λ is. plain w v n.state job is given;
    }

-- a step adds its event to the record or changes nothing
pub step_works : (b n : BoardValue) (w : ℕ) (r : Result Stepped StepFault) → GivesStep (λ s. (n, HasStepped s)) r (step_of b w) → OnErr r (n ≡ b) → Works b n
step_works b n w (Ok s) gives err = works_by b n (Step w) refl (step_takes b n w (Ok s) gives refl)
step_works b n w (Err e) gives err = rests b n err

-- a settle adds its event to the record or changes nothing
pub settle_works : (b n : BoardValue) (w : ℕ) (r : Result Settled SettleFault) → GivesSettle (λ s. (n, HasSettled s)) r (settle_of b w) → OnErr r (n ≡ b)
    → Works b n
settle_works b n w (Ok s) gives err = works_by b n (Settle w) refl (settle_takes b n w (Ok s) gives refl)
settle_works b n w (Err e) gives err = rests b n err

-- a cancel adds its event to the record or changes nothing
pub cancel_goes : (b n : BoardValue) (w : ℕ) (r : Result Cancelled CancelFault) → GivesCancel (λ s. (n, HasCancelled s)) r (cancel_of b w) → OnErr r (n ≡ b)
    → GoesOn b n
cancel_goes b n w (Ok s) gives err = takes_one b n (Cancel w) (cancel_takes b n w (Ok s) gives refl)
cancel_goes b n w (Err e) gives err = stays b n err

-- a landing adds its block of events to the record
pub landed_works : (b n : BoardValue) (w : ℕ) (o : OutcomeValue) (reply : Reply) → Lands b w o n reply → Works b n
landed_works b n w o reply lands = record {
  goes = record {
    build = ap (λ (x : BoardValue). x.build) lands.recorded;
    opening = ap (λ (x : BoardValue). x.opening) lands.recorded;
    first = ap (λ (x : BoardValue). x.first) lands.recorded;
    more = landing w o.count;
    replies = lands.replies ++ reply ∷ [];
    leads = lands.runs;
    events = ap (λ (x : BoardValue). x.events) lands.recorded;
  };
  uncancelled = ap (λ (x : BoardValue). count_by is_cancel x.events) lands.recorded ∙ as_before b.events (landing w o.count) (block w o.count);
}

-- a landing adds its block of events to the record or changes nothing
pub land_works : (b n : BoardValue) (w : ℕ) (o : OutcomeValue) (r : Result Settled LandFault) → IfOk r (λ s. Lands b w o n (HasSettled s)) → OnErr r (n ≡ b)
    → Works b n
land_works b n w o (Ok s) gives err = landed_works b n w o (HasSettled s) gives
land_works b n w o (Err e) gives err = rests b n err
