-- Workers and vertices of a board, and of the boards that go on from it.
use Rattle.std.proofs.Common.{◌≡◌, ℕ, ◌<◌, ◌&&◌, Bool, true, false, List, length, Some, sym, ap, subst, ◌∙◌}
use Rattle.std.proofs.lemmas.Bool.{lt-ltb, ltb-true, and_parts}
use Rattle.std.specs.Prelude.{nat_lt, IfOk, Result, Ok, Err}
use Rattle.llb_model.specs.Program.{Build}
use Rattle.llb_model.specs.Outcome.{is_plain}
use Rattle.llb_model.specs.State.{State}
use Rattle.llb_events.specs.declared.event.Event.{Event}
use Rattle.llb_model.specs.Table.{Job, Reply}
use Rattle.llb_model.specs.Run.{run}
use Rattle.llb_model.proofs.GrantedEvents.{workers_stay}
use Rattle.llb_model.proofs.RunExtension.{run_keeps}
use Rattle.llb_board.specs.BoardValue.{BoardValue}
use Rattle.llb_events.specs.declared.refusal.ClaimFault.{ClaimFault}
use Rattle.llb_board.specs.PlainVertexJobs.{plain_job}
use Rattle.llb_work.specs.LockSharingWorkers.{IsAfter}
use Rattle.llb_work.specs.Tasks.{IsClaimed}
use Rattle.llb_work.specs.RunEnds.{is_of, may_be, StopsSomewhere}
use Rattle.llb_work.specs.declared.early_end.Noted.TheVariants.{Stopped}
use Rattle.llb_work.proofs.BoardContinuations.{goes_from}

both : (a b : Bool) → a ≡ true → b ≡ true → (a && b) ≡ true
both true true p q = p
both true false p q = q
both false b p q = absurd cc

pub is_of_both : (b : BoardValue) (w v : ℕ) → w < length b.state.workers → v < length b.build.graph.vertices → is_of b w v ≡ true
is_of_both b w v worker vertex =
    both (nat_lt w (length b.state.workers)) (nat_lt v (length b.build.graph.vertices)) (lt-ltb w (length b.state.workers) worker)
    (lt-ltb v (length b.build.graph.vertices) vertex)

-- a run does not change the number of workers
pub workers_same : (b : Build) (s t : State) (es : List Event) (rs : List Reply) → run b s es ≡ Some (t, rs) → length t.workers ≡ length s.workers
workers_same b s t es rs leads =
    run_keeps b (λ (x : State). length x.workers ≡ length s.workers) (λ x e a same given. workers_stay b x e a given ∙ same) s t es rs
    (λ i. length s.workers) leads

-- a worker and a vertex of a board are of the board that it began from too
pub is_of_start : (s b : BoardValue) (w v : ℕ) → IsAfter s b → is_of b w v ≡ true → is_of s w v ≡ true
is_of_start s b w v is has =
    let goes = goes_from s b is in
    let workers = workers_same s.build s.state b.state goes.more goes.replies goes.leads in
    let build = is.build in
    sym (ap (λ n. nat_lt w n && nat_lt v (length b.build.graph.vertices)) workers ∙ ap (λ (x : Build). nat_lt w (length s.state.workers)
    && nat_lt v (length x.graph.vertices)) build) ∙ has

-- a claim on a board is one on the board that it began from
pub claimed_at_first : (s b : BoardValue) (w v : ℕ) (r : Result Job ClaimFault) → IsAfter s b → IfOk r (IsClaimed b w v) → IfOk r (IsClaimed s w v)
claimed_at_first s b w v (Err e) is claimed = tt
claimed_at_first s b w v (Ok job) is claimed = record {
  worker = claimed.worker;
  vertex = claimed.vertex;
  has = is_of_start s b w v is claimed.has;
  plain = subst (λ (g : Build). is_plain g v ≡ true → plain_job g w v ≡ Some job) is.build claimed.plain;
}

-- the job of a worker on a vertex is one on the vertex that it names
pub claimed_as : (s : BoardValue) (w v : ℕ) (job : Job) → IsClaimed s w v job → IsClaimed s w job.vertex job
claimed_as s w v job claimed = subst (λ u. IsClaimed s w u job) (sym claimed.vertex) claimed

-- a stop that may be noted is one at a worker and a vertex of the board
pub stops_here : (may_stop : ℕ → ℕ → Bool) (b : BoardValue) (w v : ℕ) → may_be may_stop b (Some (Stopped w v)) ≡ true → StopsSomewhere may_stop b
stops_here may_stop b w v is =
    let has = (and_parts (may_stop w v) (is_of b w v) is).1 in (
      w,
      v,
      ltb-true w (length b.state.workers) (and_parts (nat_lt w (length b.state.workers)) (nat_lt v (length b.build.graph.vertices)) has).0,
      ltb-true v (length b.build.graph.vertices) (and_parts (nat_lt w (length b.state.workers)) (nat_lt v (length b.build.graph.vertices)) has).1,
      (and_parts (may_stop w v) (is_of b w v) is).0,
    )

-- a stop at a worker and a vertex of the board, where the gate may stop, may be noted
pub may_be_here : (may_stop : ℕ → ℕ → Bool) (b : BoardValue) (w v : ℕ) → may_stop w v ≡ true → is_of b w v ≡ true → may_be may_stop b (Some (Stopped w v))
    ≡ true
may_be_here may_stop b w v may has = both (may_stop w v) (is_of b w v) may has
