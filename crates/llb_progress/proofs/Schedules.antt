-- What a schedule does to a board, event by event.
use Rattle.std.proofs.Common.{◌≡◌, ℕ, ◌+◌, ◌<◌, ◌≤◌, Bool, true, false, cond, List, [], ◌∷◌, ◌++◌, length, Option, Some, None, is_some, option_map}
use Rattle.std.proofs.Common.{inl, inr, refl, sym, ap, subst, ◌∙◌, append_assoc, arith}
use Rattle.std.proofs.lemmas.List.{append-nil, length-append}
use Rattle.std.proofs.Common.{drop, get_or, add-one, drop-cons}
use Rattle.std.specs.Prelude.{slice_get, Result, Ok, Err, IfOk, OnOk}
use Rattle.std.specs.Result.{result_ok}
use Rattle.llb_events.specs.declared.event.Event.{Event}
use Rattle.llb_events.specs.declared.event.Event.TheVariants.{Claim, Step, Settle, Cancel}
use Rattle.llb_model.specs.Program.{Build}
use Rattle.llb_model.specs.State.{Execution, WorkerStatus, Idle, Runs, State, is_finished, is_ready, program_in, runs}
use Rattle.llb_model.specs.Table.{Reply, claim_grant, step_grant, settle_grant, cancel_grant, table}
use Rattle.llb_model.specs.Run.{run, chosen}
use Rattle.llb_model.specs.EventBounds.{still_to_come}
use Rattle.llb_model.specs.WholeRunLaws.{AreChosen}
use Rattle.llb_model.proofs.Lists.{inside}
use Rattle.llb_model.proofs.RunExtension.{run_first, run_more, run_none, run_on}
use Rattle.llb_model.proofs.RemainingEvents.{event_room}
use Rattle.llb_model.proofs.ChosenEventRuns.{chosen_goes_on}
use Rattle.llb_board.specs.BoardValue.{BoardValue, recorded}
use Rattle.llb_board.specs.Statuses.{look_of}
use Rattle.llb_board.specs.UndoableEvents.{told_as, walk_of}
use Rattle.llb_board.specs.declared.board.undoable_event.Reply as short
use Rattle.llb_board.specs.declared.fault.WalkFault.{WalkFault}
use Rattle.llb_board.specs.declared.fault.WalkFault.TheVariants as walk
use Rattle.llb_board.specs.declared.status.WorkerStatus.TheVariants as worker
use Rattle.llb_board.proofs.UndoOfGrantedEvents.{granted}
use Rattle.llb_progress.specs.Progress.{GoOnly, HasFewToCome, IsHeldUp, ReadyIsClaimedOrHeldUp, all_events, is_cancel}
use Rattle.llb_progress.specs.Schedules.{Follows, GoesBy, GoesByChosen, after_schedule, done_by, taken}
use Rattle.llb_progress.proofs.BoundedRuns.{cancel_none}

-- ---- one event

-- an event that is done is granted
pub follows : (b n : BoardValue) (e : Event) (r : short.Reply) → walk_of b e ≡ Ok (n, r) → Follows b e n
follows b n e r is = let g = granted b n e r is in record { state = g.answer.0; reply = g.answer.1; granted = g.grants; is = g.is }

refused_by : {F : Type 0} (b : BoardValue) (e : Event) (out : F → WalkFault) (o : Result (State × Reply) F) (f : WalkFault)
    → told_as out (recorded b e o) ≡ Err f → result_ok o ≡ None
refused_by b e out (Err cause) f is = refl
refused_by b e out (Ok p) f is = absurd cc

-- an event that is refused is not granted
pub refused : (b : BoardValue) (e : Event) (f : WalkFault) → walk_of b e ≡ Err f → table b.build b.state e ≡ None
unfolding table
refused b (Claim w v) f is = refused_by b (Claim w v) walk.Claim (claim_grant b.build b.state w v) f is
refused b (Step w) f is = refused_by b (Step w) walk.Step (step_grant b.build b.state w) f is
refused b (Settle w) f is = refused_by b (Settle w) walk.Settle (settle_grant b.build b.state w) f is
refused b (Cancel w) f is = refused_by b (Cancel w) walk.Cancel (cancel_grant b.state w) f is

-- what holds of a value that is returned, from something else that holds of it
pub if_ok : {A E : Type 0} {P Q : A → Type 0} (r : Result A E) → IfOk r P → ((x : A) → P x → Q x) → IfOk r Q
if_ok (Ok x) h f = f x h
if_ok (Err e) h f = tt

-- ---- a running worker

-- what a worker runs that is seen to run something
pub record SeenToRun (b : Build) (o : Option WorkerStatus) (finished : Bool) : Type 0 where
  pub execution : Execution
  pub there : o ≡ Some (Runs execution)
  pub is : finished ≡ is_finished (program_in b execution).steps execution

pub seen_to_run : (b : Build) (o : Option WorkerStatus) (v done : ℕ) (finished : Bool) → option_map (look_of b) o ≡ Some (worker.Runs v done finished)
    → SeenToRun b o finished
seen_to_run b None v done finished is = absurd cc
seen_to_run b (Some Idle) v done finished is = absurd cc
seen_to_run b (Some (Runs x)) v done finished is = record { execution = x; there = refl; is = cc }

-- a worker that is not seen to run anything
pub seen_idle : (b : Build) (o : Option WorkerStatus) → option_map (look_of b) o ≡ Some worker.Idle → runs o ≡ None
seen_idle b None is = refl
seen_idle b (Some Idle) is = refl
seen_idle b (Some (Runs x)) is = absurd cc

pub not_seen : (b : Build) (o : Option WorkerStatus) → option_map (look_of b) o ≡ None → runs o ≡ None
not_seen b None is = refl
not_seen b (Some Idle) is = refl
not_seen b (Some (Runs x)) is = absurd cc

-- ---- a claim

-- the claim of a Ready vertex by an idle worker is held up if it is refused
pub held_up : (b : BoardValue) (w v : ℕ) → ReadyIsClaimedOrHeldUp b.build b.state → slice_get b.state.workers w ≡ Some Idle
    → is_ready b.build b.state.statuses v ≡ true → table b.build b.state (Claim w v) ≡ None → IsHeldUp b.build b.state w v
held_up b w v law idle is none = elim (law w v idle is) [ inl g ↦ absurd (let h = ap is_some none in cc) | inr h ↦ h ]

-- ---- several events

-- a board on which nothing was done
pub goes_nowhere : (b : BoardValue) → GoesBy b b
unfolding run
goes_nowhere b = record { build = refl; more = []; goes = tt; replies = []; leads = refl; events = sym (append-nil b.events) }

only_more : (es fs : List Event) → GoOnly es → GoOnly fs → GoOnly (es ++ fs)
only_more [] fs all more = more
only_more (e ∷ es) fs all more = (all.0, only_more es fs all.1 more)

-- one event more
pub goes_further : (a b c : BoardValue) (e : Event) → GoesBy a b → is_cancel e ≡ false → Follows b e c → GoesBy a c
goes_further a b c e before is next = record {
  build = ap (λ (x : BoardValue). x.build) next.is ∙ before.build;
  more = before.more ++ e ∷ [];
  goes = only_more before.more (e ∷ []) before.goes (is, tt);
  replies = before.replies ++ next.reply ∷ [];
  leads = run_more a.build a.state b.state c.state before.more before.replies e next.reply before.leads given;
  events = ap (λ (x : BoardValue). x.events) next.is ∙ ap (λ es. es ++ e ∷ []) before.events ∙ append_assoc a.events before.more (e ∷ []);
}
  where
    given : table a.build b.state e ≡ Some (c.state, next.reply)
    given = ap (λ x. table x b.state e) (sym before.build) ∙ next.granted ∙ ap (λ (x : BoardValue). Some (x.state, next.reply)) (sym next.is)

-- a board on which nothing more was done
pub stays : (a b c : BoardValue) → GoesBy a b → c ≡ b → GoesBy a c
stays a b c before same = subst (GoesBy a) (sym same) before

-- one event more, if it was not refused
pub goes_if : (a b c : BoardValue) (e : Event) (done : Bool) → GoesBy a b → is_cancel e ≡ false → (done ≡ true → Follows b e c)
    → (done ≡ false → c ≡ b) → GoesBy a c
goes_if a b c e true before is taken kept = goes_further a b c e before is (taken refl)
goes_if a b c e false before is taken kept = stays a b c before (kept refl)

-- ---- a schedule

-- the board after an event of a schedule that is no cancel
pub taken_if : (b c : BoardValue) (e : Event) (done : Bool) → is_cancel e ≡ false → (done ≡ true → Follows b e c)
    → (done ≡ false → table b.build b.state e ≡ None) → (done ≡ false → c ≡ b) → c ≡ taken b e
taken_if b c e true is goes none kept =
    let next = goes refl in
    next.is ∙ sym (ap (done_by b e) next.granted) ∙ sym (ap (λ t. cond t b (done_by b e (table b.build b.state e))) is)
taken_if b c e false is goes none kept =
    kept refl ∙ sym (ap (done_by b e) (none refl)) ∙ sym (ap (λ t. cond t b (done_by b e (table b.build b.state e))) is)

next : (es : List Event) (i : ℕ) → i < length es → drop i es ≡ get_or es i (Claim 0 0) ∷ drop (i + 1) es
next es i inside = rw add-one (drop-cons es i (Claim 0 0) inside)

-- after one event more, the other events lead to the same board
pub after_more : (b c : BoardValue) (es : List Event) (i : ℕ) → i < length es → c ≡ taken b (get_or es i (Claim 0 0))
    → after_schedule c (drop (i + 1) es) ≡ after_schedule b (drop i es)
after_more b c es i inside same = ap (λ x. after_schedule x (drop (i + 1) es)) same ∙ sym (ap (after_schedule b) (next es i inside))

-- what holds anyway
pub on_ok : {A E P : Type 0} (r : Result A E) → P → OnOk r P
on_ok (Ok x) h = h
on_ok (Err e) h = tt

-- other events after these
pub goes_on : (a b c : BoardValue) → GoesBy a b → GoesBy b c → GoesBy a c
goes_on a b c before after = record {
  build = after.build ∙ before.build;
  more = before.more ++ after.more;
  goes = only_more before.more after.more before.goes after.goes;
  replies = before.replies ++ after.replies;
  leads = run_on a.build a.state b.state c.state before.more after.more before.replies after.replies before.leads
      (ap (λ x. run x b.state after.more) (sym before.build) ∙ after.leads);
  events = after.events ∙ ap (λ es. es ++ after.more) before.events ∙ append_assoc a.events before.more after.more;
}

-- the record grows by at most the events of all vertices
pub few_more : (a b : BoardValue) → HasFewToCome a.build a.state → GoesBy a b → length b.events ≤ length a.events + all_events a.build
few_more a b bound goes =
    let few = bound.few goes.more b.state goes.replies goes.goes goes.leads in
    let count : length b.events ≡ length a.events + length goes.more = ap length goes.events ∙ length-append a.events goes.more in
    omega (arith, few, bound.most, count)

-- ---- the chosen events

-- a chosen event is no cancel
pub chosen_goes : (b : BoardValue) (e : Event) → chosen b.build b.state ≡ Some e → is_cancel e ≡ false
chosen_goes b e is = cancel_none e (chosen_goes_on b.build b.state e is)

-- after a chosen event fewer events are still to come
pub nearer : (b c : BoardValue) (e : Event) → Follows b e c → chosen b.build b.state ≡ Some e
    → still_to_come c.build c.state < still_to_come b.build b.state
nearer b c e next is =
    let near = event_room b.build b.state e (next.state, next.reply) (chosen_goes_on b.build b.state e is) next.granted in
    subst (λ (x : BoardValue). still_to_come x.build x.state < still_to_come b.build b.state) (sym next.is) (omega (arith, near))

-- after chosen events, one more chosen event leaves all of them chosen
chosen_more : (b : Build) (s t : State) (es : List Event) (rs : List Reply) (e : Event) → run b s es ≡ Some (t, rs) → AreChosen b s es
    → chosen b t ≡ Some e → AreChosen b s (es ++ e ∷ [])
chosen_more b s t [] rs e leads all next = (ap (chosen b) (run_none b s t rs leads).0 ∙ next, λ a given. tt)
chosen_more b s t (x ∷ es) rs e leads all next =
    let first = run_first b s x es t rs leads in (
      all.0,
      λ a given.
          let same : first.a ≡ a = inside (sym first.given ∙ given) in
          chosen_more b a.0 t es first.rest e (ap (λ (y : State × Reply). run b y.0 es) (sym same) ∙ first.goes_on) (all.1 a given) next,
    )

-- a board on which nothing was done
pub chosen_nowhere : (b : BoardValue) → GoesByChosen b b
unfolding goes_nowhere
chosen_nowhere b = record { goes = goes_nowhere b; chosen = tt }

-- one chosen event more
pub chosen_further : (a b c : BoardValue) (e : Event) → GoesByChosen a b → chosen b.build b.state ≡ Some e → Follows b e c → GoesByChosen a c
unfolding goes_further
chosen_further a b c e before next follows = record {
  goes = goes_further a b c e before.goes (chosen_goes b e next) follows;
  chosen = chosen_more a.build a.state b.state before.goes.more before.goes.replies e before.goes.leads before.chosen
      (ap (λ x. chosen x b.state) (sym before.goes.build) ∙ next);
}
