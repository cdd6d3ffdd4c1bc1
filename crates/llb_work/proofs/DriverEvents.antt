-- What a driver's events do to a board.
use Rattle.std.proofs.Common.{◌≡◌, ℕ, ◌<◌, Bool, true, false, List, [], ◌∷◌, ◌++◌, Some, None, is_some, Result, Ok, Err, refl, sym, ap, subst}
use Rattle.std.proofs.Common.{◌∙◌, append_assoc, arith}
use Rattle.std.proofs.lemmas.List.{append-nil}
use Rattle.std.specs.Prelude.{is_ok}
use Rattle.std.specs.Bool.{OnTrue, OnFalse}
use Rattle.std.specs.Result.{result_ok}
use Rattle.llb_loader.specs.Graph.{IsGraph}
use Rattle.llb_model.specs.Table.{HasStepped, HasSettled, HasCancelled}
use Rattle.llb_model.specs.ConsistentStates.{IsConsistent}
use Rattle.llb_model.specs.Program.{Build}
use Rattle.llb_model.specs.State.{State}
use Rattle.llb_events.specs.declared.event.Event.{Event}
use Rattle.llb_events.specs.declared.event.Event.TheVariants.{Claim, Step, Settle, Cancel}
use Rattle.llb_model.specs.Table.{Reply, claim_grant, step_grant, settle_grant, cancel_grant, table}
use Rattle.llb_model.specs.Run.{run, chosen}
use Rattle.llb_model.specs.WholeRunLaws.{AreChosen}
use Rattle.llb_model.proofs.Lists.{inside as some_inside}
use Rattle.llb_model.proofs.RunExtension.{run_none, run_first, run_more}
use Rattle.llb_model.specs.EventBounds.{still_to_come}
use Rattle.llb_model.proofs.ChosenEventRuns.{Ascends, alone_step, chosen_comes_nearer}
use Rattle.llb_board.specs.BoardValue.{BoardValue, after_event, recorded}
use Rattle.llb_board.specs.Laws.{ChosenIsGranted}
use Rattle.llb_board.specs.EventResults.{claim_of, step_of, settle_of, cancel_of}
use Rattle.llb_events.specs.Faults.{GivesStep, GivesSettle, GivesCancel}
use Rattle.llb_events.specs.Faults.{GivesClaim}
use Rattle.llb_events.specs.declared.event.Stepped.{Stepped}
use Rattle.llb_events.specs.declared.event.Settled.{Settled}
use Rattle.llb_events.specs.declared.refusal.ClaimFault.{ClaimFault}
use Rattle.llb_events.specs.declared.refusal.StepFault.{StepFault}
use Rattle.llb_events.specs.declared.refusal.SettleFault.{SettleFault}
use Rattle.llb_events.specs.declared.event.Cancelled.{Cancelled}
use Rattle.llb_events.specs.declared.refusal.CancelFault.{CancelFault}
use Rattle.llb_work.specs.LockSharingWorkers.{GoesOn}
use Rattle.llb_work.specs.SingleThreadDriver.{Takes, Goes, IsLeft, TakesMemory}

abbrev ok_of : {A F : Type 0} → A → Result A F
ok_of x = Ok x

inside : {A F : Type 0} {x y : A} → ok_of {F = F} x ≡ ok_of y → x ≡ y
inside e = cc

-- a call that is granted takes its event
pub takes_of : {F : Type 0} (b : BoardValue) (e : Event) (o : Result (State × Reply) F) (n : BoardValue) (r : Reply)
    → table b.build b.state e ≡ result_ok o → recorded b e o ≡ Ok (n, r) → Takes b e n
takes_of {F} b e (Err cause) n r is given = absurd cc
takes_of {F} b e (Ok (s, q)) n r is given =
    let same : after_event b e s ≡ n = ap (λ (x : BoardValue × Reply). x.0) (inside {F = F} given) in
    subst (Takes b e) same (record { build = refl; opening = refl; first = refl; reply = q; given = is; events = refl })

-- a driver that has done nothing has gone on by no event
pub chosen_nowhere : (b : BoardValue) → Goes b b
unfolding run
chosen_nowhere b =
    record { build = refl; opening = refl; first = refl; more = []; replies = []; leads = refl; chosen = tt; events = sym (append-nil b.events) }

-- the chosen events of a driver are events that are granted
pub all_granted : (a b : BoardValue) → Goes a b → GoesOn a b
all_granted a b goes = record {
  build = goes.build;
  opening = goes.opening;
  first = goes.first;
  more = goes.more;
  replies = goes.replies;
  leads = goes.leads;
  events = goes.events;
}

-- after chosen events, one more chosen event leaves all of them chosen
chosen_more : (b : Build) (s t : State) (es : List Event) (rs : List Reply) (e : Event) → run b s es ≡ Some (t, rs) → AreChosen b s es
    → chosen b t ≡ Some e → AreChosen b s (es ++ e ∷ [])
chosen_more b s t [] rs e leads all next = (ap (chosen b) (run_none b s t rs leads).0 ∙ next, λ a given. tt)
chosen_more b s t (x ∷ es) rs e leads all next =
    let first = run_first b s x es t rs leads in (
      all.0,
      λ a given.
          let same : first.a ≡ a = some_inside (sym first.given ∙ given) in
          chosen_more b a.0 t es first.rest e (ap (λ (y : State × Reply). run b y.0 es) (sym same) ∙ first.goes_on) (all.1 a given) next,
    )

-- a driver that has gone on goes further by a chosen event that is granted
pub chosen_further : (a b c : BoardValue) (e : Event) → Goes a b → chosen b.build b.state ≡ Some e → Takes b e c → Goes a c
chosen_further a b c e goes next takes = record {
  build = takes.build ∙ goes.build;
  opening = takes.opening ∙ goes.opening;
  first = takes.first ∙ goes.first;
  more = goes.more ++ e ∷ [];
  replies = goes.replies ++ takes.reply ∷ [];
  leads = run_more a.build a.state b.state c.state goes.more goes.replies e takes.reply goes.leads given;
  chosen = chosen_more a.build a.state b.state goes.more goes.replies e goes.leads goes.chosen (ap (λ x. chosen x b.state) (sym goes.build) ∙ next);
  events = takes.events ∙ ap (λ es. es ++ e ∷ []) goes.events ∙ append_assoc a.events goes.more (e ∷ []);
}
  where
    given : table a.build b.state e ≡ Some (c.state, takes.reply)
    given = ap (λ x. table x b.state e) (sym goes.build) ∙ takes.given

-- if the claims so far ascend, they still ascend after a chosen event
pub ascends_on : (b c : BoardValue) (e : Event) → IsGraph b.build.graph → IsConsistent b.build b.state → chosen b.build b.state ≡ Some e
    → Takes b e c → Ascends b.build b.state b.events → Ascends c.build c.state c.events
ascends_on b c e graph here is takes up =
    subst (λ x. Ascends x c.state c.events) (sym takes.build) (subst (Ascends b.build c.state) (sym takes.events)
    (alone_step b.build graph b.state c.state e takes.reply b.events here is takes.given up))

-- after a chosen event fewer events are still to come
pub nearer : (b c : BoardValue) (e : Event) → Takes b e c → chosen b.build b.state ≡ Some e
    → still_to_come c.build c.state < still_to_come b.build b.state
nearer b c e takes is =
    let near = chosen_comes_nearer b.build b.state e (c.state, takes.reply) is takes.given in
    let same = ap (λ x. still_to_come x c.state) takes.build in
    omega (arith, near, same)

-- ---- the four calls

-- a claim that returns a job is granted, and is added at the end of the record
pub claim_takes : {J : Type 0} (reply : J → Reply) (b n : BoardValue) (w v : ℕ) (r : Result J ClaimFault)
    → GivesClaim (λ job. (n, reply job)) r (claim_of b w v) → is_ok r ≡ true
    → Takes b (Claim w v) n
unfolding table
claim_takes reply b n w v (Ok job) gives ok = takes_of b (Claim w v) (claim_grant b.build b.state w v) n (reply job) refl gives
claim_takes reply b n w v (Err e) gives ok = absurd cc

-- a step that returns no fault is granted, and is added at the end of the record
pub step_takes : (b n : BoardValue) (w : ℕ) (r : Result Stepped StepFault) → GivesStep (λ s. (n, HasStepped s)) r (step_of b w) → is_ok r ≡ true
    → Takes b (Step w) n
unfolding table
step_takes b n w (Ok s) gives ok = takes_of b (Step w) (step_grant b.build b.state w) n (HasStepped s) refl gives
step_takes b n w (Err e) gives ok = absurd cc

-- a settle that returns no fault is granted, and is added at the end of the record
pub settle_takes : (b n : BoardValue) (w : ℕ) (r : Result Settled SettleFault) → GivesSettle (λ s. (n, HasSettled s)) r (settle_of b w)
    → is_ok r ≡ true → Takes b (Settle w) n
unfolding table
settle_takes b n w (Ok s) gives ok = takes_of b (Settle w) (settle_grant b.build b.state w) n (HasSettled s) refl gives
settle_takes b n w (Err e) gives ok = absurd cc

-- a settle that is refused is not granted
pub settle_left : (b n : BoardValue) (w : ℕ) (r : Result Settled SettleFault) → GivesSettle (λ s. (n, HasSettled s)) r (settle_of b w)
    → is_ok r ≡ false → IsLeft b (Settle w)
unfolding table
settle_left b n w (Ok s) gives refused = absurd cc
settle_left b n w (Err e) gives refused = by_grant (settle_grant b.build b.state w) (gives refl)
  where
    by_grant : (o : Result (State × Reply) SettleFault) → recorded b (Settle w) o ≡ Err e → result_ok o ≡ None
    by_grant (Err cause) is = refl
    by_grant (Ok p) is = absurd cc

-- a cancel that returns no fault is granted, and is added at the end of the record
pub cancel_takes : (b n : BoardValue) (w : ℕ) (r : Result Cancelled CancelFault) → GivesCancel (λ s. (n, HasCancelled s)) r (cancel_of b w)
    → is_ok r ≡ true → Takes b (Cancel w) n
unfolding table
cancel_takes b n w (Ok s) gives ok = takes_of b (Cancel w) (cancel_grant b.state w) n (HasCancelled s) refl gives
cancel_takes b n w (Err e) gives ok = absurd cc

-- a cancel that is refused is not granted
pub cancel_left : (b n : BoardValue) (w : ℕ) (r : Result Cancelled CancelFault) → GivesCancel (λ s. (n, HasCancelled s)) r (cancel_of b w)
    → is_ok r ≡ false → IsLeft b (Cancel w)
unfolding table
cancel_left b n w (Ok s) gives refused = absurd cc
cancel_left b n w (Err e) gives refused = by_grant (cancel_grant b.state w) (gives refl)
  where
    by_grant : (o : Result (State × Reply) CancelFault) → recorded b (Cancel w) o ≡ Err e → result_ok o ≡ None
    by_grant (Err cause) is = refl
    by_grant (Ok p) is = absurd cc

-- a chosen event that was not done takes memory
pub left_over : (b : BoardValue) (e : Event) → ChosenIsGranted b → chosen b.build b.state ≡ Some e → IsLeft b e → TakesMemory (chosen b.build b.state)
left_over b e granted is left = subst TakesMemory (sym is) (by_event e is left)
  where
    by_event : (e : Event) → chosen b.build b.state ≡ Some e → IsLeft b e → TakesMemory (Some e)
    by_event (Claim w v) is left = tt
    by_event (Step w) is left = tt
    by_event (Settle w) is left = let none : is_some (table b.build b.state (Settle w)) ≡ false = ap is_some left in absurd (cc (none, granted (Settle w) is))
    by_event (Cancel w) is left = let none : is_some (table b.build b.state (Cancel w)) ≡ false = ap is_some left in absurd (cc (none, granted (Cancel w) is))

-- what follows if a test is true may be promised on true
pub on_true : (b : Bool) (P : Type 0) → (b ≡ true → P) → OnTrue b P
on_true true P f = f refl
on_true false P f = tt

-- what follows if a test is false may be promised on false
pub on_false : (b : Bool) (P : Type 0) → (b ≡ false → P) → OnFalse b P
on_false true P f = tt
on_false false P f = f refl

-- what is promised on true holds if the test is true
pub when_true : (b : Bool) (P : Type 0) → OnTrue b P → b ≡ true → P
when_true true P h is = h
when_true false P h is = absurd cc
