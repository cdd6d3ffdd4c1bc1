-- What a walk of the board says of the table: the board after the event, and the reply.
use Rattle.std.proofs.Common.{◌≡◌, suc, ◌+◌, Bool, true, false, List, [], ◌∷◌, ◌++◌, length, reverse, Option, Some, None, option_map}
use Rattle.std.proofs.Common.{is_some, refl, sym, ap, ◌∙◌, subst}
use Rattle.std.proofs.lemmas.List.{reverse-append, length-reverse, length-append}
use Rattle.std.specs.Prelude.{Result, Ok, Err}
use Rattle.std.specs.List.{list_any}
use Rattle.std.specs.Result.{result_ok}
use Rattle.llb_events.specs.declared.event.Settled.TheVariants as ended
use Rattle.llb_model.specs.Run.{chosen}
use Rattle.llb_model.specs.State.{State}
use Rattle.llb_events.specs.declared.event.Event.{Event}
use Rattle.llb_events.specs.declared.event.Event.TheVariants.{Claim, Step, Settle, Cancel}
use Rattle.llb_model.specs.Table.{Reply, Claimed, HasStepped, HasSettled, HasCancelled}
use Rattle.llb_model.specs.Table.{claim_grant, step_grant, settle_grant, cancel_grant, table}
use Rattle.llb_board.specs.BoardValue.{BoardValue, after_event, recorded}
use Rattle.llb_board.specs.Laws.{ChosenIsGranted}
use Rattle.llb_board.specs.UndoableEvents.{told, told_as, undone, walk_of, CanUndo}
use Rattle.llb_board.specs.declared.fault.WalkFault.{WalkFault}
use Rattle.llb_board.specs.declared.fault.WalkFault.TheVariants as walk
use Rattle.llb_board.specs.declared.board.undoable_event.Reply as short
use Rattle.llb_board.specs.declared.board.undoable_event.Walked.{Walked}
use Rattle.llb_stepper.specs.declared.stop.Break.{Break}
use Rattle.llb_stepper.specs.declared.stop.Break.TheVariants as stop
use Rattle.llb_stepper.specs.declared.fault.StepperFault.{StepperFault}
use Rattle.llb_stepper.specs.StepperResults.{MeetsOn, done_by, done_of, stepper_memory}
use Rattle.llb_stepper.specs.Stepping.{Stepping, GoesBack, answered, onward, meets}
use Rattle.llb_stepper.specs.UndoableEventReplies.{meets_told}
use Rattle.llb_stepper.specs.StepperInvariant.{past_of, stepping, Follows, AreWalked}

abbrev Walk : Type 0
Walk = Result (BoardValue × short.Reply) WalkFault

inside : {x y : BoardValue × short.Reply} → ◌≡◌ {A = Walk} (Ok x) (Ok y) → x ≡ y
inside e = cc

-- an event that is granted: the board after it, and its reply in short
by_grant : {F : Type 0} (b n : BoardValue) (e : Event) (q : short.Reply) (out : F → WalkFault) (o : Result (State × Reply) F)
    → told_as out (recorded b e o) ≡ Ok (n, q) → (r : Reply) × (option_map {U = BoardValue × Reply} (λ a. (after_event b e a.0, a.1)) (result_ok o)
    ≡ Some (n, r)) × (q ≡ told r)
by_grant b n e q out (Err cause) is = absurd cc
by_grant b n e q out (Ok (s, r)) is =
    let same = inside is in
    (r, ap (λ (p : BoardValue × short.Reply). Some (p.0, r)) same, ap (λ (p : BoardValue × short.Reply). p.1) (sym same))

pub answers : (b n : BoardValue) (e : Event) (q : short.Reply) → walk_of b e ≡ Ok (n, q) → (r : Reply) × (answered b e ≡ Some (n, r)) × (q ≡ told r)
unfolding table
answers b n (Claim w v) q is = by_grant b n (Claim w v) q walk.Claim (claim_grant b.build b.state w v) is
answers b n (Step w) q is = by_grant b n (Step w) q walk.Step (step_grant b.build b.state w) is
answers b n (Settle w) q is = by_grant b n (Settle w) q walk.Settle (settle_grant b.build b.state w) is
answers b n (Cancel w) q is = by_grant b n (Cancel w) q walk.Cancel (cancel_grant b.state w) is

-- where the table grants an event, a walk is not refused
grants_by : {F : Type 0} (b : BoardValue) (e : Event) (out : F → WalkFault) (o : Result (State × Reply) F) (f : WalkFault)
    → is_some (result_ok o) ≡ true → told_as out (recorded b e o) ≡ Err f → ⊥
grants_by b e out (Err cause) f granted is = cc
grants_by b e out (Ok p) f granted is = cc

pub not_refused : (b : BoardValue) (e : Event) (f : WalkFault) → is_some (table b.build b.state e) ≡ true → walk_of b e ≡ Err f → ⊥
unfolding table
not_refused b (Claim w v) f granted is = grants_by b (Claim w v) walk.Claim (claim_grant b.build b.state w v) f granted is
not_refused b (Step w) f granted is = grants_by b (Step w) walk.Step (step_grant b.build b.state w) f granted is
not_refused b (Settle w) f granted is = grants_by b (Settle w) walk.Settle (settle_grant b.build b.state w) f granted is
not_refused b (Cancel w) f granted is = grants_by b (Cancel w) walk.Cancel (cancel_grant b.state w) f granted is

-- a breakpoint is met by a reply in short as by the reply
met_told : (e : Event) (r : Reply) (k : Break) → meets_told e (told r) k ≡ meets e r k
met_told e r (stop.Claims v) = refl
met_told e (Claimed job) (stop.Settles v) = refl
met_told e (HasStepped s) (stop.Settles v) = refl
met_told e (HasSettled (ended.Done u)) (stop.Settles v) = refl
met_told e (HasSettled (ended.Failed u)) (stop.Settles v) = refl
met_told e (HasCancelled c) (stop.Settles v) = refl
met_told e (Claimed job) stop.Fails = refl
met_told e (HasStepped s) stop.Fails = refl
met_told e (HasSettled (ended.Done u)) stop.Fails = refl
met_told e (HasSettled (ended.Failed u)) stop.Fails = refl
met_told e (HasCancelled c) stop.Fails = refl

pub any_told : (e : Event) (r : Reply) (ks : List Break) → list_any (meets_told e (told r)) ks ≡ list_any (meets e r) ks
any_told e r ks = ap (λ test. list_any test ks) (λ i k. met_told e r k i)

-- there are as many boards before as events were done
depth : (ws : List Walked) (b : BoardValue) → length (past_of b ws) ≡ length ws
depth [] b = refl
depth (w ∷ ws) b = ap suc (depth ws (undone w.undo b))

-- there are as many boards before a stepper's as events were done
pub depth_of : (ws : List Walked) (b : BoardValue) → length ws ≡ length (past_of b (reverse ws))
depth_of ws b = sym (length-reverse ws) ∙ sym (depth (reverse ws) b)

-- ---- one event more

module _ (b n : BoardValue) (e : Event) (ws : List Walked) (w : Walked) (back : undone w.undo n ≡ b) (given : walk_of b e ≡ Ok (n, w.reply)) where
  follows : Follows (undone w.undo n) n w.reply
  follows = let a = answers b n e w.reply given in record { event = e; reply = a.0; given = ap (λ x. answered x e) back ∙ a.1; same = a.2 }

  turned : reverse (ws ++ w ∷ []) ≡ w ∷ reverse ws
  turned = reverse-append ws (w ∷ [])

  -- one event more can be taken back too
  pub walked_more : CanUndo w.undo n → AreWalked b (reverse ws) → AreWalked n (reverse (ws ++ w ∷ []))
  walked_more can before = subst (AreWalked n) (sym turned) (can, follows, subst (λ x. AreWalked x (reverse ws)) (sym back) before)

  -- the stepper is after the event
  pub stepping_more : (breaks : List Break) → stepping n (ws ++ w ∷ []) breaks ≡ onward (stepping b ws breaks) n
  stepping_more breaks =
      ap (λ us. record { board = n; past = past_of n us; breaks = breaks }) turned
      ∙ ap (λ x. record { board = n; past = x ∷ past_of x (reverse ws); breaks = breaks }) back

  -- the reply decides whether the event meets a breakpoint, and the stepper is one event on
  pub meets_more : (s : Stepping) (ks : List Break) (us : List Walked) (met : Bool) → us ≡ ws ++ w ∷ [] → stepping b ws ks ≡ s
      → met ≡ list_any (meets_told e w.reply) ks → MeetsOn s e (stepping n us ks) met
  meets_more s ks us met more view is =
      let a = answers b n e w.reply given in
      let breaks : ks ≡ s.breaks = ap (λ (x : Stepping). x.breaks) view in
      let told_by : met ≡ list_any (meets_told e (told a.0)) ks = is ∙ ap (λ q. list_any (meets_told e q) ks) a.2 in (
        n,
        a.0,
        ap (λ (x : Stepping). answered x.board e) (sym view) ∙ a.1,
        ap (λ l. stepping n l ks) more ∙ stepping_more ks ∙ ap (λ x. onward x n) view,
        told_by ∙ any_told e a.0 ks ∙ ap (list_any (meets e a.0)) breaks,
      )

-- ---- a chosen event is refused only for want of memory

refused_by : (s : Stepping) (o : Walk) (f : StepperFault) → done_by s o ≡ Err f → (g : WalkFault) × (o ≡ Err g)
refused_by s (Ok p) f is = absurd cc
refused_by s (Err g) f is = (g, refl)

-- an event that the table grants is refused only for want of memory
pub memory_alone : (s : Stepping) (e : Event) (f : StepperFault) → is_some (table s.board.build s.board.state e) ≡ true
    → (stepper_memory f ≡ false → done_of s e ≡ Err f) → stepper_memory f ≡ true
memory_alone s e f granted refused = by_test (stepper_memory f) refl
  where
    by_test : (b : Bool) → stepper_memory f ≡ b → stepper_memory f ≡ true
    by_test true is = is
    by_test false is = let r = refused_by s (walk_of s.board e) f (refused is) in absurd (not_refused s.board e r.0 granted r.1)

-- what the law of a board says of a stepper's board
pub chosen_granted : (b : BoardValue) (s : Stepping) (e : Event) → b ≡ s.board → ChosenIsGranted b → chosen b.build b.state ≡ Some e
    → is_some (table s.board.build s.board.state e) ≡ true
chosen_granted b s e same law is = ap (λ (x : BoardValue). is_some (table x.build x.state e)) (sym same) ∙ law e is

-- the chosen event is granted by the table, so it is refused only for want of memory
pub chosen_done : (b : BoardValue) (s : Stepping) → b ≡ s.board → ChosenIsGranted b → (e : Event) (f : StepperFault) → chosen s.board.build s.board.state
    ≡ Some e
    → done_of s e ≡ Err f → stepper_memory f ≡ true
chosen_done b s same law e f is refused =
    memory_alone s e f (chosen_granted b s e same law (ap (λ (x : BoardValue). chosen x.build x.state) same ∙ is)) (λ told. refused)

-- ---- an event, and back

done_inside : (s t : Stepping) (o : Walk) → done_by s o ≡ Ok t → (p : BoardValue × short.Reply) × (t ≡ onward s p.0)
done_inside s t (Ok p) e = (p, cc)
done_inside s t (Err f) e = absurd cc

abbrev stood : BoardValue → List BoardValue → List Break → Stepping
stood b past breaks = record { board = b; past = past; breaks = breaks }

parts : (s u : Stepping) → s.board ∷ s.past ≡ u.board ∷ u.past → u.breaks ≡ s.breaks → u ≡ s
parts s u past breaks =
    let board : u.board ≡ s.board = cc in
    let before : u.past ≡ s.past = cc in
    ap (λ b. stood b u.past u.breaks) board ∙ ap (λ p. stood s.board p u.breaks) before ∙ ap (λ k. stood s.board s.past k) breaks

-- an event, and back, leads to the stepper as it was: board, boards before and breakpoints
pub gone_and_back : (s : Stepping) (e : Event) (t u : Stepping) → done_of s e ≡ Ok t → GoesBack t u → u ≡ s
gone_and_back s e t u done back =
    let d = done_inside s t (walk_of s.board e) done in
    parts s u (sym (ap (λ (x : Stepping). x.past) d.1) ∙ back.past) (back.breaks ∙ ap (λ (x : Stepping). x.breaks) d.1)

-- ---- one event fewer

some_inside : {x y : BoardValue × Reply} → Some x ≡ Some y → x ≡ y
some_inside e = cc

fewer_by : (before b : BoardValue) (e : Event) (r : Reply) (o : Option (State × Reply))
    → option_map {U = BoardValue × Reply} (λ a. (after_event before e a.0, a.1)) o ≡ Some (b, r) → length b.events ≡ length before.events + 1
fewer_by before b e r None is = absurd cc
fewer_by before b e r (Some a) is =
    ap (λ (x : BoardValue). length x.events) (sym (ap (λ (p : BoardValue × Reply). p.0) (some_inside is))) ∙ length-append before.events (e ∷ [])

fewer_in : (b : BoardValue) (w : Walked) (ws : List Walked) → AreWalked b (w ∷ ws) → length b.events ≡ length (undone w.undo b).events + 1
fewer_in b w ws (can, follows, before) =
    fewer_by (undone w.undo b) b follows.event follows.reply (table (undone w.undo b).build (undone w.undo b).state follows.event) follows.given

-- the record of the board before the last event is by that event shorter
pub fewer : (b n s : BoardValue) (all ws : List Walked) (w : Walked) → all ≡ ws ++ w ∷ [] → AreWalked b (reverse all) → b ≡ s → n ≡ undone w.undo b
    → length s.events ≡ length n.events + 1
fewer b n s all ws w last are same back =
    let by_last : AreWalked b (w ∷ reverse ws) = subst (AreWalked b) (ap reverse last ∙ reverse-append ws (w ∷ [])) are in
    ap (λ (x : BoardValue). length x.events) (sym same) ∙ fewer_in b w (reverse ws) by_last ∙ ap (λ (x : BoardValue). length x.events + 1) (sym back)
