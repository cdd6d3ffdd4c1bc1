-- A look at the kinds of breakpoints finds what a look at each breakpoint finds.
use Rattle.std.proofs.Common.{◌≡◌, ℕ, ◌==◌, ◌||◌, Bool, true, false, List, [], ◌∷◌, refl, sym, ap, ◌∙◌}
use Rattle.std.specs.List.{list_any}
use Rattle.llb_events.specs.declared.event.Event.{Event}
use Rattle.llb_events.specs.declared.event.Event.TheVariants.{Claim, Step, Settle, Cancel}
use Rattle.llb_events.specs.declared.event.Settled.TheVariants as settled
use Rattle.llb_board.specs.declared.board.undoable_event.Reply.{Reply}
use Rattle.llb_board.specs.declared.board.undoable_event.Reply.TheVariants as reply
use Rattle.llb_stepper.specs.declared.breakpoints.Kinds.{Kinds}
use Rattle.llb_stepper.specs.declared.stop.Break.{Break}
use Rattle.llb_stepper.specs.declared.stop.Break.TheVariants as stop
use Rattle.llb_stepper.specs.Stepping.{claims}
use Rattle.llb_stepper.specs.UndoableEventReplies.{settles_told, failed_told, meets_told}
use Rattle.llb_stepper.specs.BreakpointSets.{AreKinds, is_at_claims, is_at_settles, is_at_failures, is_met_by_event, is_met_by_reply}

-- whether a breakpoint is met by an event, whatever its reply
abbrev by_event : Event → Break → Bool
by_event e (stop.Claims v) = claims v e
by_event e (stop.Settles v) = false
by_event e stop.Fails = false

-- whether a breakpoint is met by a reply
abbrev by_reply : Reply → Break → Bool
by_reply r (stop.Claims v) = false
by_reply r (stop.Settles v) = settles_told v r
by_reply r stop.Fails = failed_told r

-- ---- one breakpoint in front of others, of which some are met by a or by b

or_first : (a b c d : Bool) → c ≡ (a || b) → (d || c) ≡ ((d || a) || b)
or_first a b c true is = refl
or_first a b c false is = is

or_second : (a b c d : Bool) → c ≡ (a || b) → (d || c) ≡ (a || (d || b))
or_second true b c true is = refl
or_second true b c false is = is
or_second false b c d is = ap (λ x. d || x) is

-- a breakpoint is met by the event or by the reply
parted : (e : Event) (r : Reply) (bs : List Break) → list_any (meets_told e r) bs ≡ (list_any (by_event e) bs || list_any (by_reply r) bs)
parted e r [] = refl
parted e r (stop.Claims v ∷ bs) = or_first _ _ _ (claims v e) (parted e r bs)
parted e r (stop.Settles v ∷ bs) = or_second _ _ _ (settles_told v r) (parted e r bs)
parted e r (stop.Fails ∷ bs) = or_second _ _ _ (failed_told r) (parted e r bs)

-- ---- events

no_claim : (e : Event) (bs : List Break) → ((v : ℕ) → claims v e ≡ false) → false ≡ list_any (by_event e) bs
no_claim e [] none = refl
no_claim e (stop.Claims v ∷ bs) none = no_claim e bs none ∙ ap (λ x. x || list_any (by_event e) bs) (sym (none v))
no_claim e (stop.Settles v ∷ bs) none = no_claim e bs none
no_claim e (stop.Fails ∷ bs) none = no_claim e bs none

at_claim : (w v : ℕ) (bs : List Break) → list_any (is_at_claims v) bs ≡ list_any (by_event (Claim w v)) bs
at_claim w v [] = refl
at_claim w v (stop.Claims u ∷ bs) = ap (λ x. (v == u) || x) (at_claim w v bs)
at_claim w v (stop.Settles u ∷ bs) = at_claim w v bs
at_claim w v (stop.Fails ∷ bs) = at_claim w v bs

event_meets : (k : Kinds) (bs : List Break) (e : Event) → AreKinds bs k → is_met_by_event k e ≡ list_any (by_event e) bs
event_meets k bs (Claim w v) are = are.claims v ∙ at_claim w v bs
event_meets k bs (Step w) are = no_claim (Step w) bs (λ v. refl)
event_meets k bs (Settle w) are = no_claim (Settle w) bs (λ v. refl)
event_meets k bs (Cancel w) are = no_claim (Cancel w) bs (λ v. refl)

-- ---- replies

no_settle : (r : Reply) (bs : List Break) → ((v : ℕ) → settles_told v r ≡ false) → failed_told r ≡ false → false ≡ list_any (by_reply r) bs
no_settle r [] none going = refl
no_settle r (stop.Claims v ∷ bs) none going = no_settle r bs none going
no_settle r (stop.Settles v ∷ bs) none going = no_settle r bs none going ∙ ap (λ x. x || list_any (by_reply r) bs) (sym (none v))
no_settle r (stop.Fails ∷ bs) none going = no_settle r bs none going ∙ ap (λ x. x || list_any (by_reply r) bs) (sym going)

at_done : (v : ℕ) (bs : List Break) → list_any (is_at_settles v) bs ≡ list_any (by_reply (reply.Settled (settled.Done v))) bs
at_done v [] = refl
at_done v (stop.Claims u ∷ bs) = at_done v bs
at_done v (stop.Settles u ∷ bs) = ap (λ x. (v == u) || x) (at_done v bs)
at_done v (stop.Fails ∷ bs) = at_done v bs

at_failed : (v : ℕ) (bs : List Break)
    → (list_any is_at_failures bs || list_any (is_at_settles v) bs) ≡ list_any (by_reply (reply.Settled (settled.Failed v))) bs
at_failed v [] = refl
at_failed v (stop.Claims u ∷ bs) = at_failed v bs
at_failed v (stop.Settles u ∷ bs) = sym (or_second _ _ _ (v == u) (sym (at_failed v bs)))
at_failed v (stop.Fails ∷ bs) = refl

reply_meets : (k : Kinds) (bs : List Break) (r : Reply) → AreKinds bs k → is_met_by_reply k r ≡ list_any (by_reply r) bs
reply_meets k bs (reply.Settled (settled.Done v)) are = are.settles v ∙ at_done v bs
reply_meets k bs (reply.Settled (settled.Failed v)) are =
    ap (λ x. x || is_met_by_reply k (reply.Settled (settled.Done v))) are.failures ∙ ap (λ x. list_any is_at_failures bs || x) (are.settles v)
    ∙ at_failed v bs
reply_meets k bs reply.Claimed are = no_settle reply.Claimed bs (λ v. refl) refl
reply_meets k bs (reply.Stepped s) are = no_settle (reply.Stepped s) bs (λ v. refl) refl
reply_meets k bs (reply.Cancelled c) are = no_settle (reply.Cancelled c) bs (λ v. refl) refl

-- an event with its reply meets one of the breakpoints just where the event or the reply meets one of their kinds
pub meets : (k : Kinds) (bs : List Break) (e : Event) (r : Reply) → AreKinds bs k
    → (is_met_by_event k e || is_met_by_reply k r) ≡ list_any (meets_told e r) bs
meets k bs e r are =
    ap (λ x. x || is_met_by_reply k r) (event_meets k bs e are) ∙ ap (λ x. list_any (by_event e) bs || x) (reply_meets k bs r are) ∙ sym (parted e r bs)
