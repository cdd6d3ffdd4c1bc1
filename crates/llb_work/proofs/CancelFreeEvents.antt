-- Events that add no cancel to a record.
use Rattle.std.proofs.Common.{◌≡◌, ◌≢◌, ℕ, zero, suc, ◌+◌, false, cond, List, [], ◌∷◌, ◌++◌, Option, Some, None, refl, ap, ◌∙◌, arith}
use Rattle.std.proofs.lemmas.List.Sums.{sum_by-append}
use Rattle.std.specs.Prelude.{IsSome}
use Rattle.std.specs.List.{count_by}
use Rattle.llb_model.specs.Program.{Build}
use Rattle.llb_model.specs.State.{State}
use Rattle.llb_model.specs.Run.{chosen}
use Rattle.llb_model.specs.Landing.{landing}
use Rattle.llb_model.proofs.ChosenEventRuns.{chosen_goes_on}
use Rattle.llb_events.specs.declared.event.Event.{Event}
use Rattle.llb_events.specs.declared.event.Event.TheVariants.{Claim, Step, Settle, Cancel}
use Rattle.llb_board.specs.BoardValue.{BoardValue}
use Rattle.llb_work.specs.LockSharingWorkers.{is_cancel, CancelsNothing}
use Rattle.llb_work.specs.SingleThreadDriver.{Takes}

-- events that are no cancels leave the number of cancels as it is
pub as_before : (es more : List Event) → count_by is_cancel more ≡ 0 → count_by is_cancel (es ++ more) ≡ count_by is_cancel es
as_before es more none =
    sum_by-append (λ (e : Event). cond (is_cancel e) 1 0) es more ∙ ap (λ n. count_by is_cancel es + n) none ∙ no_more (count_by is_cancel es)
  where
    no_more : (n : ℕ) → n + 0 ≡ n
    no_more n = omega arith

single : (e : Event) → is_cancel e ≡ false → count_by is_cancel (e ∷ []) ≡ 0
single (Claim w v) is = refl
single (Step w) is = refl
single (Settle w) is = refl
single (Cancel w) is = absurd cc

-- an event that is no cancel
pub takes_no_cancel : (b c : BoardValue) (e : Event) → is_cancel e ≡ false → Takes b e c → CancelsNothing b c
takes_no_cancel b c e is takes = ap (count_by is_cancel) takes.events ∙ as_before b.events (e ∷ []) (single e is)

-- a call that changes nothing
pub leaves_cancels : (b c : BoardValue) → c ≡ b → CancelsNothing b c
leaves_cancels b c same = ap (λ (x : BoardValue). count_by is_cancel x.events) same

-- the block of events of a landing has no cancel
pub block : (w n : ℕ) → count_by is_cancel (landing w n) ≡ 0
block w zero = refl
block w (suc n) = block w n

-- something and nothing are not noted at once
pub some_noted : {X : Type 0} (o : Option X) → IsSome o → o ≡ None → ⊥
some_noted None some none = absurd cc
some_noted (Some x) some none = absurd cc

-- the event that a driver chooses is no cancel
pub chosen_no_cancel : (b : Build) (s : State) (e : Event) → chosen b s ≡ Some e → is_cancel e ≡ false
chosen_no_cancel b s e is = by_event e (chosen_goes_on b s e is)
  where
    by_event : (x : Event) → ((w : ℕ) → x ≢ Cancel w) → is_cancel x ≡ false
    by_event (Claim w v) never = refl
    by_event (Step w) never = refl
    by_event (Settle w) never = refl
    by_event (Cancel w) never = absurd (never w refl)
