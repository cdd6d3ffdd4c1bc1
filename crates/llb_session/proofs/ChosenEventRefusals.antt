-- The chosen event is refused only for want of memory; and how this is printed.
use Rattle.std.proofs.Common.{◌≡◌, ◌≢◌, ◌++◌, Bool, true, false, Option, Some, None, List, [], ℕ, codes, inl, inr, refl, ap, subst, sym}
use Rattle.std.specs.Prelude.{Result, Ok, Err, Vec}
use Rattle.std.specs.Global.{Global}
use Rattle.llb_wire.specs.declared.sink.Failed.{Failed}
use Rattle.llb_model.specs.Run.{chosen}
use Rattle.llb_events.specs.declared.event.Event as own
use Rattle.llb_board.specs.WorkersKeptForUndo.{walk_may_want}
use Rattle.llb_board.specs.BoardValue.{BoardValue}
use Rattle.llb_board.specs.UndoableEvents.{walk_of}
use Rattle.llb_board.specs.declared.board.undoable_event.Reply as short
use Rattle.llb_board.specs.declared.fault.WalkFault.{WalkFault}
use Rattle.llb_stepper.specs.StepperResults.{ChosenIsDone, done_by, done_of, may_want, stepper_memory}
use Rattle.llb_stepper.specs.declared.fault.StepperFault.{StepperFault}
use Rattle.llb_stepper.specs.Stepping.{Stepping}
use Rattle.llb_session.specs.declared.session.Session.{Session}
use Rattle.llb_session.specs.declared.request.Request.{Request}
use Rattle.llb_session.specs.declared.request.Request.TheVariants as ask
use Rattle.llb_session.specs.Request.{request_in}
use Rattle.llb_session.specs.PrintedTexts.{fault_line}
use Rattle.llb_session.proofs.Streams.{between}
use Rattle.llb_session.specs.LineReplies.{IsPerformed, GrantsNext, IsGranted, IsRefused, Answers, Quits, IsReplyWritten, Replies, Says, end_line}

wants_by : (s t : Stepping) (r : Result (BoardValue × short.Reply) WalkFault) → done_by s r ≡ Ok t → walk_may_want r ≡ true
wants_by s t (Ok p) is = refl
wants_by s t (Err e) is = absurd cc

-- an event that is granted may want memory
pub granted_wants : (s t : Stepping) (e : own.Event) → done_of s e ≡ Ok t → may_want s e ≡ true
granted_wants s t e is = wants_by s t (walk_of s.board e) is

-- `next` prints what the chosen event prints, which is refused only for want of memory
pub chosen_comes : (s t : Stepping) (e : own.Event) (r : Result (Vec ℕ Global) StepperFault) → ChosenIsDone s
    → Some e ≡ chosen s.board.build s.board.state
    → IsPerformed (ask.Event e) s t r → IsPerformed ask.Next s t r
chosen_comes s t e (Ok text) law is comes = subst (λ o. GrantsNext o s text.items t) is comes
chosen_comes s t e (Err fault) law is (same, fails) = (same, (λ is. (fails.0 is).0, λ not. absurd (differ (law e fault (sym is) (fails.1 not)) not)))
  where
    differ : stepper_memory fault ≡ true → stepper_memory fault ≡ false → ⊥
    differ a b = cc

-- ---- the reply to a line

-- a line that is granted has its text as the reply
pub grants_answer : (s t : Session) (n : ℕ) (line text : List ℕ) → ¬ Quits s line → IsGranted (request_in s.options.looks line) s.stepper text t.stepper
    → t.options ≡ s.options → Answers s n line text t
grants_answer s t n line text goes_on granted options = record { goes_on = goes_on; answers = inl granted; options = options }

-- a line that is refused has the line of the refusal as the reply
pub refusal_answers : (s t : Session) (n : ℕ) (line : List ℕ) (fault : StepperFault) → ¬ Quits s line
    → IsRefused (request_in s.options.looks line) s.stepper n fault → t ≡ s → Answers s n line (fault_line fault) t
refusal_answers s t n line fault goes_on refused same = record {
  goes_on = goes_on;
  answers = inr (record { fault = fault; refused = refused; printed = refl; same = ap (λ (x : Session). x.stepper) same });
  options = ap (λ (x : Session). x.options) same;
}

-- a reply with the line that follows it
pub replied : (s t : Session) (n : ℕ) (line said : List ℕ) → Answers s n line said t → Replies s n line (said ++ end_line s.options.ends) t
replied s t n line said answers = record { said = said; answers = answers; ended = refl }

-- what is put is what is said
pub says : (s t : Session) (n : ℕ) (line text : List ℕ) (out out' : Option (List ℕ)) (r : Result Bool Failed) → Replies s n line text t
    → IsReplyWritten text (between out out') r → Says s n line t (between out out') r
says s t n line text out out' (Ok true) answers puts = (text, answers, puts)
says s t n line text out out' (Ok false) answers puts = absurd puts
says s t n line text out out' (Err e) answers puts = (text, answers, puts)
