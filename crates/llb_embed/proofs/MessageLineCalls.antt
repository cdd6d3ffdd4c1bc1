-- How a call ends that writes a line to the messages.
use Rattle.std.proofs.Common.{◌≡◌, ◌∙◌, ◌+◌, ◌⊎◌, inl, inr, refl, sym, ap, subst, ℕ, List, [], Option, Some}
use Rattle.std.specs.Prelude.{MatchOption}
use Rattle.llb_loader.specs.LocalSources.{Local}
use Rattle.llb_commands.specs.ProgramOutput.{IsNotRun}
use Rattle.llb_commands.specs.Faults.{Tells, TellsWhy}
use Rattle.llb_commands.specs.Running.{TellsRefusal}
use Rattle.llb_commands.specs.declared.fault.ProgramFault.{ProgramFault}
use Rattle.llb_commands.proofs.RunOutput.{ends_told}
use Rattle.llb_session.specs.declared.session.Session.{Session}
use Rattle.llb_session.specs.LineReplies.{IsRefused, Quits}
use Rattle.llb_session.specs.Request.{request_in}
use Rattle.llb_session.specs.PrintedTexts.{fault_line}
use Rattle.llb_stepper.specs.declared.fault.StepperFault.{StepperFault}
use Rattle.llb_commands.specs.declared.fault.ProgramFault.TheVariants as problem
use Rattle.llb_embed.specs.declared.handle_value.Held.{Held}
use Rattle.llb_embed.specs.HandleCalls.{KeepsRest, Refused, Replied, RepliesOn, written}

-- why no session is opened: the line is written, and the status is 2; or the status is 3
pub tells_opening : (workers : ℕ) (locals : List Local) (definition messages : List ℕ) (e : ProgramFault) (status : ℕ)
    → TellsRefusal (IsNotRun workers locals) (Some definition) e → Tells (Some []) (Some messages) e status
    → ((status ≡ 2) × TellsWhy (IsNotRun workers locals) (Some definition) (written messages)) ⊎ (status ≡ 3)
tells_opening workers locals definition messages e status tells told =
    elim (ends_told (IsNotRun workers locals) (Unit {0}) (Some definition) (written []) (written messages) e status (inl (refl, tells)) told) [
      | inl h ↦ inl (h.0, h.2)
      | inr h ↦ inr h.0
    ]

-- a line that is sent to the session that is held
pub replies : (line : List ℕ) (old new : Held) (s : Session) (status : ℕ) → old.session ≡ Some s → new.locals ≡ old.locals
    → RepliesOn line s old new status → Replied line old new status
replies line old new s status was locals on = (locals, subst By (sym was) on)
  where
    By : Option Session → Type 0
    By o = MatchOption o ((status ≡ 4) × KeepsRest old new × (new.output.items ≡ []) × (new.messages.items ≡ [])) (λ t. RepliesOn line t old new status)

-- a line of the session is refused: its reply is put, or memory for the reply is refused too
pub refuses : (line : List ℕ) (old held new : Held) (s t : Session) (fault : StepperFault) (status : ℕ) → old.session ≡ Some s → held.locals ≡ old.locals
    → held.session ≡ Some t → held.lines ≡ old.lines → ¬ Quits s line → IsRefused (request_in s.options.looks line) s.stepper (held.lines + 1) fault → t ≡ s
    → Refused fault held new status → Replied line old new status
refuses line old held new s t fault status was locals session lines goes_on refused same (kept, stays, by) =
    replies line old new s status was (kept ∙ locals) (by_status by)
  where
    numbered : IsRefused (request_in s.options.looks line) s.stepper (old.lines + 1) fault
    numbered = subst (λ n. IsRefused (request_in s.options.looks line) s.stepper (n + 1) fault) lines refused

    by_status : ((status ≡ 0) × (new.lines ≡ held.lines + 1) × (new.output.items ≡ fault_line fault) × (new.messages.items ≡ []))
        ⊎ ((new.lines ≡ held.lines) × (new.output.items ≡ []) × Tells (Some []) (Some new.messages.items) problem.Memory status)
        → RepliesOn line s old new status
    by_status (inl (done, next, output, messages)) =
        inl (
          done,
          messages,
          (
            t,
            stays ∙ session,
            next ∙ ap (λ n. n + 1) lines,
            record {
              goes_on = goes_on;
              answers = inr (record { fault = fault; refused = numbered; printed = output; same = ap (λ (x : Session). x.stepper) same });
              options = ap (λ (x : Session). x.options) same;
            },
          ),
        )
    by_status (inr (next, output, told)) =
        inr (inr (
          (kept ∙ locals, stays ∙ session ∙ ap (λ (x : Session). Some x) same ∙ sym was, next ∙ lines),
          output,
          inl (fault, numbered, told),
        ))
