-- The record of a board, replayed on a stepper over the board as it was opened: it leads to the board, with the lines of its run.
use Rattle.std.proofs.Common.{◌≡◌, ℕ, zero, suc, ◌+◌, ◌-◌, Bool, true, false, List, [], ◌∷◌, length, take, Option, Some, None, option_map, refl, sym, ap, ◌∙◌}
use Rattle.std.proofs.Common.{arith, subst, length-drop}
use Rattle.std.specs.Prelude.{slice_get, unwrap_or}
use Rattle.llb_model.specs.State.{State, opening}
use Rattle.llb_events.specs.declared.event.Event.{Event}
use Rattle.llb_model.specs.Table.{Reply}
use Rattle.llb_model.specs.Run.{run}
use Rattle.llb_model.proofs.Lists.{inside}
use Rattle.llb_board.specs.BoardValue.{BoardValue, Replays, replies_in}
use Rattle.llb_stepper.specs.Records.{ReplaysOnAStepper}
use Rattle.llb_stepper.specs.Stepping.{EndsAt, answered, at_first, meets_at, meets_by, meets_from, run_on, timeline}
use Rattle.llb_stepper.proofs.RecordReplies.{is_the_run}
use Rattle.llb_stepper.proofs.BoardReplay.{replayed, whole}

by_none : (e : Event) (o : Option (BoardValue × Reply)) → meets_by [] e o ≡ false
by_none e None = refl
by_none e (Some p) = refl

from_none : (o : Option (BoardValue × Reply)) (go : BoardValue → Bool) → ((c : BoardValue) → go c ≡ false) → meets_from o go ≡ false
from_none None go none = refl
from_none (Some p) go none = none p.0

-- no event meets a breakpoint where there is none
meets_none : (b : BoardValue) (es : List Event) (k : ℕ) → meets_at [] b es k ≡ false
unfolding meets_at
meets_none b [] k = refl
meets_none b (e ∷ es) zero = by_none e (answered b e)
meets_none b (e ∷ es) (suc k) = from_none (answered b e) (λ c. meets_at [] c es k) (λ c. meets_none c es k)

-- if no events are left, the replay stops at the end of the list
at_end : (flag : Bool) (b : BoardValue) (es : List Event) (n : ℕ) → EndsAt flag [] b es n → n ≡ length es
at_end true b es n met = absurd (differ met.1.1 (meets_none b es met.0))
  where
    differ : meets_at [] b es met.0 ≡ true → meets_at [] b es met.0 ≡ false → ⊥
    differ meets unmet = cc
at_end false b es n met = met.0

abbrev runs_with : List Reply → BoardValue → Type 0
runs_with rs x = run x.build (opening x.build x.opening) x.events ≡ Some (x.state, rs)

pub has_run : (b : BoardValue) → Replays b → ReplaysOnAStepper b
has_run b here s t p board breaks stop =
    let n : p.events ≡ length b.events =
    at_end p.at_break s.board b.events p.events (subst (λ x. EndsAt p.at_break x s.board b.events p.events) breaks stop.ends) in
    let all : take p.events b.events ≡ b.events = ap (λ m. take m b.events) n ∙ whole b.events in
    let leads : run_on (at_first b) b.events ≡ Some t.board =
    ap (λ x. run_on x b.events) (sym board) ∙ ap (run_on s.board) (sym all) ∙ stop.leads in
    let same : t.board ≡ b = inside (sym leads ∙ replayed b here) in
    let replies : replies_in b ≡ here.replies =
    ap (λ (o : Option (State × List Reply)). unwrap_or (option_map (λ (a : State × List Reply). a.1) o) []) here.leads in
    let back = ap length stop.past in
    let dropped = length-drop p.events (timeline t) in
    let count : length t.board.events ≡ length b.events = ap (λ (x : BoardValue). length x.events) same in
    record {
      leads = same;
      lines = λ i e r at there.
          let place : (i + 1) - 1 ≡ i = omega arith in
          (is_the_run t stop.records).complete (i + 1) e r t.board.state here.replies (subst (runs_with here.replies) (sym same) here.leads)
          (omega arith) (omega (arith, n, back, dropped, count))
          (ap (slice_get t.board.events) place ∙ ap (λ (x : BoardValue). slice_get x.events i) same ∙ at)
          (ap (slice_get here.replies) place ∙ ap (λ rs. slice_get rs i) (sym replies) ∙ there);
    }
