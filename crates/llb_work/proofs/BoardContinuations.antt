-- Boards that go on from others go on from the board that those began from.
use Rattle.std.proofs.Common.{◌≡◌, ℕ, zero, suc, ◌≤◌, List, [], ◌∷◌, ◌++◌, length, take, drop, Option, Some, None, refl, sym, ap, ◌∙◌}
use Rattle.std.proofs.Common.{subst, arith, append_assoc}
use Rattle.std.proofs.lemmas.List.{append-nil, length-append}
use Rattle.std.specs.Prelude.{option_map}
use Rattle.llb_model.specs.State.{State}
use Rattle.llb_events.specs.declared.event.Event.{Event}
use Rattle.llb_model.specs.Table.{Reply}
use Rattle.llb_model.specs.Run.{run}
use Rattle.llb_model.proofs.Lists.{inside}
use Rattle.llb_model.proofs.RunExtension.{run_one, run_on}
use Rattle.llb_board.specs.BoardValue.{BoardValue}
use Rattle.llb_work.specs.LockSharingWorkers.{GoesOn, IsAfter, state_in}
use Rattle.llb_work.specs.SingleThreadDriver.{Takes}

-- ---- lists

take_length : {X : Type 0} (xs ys : List X) → take (length xs) (xs ++ ys) ≡ xs
take_length [] ys = refl
take_length (x ∷ xs) ys = ap (λ l. x ∷ l) (take_length xs ys)

drop_length : {X : Type 0} (xs ys : List X) → drop (length xs) (xs ++ ys) ≡ ys
drop_length [] ys = refl
drop_length (x ∷ xs) ys = drop_length xs ys

both : {X : Type 0} (n : ℕ) (xs : List X) → take n xs ++ drop n xs ≡ xs
both zero xs = refl
both (suc n) [] = refl
both (suc n) (x ∷ xs) = ap (λ l. x ∷ l) (both n xs)

-- ---- going on

-- a board goes on from itself by no event
pub goes_nowhere : (b : BoardValue) → GoesOn b b
unfolding run
goes_nowhere b = record { build = refl; opening = refl; first = refl; more = []; replies = []; leads = refl; events = sym (append-nil b.events) }

-- a call that changes nothing goes on by no event
pub stays : (b c : BoardValue) → c ≡ b → GoesOn b c
stays b c same = subst (λ x. GoesOn b x) (sym same) (goes_nowhere b)

-- an event that is taken is one by which the board goes on
pub takes_one : (b c : BoardValue) (e : Event) → Takes b e c → GoesOn b c
takes_one b c e takes = record {
  build = takes.build;
  opening = takes.opening;
  first = takes.first;
  more = e ∷ [];
  replies = takes.reply ∷ [];
  leads = run_one b.build b.state c.state e takes.reply takes.given;
  events = takes.events;
}

-- a record that goes on is no shorter
pub no_shorter : (b c : BoardValue) → GoesOn b c → length b.events ≤ length c.events
no_shorter b c goes = omega (arith, ap length goes.events, length-append b.events goes.more)

-- ---- by equations only

-- the events after the older record
abbrev behind_front : BoardValue → BoardValue → List Event
behind_front s b = drop (length s.events) b.events

-- a record is the older record, followed by the events after it
whole : (s b : BoardValue) → IsAfter s b → b.events ≡ s.events ++ behind_front s b
whole s b is = sym (both (length s.events) b.events) ∙ ap (λ l. l ++ behind_front s b) is.front

-- a run that leads to a state has replies
with_replies : (o : Option (State × List Reply)) (t : State) → option_map state_in o ≡ Some t → (rs : List Reply) × (o ≡ Some (t, rs))
with_replies None t is = absurd cc
with_replies (Some (s, rs)) t is = (rs, ap (λ (x : State). Some (x, rs)) (inside is))

-- if an older record is a prefix of a newer one and what is after it leads to the newer state, the board has gone on
pub goes_from : (s b : BoardValue) → IsAfter s b → GoesOn s b
goes_from s b is =
    let led = with_replies (run s.build s.state (behind_front s b)) b.state is.leads in
    record { build = is.build; opening = is.opening; first = is.first; more = behind_front s b; replies = led.0; leads = led.1; events = whole s b is }

-- a board that goes on from an older one is after it, by equations
is_after : (s c : BoardValue) → GoesOn s c → IsAfter s c
is_after s c goes = record {
  build = goes.build;
  opening = goes.opening;
  first = goes.first;
  front = ap (take (length s.events)) goes.events ∙ take_length s.events goes.more;
  leads = ap (λ l. option_map state_in (run s.build s.state (drop (length s.events) l))) goes.events
      ∙ ap (λ l. option_map state_in (run s.build s.state l)) (drop_length s.events goes.more) ∙ ap (option_map state_in) goes.leads;
}

-- a board is after itself, with nothing more in the record
pub after_itself : (s b : BoardValue) → s ≡ b → IsAfter s b
after_itself s b same = is_after s b (stays s b (sym same))

-- what goes on from a board that goes on from a first one goes on from the first one
pub goes_further : (a b c : BoardValue) → GoesOn a b → GoesOn b c → GoesOn a c
goes_further a b c one two = record {
  build = two.build ∙ one.build;
  opening = two.opening ∙ one.opening;
  first = two.first ∙ one.first;
  more = one.more ++ two.more;
  replies = one.replies ++ two.replies;
  leads = run_on a.build a.state b.state c.state one.more two.more one.replies two.replies one.leads
      (ap (λ x. run x b.state two.more) (sym one.build) ∙ two.leads);
  events = two.events ∙ ap (λ es. es ++ two.more) one.events ∙ append_assoc a.events one.more two.more;
}

-- what goes on from a board that is after the start is after the start too
pub after_more : (s b c : BoardValue) → IsAfter s b → GoesOn b c → IsAfter s c
after_more s b c is goes = is_after s c (goes_further s b c (goes_from s b is) goes)
