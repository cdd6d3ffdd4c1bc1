use Rattle.std.proofs.Common.{◌≡◌, ℕ, ◌+◌, ◌<◌, List, ◌∷◌, drop, get_or, length, sym, ap, ◌∙◌, arith, add-one, drop-cons}
use Rattle.std.proofs.lemmas.List.{drop_all}
use Rattle.llb_events.specs.declared.event.Event.{Event}
use Rattle.llb_events.specs.declared.event.Event.TheVariants.{Claim}
use Rattle.llb_board.specs.BoardValue.{BoardValue}
use Rattle.llb_laws.specs.TwoRuns.{after_each}
use Rattle.llb_laws.proofs.two_runs.go_on.Goals as goal

next : (xs : List Event) (i : ℕ) → i < length xs → drop i xs ≡ get_or xs i (Claim 0 0) ∷ drop (i + 1) xs
next xs i inside = rw add-one (drop-cons xs i (Claim 0 0) inside)

pub loop-event-preserved : goal.loop-event-preserved
loop-event-preserved c =
    let es = c.args.events.now in
    let i = c.loop-event.event-index in
    ap (λ (b : BoardValue). after_each b (drop (i + 1) es)) c.in_ok-go.ensures
    ∙ sym (ap (λ (xs : List Event). after_each c.loop-event.board xs) (next es i c.loop-event-test.true)) ∙ c.loop-event.invariant

pub returns : goal.returns
returns c =
    let es = c.args.events.now in
    let i = c.loop-event.event-index in
    ap (λ (xs : List Event). after_each c.loop-event.board xs) (sym (drop_all i es (omega (arith, c.loop-event-test.false))))
    ∙ c.loop-event.invariant
