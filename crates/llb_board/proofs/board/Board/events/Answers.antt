use Rattle.std.proofs.Common.{◌≡◌, ◌≤◌, ◌+◌, length, sym, ap, subst, List, []}
use Rattle.std.specs.Prelude.{unwrap_or, option_map}
use Rattle.llb_model.specs.EventBounds.{most_events, owed, still_to_come}
use Rattle.llb_model.specs.State.{State}
use Rattle.llb_model.specs.Table.{Reply}
use Rattle.llb_model.proofs.RemainingEvents.{run_has_few}
use Rattle.llb_board.specs.BoardValue.{BoardValue, Replays, replies_in, seen}
use Rattle.llb_board.proofs.board.Board.events.Goals as goal

-- the replies of a record that replays are those that it replays with
replies_so : (b : BoardValue) (here : Replays b) → here.replies ≡ replies_in b
replies_so b here = sym (ap (λ o. unwrap_or (option_map (λ (a : State × List Reply). a.1) o) []) here.leads)

pub returns-clause-bound : goal.returns-clause-bound
returns-clause-bound c =
    let i = c.self.inside in
    let b = seen i.vertices i.start.rows i.workers i.history.list in
    let few = run_has_few b.build b.opening b.state b.events c.self.invariant.replays.replies c.self.invariant.replays.leads in
    rw c.events.ensures.list
    (subst (λ (s : BoardValue). still_to_come s.build s.state + length i.history.list ≤ most_events s.build (replies_in s)) c.self.view_is
    (subst (λ rs. still_to_come b.build b.state + length i.history.list ≤ most_events b.build rs) (replies_so b c.self.invariant.replays) few))

pub returns-clause-room : goal.returns-clause-room
returns-clause-room c =
    let i = c.self.inside in
    let b = seen i.vertices i.start.rows i.workers i.history.list in
    rw c.events.ensures.room
    (subst (λ (s : BoardValue). i.history.space.room + owed s.build s.state.statuses (replies_in s) ≡ most_events s.build (replies_in s)) c.self.view_is
    (subst (λ rs. i.history.space.room + owed b.build b.state.statuses rs ≡ most_events b.build rs) (replies_so b c.self.invariant.replays)
    c.self.invariant.room))
