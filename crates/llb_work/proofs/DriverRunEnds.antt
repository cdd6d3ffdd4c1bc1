-- How a driver's run ends: as the order of its claims says.
use Rattle.std.proofs.Common.{◌≡◌, true, [], ◌++◌, Some, ap, sym, subst, ◌∙◌}
use Rattle.llb_model.specs.State.{State, opening}
use Rattle.llb_model.specs.Run.{run, is_complete}
use Rattle.llb_model.specs.WholeRunLaws.{IsAtRest, AreChosen, AloneInClaimOrder}
use Rattle.llb_model.proofs.RunExtension.{run_none}
use Rattle.llb_board.specs.BoardValue.{BoardValue, Replays}
use Rattle.llb_work.specs.SingleThreadDriver.{Goes, EndsInClaimOrder}

-- a complete run from a board with an empty record ends in the order of its claims
pub ends_in_order : (old new : BoardValue) → Goes old new → Replays old → old.events ≡ [] → is_complete new.build new.state ≡ true
    → IsAtRest new.state → AloneInClaimOrder new.build
    → EndsInClaimOrder new.build new.opening new.events new.state
ends_in_order old new goes here none complete rest law =
    subst (λ b. EndsInClaimOrder b new.opening new.events new.state) (sym goes.build)
    (subst (λ o. EndsInClaimOrder old.build o new.events new.state) (sym goes.opening)
    (subst (λ es. EndsInClaimOrder old.build old.opening es new.state) (sym added) ends))
  where
    first : State
    first = opening old.build old.opening

    added : new.events ≡ goes.more
    added = goes.events ∙ ap (λ es. es ++ goes.more) none

    start : first ≡ old.state
    start = (run_none old.build first old.state here.replies (subst (λ es. run old.build first es ≡ Some (old.state, here.replies)) none here.leads)).0

    leads : run old.build first goes.more ≡ Some (new.state, goes.replies)
    leads = ap (λ s. run old.build s goes.more) start ∙ goes.leads

    all : AreChosen old.build first goes.more
    all = subst (λ s. AreChosen old.build s goes.more) (sym start) goes.chosen

    ends : EndsInClaimOrder old.build old.opening goes.more new.state
    ends =
        let o = subst AloneInClaimOrder goes.build law old.opening goes.more goes.replies new.state leads all rest in
        record {
          replies = goes.replies;
          leads = leads;
          chosen = all;
          complete =
              subst (λ b. is_complete b new.state ≡ true) goes.build complete;
          statuses = o.0;
          store = o.1;
        }
