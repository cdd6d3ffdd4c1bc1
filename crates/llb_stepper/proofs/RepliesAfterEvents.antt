-- The replies of a record after one event more, and after a landing.
use Rattle.std.proofs.Common.{◌≡◌, ◌∙◌, List, [], ◌∷◌, ◌++◌, Option, Some, option_map, refl, sym, ap}
use Rattle.std.specs.Prelude.{unwrap_or, Result, Ok, Err}
use Rattle.std.specs.Result.{result_ok}
use Rattle.llb_cache.specs.Caches.{Row}
use Rattle.llb_model.specs.State.{State, opening}
use Rattle.llb_events.specs.declared.event.Event.{Event}
use Rattle.llb_events.specs.declared.event.Event.TheVariants.{Claim, Step, Settle, Cancel}
use Rattle.llb_model.specs.Landing.{landing}
use Rattle.llb_model.specs.Table.{Reply, worker_of, table, claim_grant, step_grant, settle_grant, cancel_grant}
use Rattle.llb_model.specs.Run.{run}
use Rattle.llb_model.proofs.RunExtension.{run_on, run_one}
use Rattle.llb_model.specs.TwoCacheModels.{rows_after}
use Rattle.llb_board.specs.BoardValue.{BoardValue, Replays, after_event, recorded, replies_in}
use Rattle.llb_stepper.specs.Replies.{RepliesAreRecorded}

-- the board after a block of events
abbrev behind : BoardValue → State → List Row → List Event → BoardValue
behind b s rows es = record b { state = s; rows = rows; events = b.events ++ es }

replies_by : (b : BoardValue) (s : State) (rs : List Reply) → run b.build (opening b.build b.opening) b.events ≡ Some (s, rs) → replies_in b ≡ rs
replies_by b s rs is = ap (λ (o : Option (State × List Reply)). unwrap_or (option_map (λ (a : State × List Reply). a.1) o) []) is

after_block : (b : BoardValue) (here : Replays b) (s : State) (rows : List Row) (es : List Event) (qs : List Reply) → run b.build b.state es ≡ Some (s, qs)
    → replies_in (behind b s rows es) ≡ replies_in b ++ qs
after_block b here s rows es qs goes =
    replies_by (behind b s rows es) s (here.replies ++ qs)
    (run_on b.build (opening b.build b.opening) b.state s b.events es here.replies qs here.leads goes)
    ∙ ap (λ rs. rs ++ qs) (sym (replies_by b b.state here.replies here.leads))

granted : {F : Type 0} (b : BoardValue) (here : Replays b) (e : Event) (g : Result (State × Reply) F) (t : BoardValue) (r : Reply)
    → table b.build b.state e ≡ result_ok g → recorded b e g ≡ Ok (t, r) → replies_in t ≡ replies_in b ++ r ∷ []
granted b here e (Err cause) t r gives is = absurd cc
granted b here e (Ok (s, q)) t r gives is =
    let same : ◌≡◌ {A = BoardValue × Reply} (after_event b e s, q) (t, r) = cc in
    ap (λ (p : BoardValue × Reply). replies_in p.0) (sym same)
    ∙ after_block b here s (rows_after b.rows s (worker_of e)) (e ∷ []) (q ∷ []) (run_one b.build b.state s e q gives)
    ∙ ap (λ (p : BoardValue × Reply). replies_in b ++ p.1 ∷ []) same

pub are_recorded : (b : BoardValue) → Replays b → RepliesAreRecorded b
unfolding table
are_recorded b here = record {
  claim = λ w v t r is. granted b here (Claim w v) (claim_grant b.build b.state w v) t r refl is;
  step = λ w t r is. granted b here (Step w) (step_grant b.build b.state w) t r refl is;
  settle = λ w t r is. granted b here (Settle w) (settle_grant b.build b.state w) t r refl is;
  cancel = λ w t r is. granted b here (Cancel w) (cancel_grant b.state w) t r refl is;
  land = λ w n t rs runs recorded. ap replies_in recorded ∙ after_block b here t.state t.rows (landing w n) rs runs;
}
