-- Each event takes at least one of the events that are still to come, and a cancel adds those of its vertex.
use Rattle.std.proofs.Common.{◌≡◌, ◌≢◌, ℕ, zero, suc, ◌+◌, ◌≤◌, Bool, true, false, cond, List, [], ◌∷◌, length, Option, Some, None, refl, sym, ap, subst}
use Rattle.std.proofs.Common.{◌∙◌, arith}
use Rattle.std.specs.Prelude.{◌*◌, slice_get, slice_set, replicate}
use Rattle.std.proofs.lemmas.Bool.{ne_eqb, eq-eqb}
use Rattle.std.proofs.lemmas.List.Sums.{sum_by-cons}
use Rattle.llb_loader.specs.declared.graph.Vertex.{Vertex}
use Rattle.llb_events.specs.declared.fault.VertexFault.{VertexFault}
use Rattle.llb_model.specs.Program.{Build, MicroStep, ReadLocal, Act, LayInput, Run, Workspace, Left, last_of, is_run, program_at, step_on}
use Rattle.llb_model.specs.Outcome.{Ending, Done, Failed}
use Rattle.llb_model.specs.State.{Status, Waiting, Running, Settled, WorkerStatus, Idle, Runs, State, Opening, opening, program_in, work_of, ending_from}
use Rattle.llb_model.specs.State.{begin_at}
use Rattle.llb_events.specs.declared.event.Event.{Event}
use Rattle.llb_events.specs.declared.event.Event.TheVariants.{Claim, Step, Settle, Cancel}
use Rattle.llb_model.specs.Table.{cancel_reply}
use Rattle.llb_model.specs.Table.{Reply}
use Rattle.llb_model.specs.Table.{execution_on, with_step, step_reply, settle_reply, table}
use Rattle.llb_model.specs.Run.{run}
use Rattle.llb_model.specs.EventBounds.{events_of, is_cancel_of, cancels_in, most_from, most_events, to_come, all_to_come, left_by, all_left, still_to_come}
use Rattle.llb_model.proofs.Lists.{got_within}
use Rattle.llb_model.proofs.ProgramPrefixes.{next_step_is}
use Rattle.llb_model.proofs.GrantedEvents.{Answer, claim_places, claim_is, step_is, settle_is, cancel_is}
use Rattle.llb_model.proofs.RunExtension.{run_none, run_first}

-- ---- one status, one worker

pub come_set : (vs : List Vertex) (ss : List Status) (v : ℕ) (x : Vertex) (s t : Status) → slice_get vs v ≡ Some x → slice_get ss v ≡ Some s
    → all_to_come vs (slice_set ss v t) + to_come x s ≡ all_to_come vs ss + to_come x t
come_set [] ss v x s t there at = absurd (cc)
come_set (y ∷ vs) [] v x s t there at = absurd (cc)
come_set (y ∷ vs) (r ∷ ss) zero x s t there at =
    let p : y ≡ x = cc in
    let q : r ≡ s = cc in
    let a : to_come y r ≡ to_come x s = λ i. to_come (p i) (q i) in
    let b : to_come y t ≡ to_come x t = ap (λ z. to_come z t) p in
    omega (arith, a, b)
come_set (y ∷ vs) (r ∷ ss) (suc v) x s t there at = omega (arith, come_set vs ss v x s t there at)

-- nothing is to come of a vertex that is settled
come_settled : (vs : List Vertex) (ss : List Status) (v : ℕ) (e : Ending) → all_to_come vs (slice_set ss v (Settled e)) ≤ all_to_come vs ss
come_settled [] ss v e = omega arith
come_settled (y ∷ vs) [] v e = omega arith
come_settled (y ∷ vs) (r ∷ ss) zero e = omega arith
come_settled (y ∷ vs) (r ∷ ss) (suc v) e = omega (arith, come_settled vs ss v e)

-- the most events of a vertex of the graph, if it is one
abbrev pub events_at : Option Vertex → ℕ
events_at None = 0
events_at (Some v) = events_of v

-- all events of a vertex that waits again are to come
come_waiting : (vs : List Vertex) (ss : List Status) (v : ℕ) → all_to_come vs (slice_set ss v Waiting) ≤ all_to_come vs ss + events_at (slice_get vs v)
come_waiting [] ss v = omega arith
come_waiting (y ∷ vs) [] v = omega arith
come_waiting (y ∷ vs) (r ∷ ss) zero = omega arith
come_waiting (y ∷ vs) (r ∷ ss) (suc v) = omega (arith, come_waiting vs ss v)

first : (c a : WorkerStatus) (ws : List WorkerStatus) → slice_get (c ∷ ws) 0 ≡ Some a → c ≡ a
first c a ws at = cc

pub left_set : (b : Build) (ws : List WorkerStatus) (w : ℕ) (a c : WorkerStatus) → slice_get ws w ≡ Some a
    → all_left b (slice_set ws w c) + left_by b a ≡ all_left b ws + left_by b c
left_set b [] w a c at = absurd (cc)
left_set b (d ∷ ws) zero a c at = let p : left_by b d ≡ left_by b a = ap (left_by b) (first d a ws at) in omega (arith, p)
left_set b (d ∷ ws) (suc w) a c at = omega (arith, left_set b ws w a c at)

left_none : (b : Build) (n : ℕ) → all_left b (replicate n Idle) ≡ 0
left_none b zero = refl
left_none b (suc n) = omega (arith, left_none b n)

come_open : (vs : List Vertex) (k : ℕ) → all_to_come vs (replicate (length vs) Waiting) ≡ most_from k vs []
come_open [] k = refl
come_open (y ∷ vs) k = omega (arith, come_open vs (k + 1), once (events_of y))
  where
    once : (n : ℕ) → n * 1 ≡ n
    once n = omega arith

-- ---- the most events

-- a reply that is no cancel of a vertex, and one that is
pub cancels_same : (v : ℕ) (r : Reply) (rs : List Reply) → is_cancel_of v r ≡ false → cancels_in v (r ∷ rs) ≡ cancels_in v rs
cancels_same v r rs e = sum_by-cons (λ q. cond (is_cancel_of v q) 1 0) r rs ∙ ap (λ t. cond t 1 0 + cancels_in v rs) e ∙ omega arith

pub cancels_more : (v : ℕ) (r : Reply) (rs : List Reply) → is_cancel_of v r ≡ true → cancels_in v (r ∷ rs) ≡ suc (cancels_in v rs)
cancels_more v r rs e = sum_by-cons (λ q. cond (is_cancel_of v q) 1 0) r rs ∙ ap (λ t. cond t 1 0 + cancels_in v rs) e ∙ omega arith

-- where as many cancels are of each vertex
pub most_counts : (vs : List Vertex) (k : ℕ) (rs qs : List Reply) → ((v : ℕ) → k ≤ v → cancels_in v qs ≡ cancels_in v rs)
    → most_from k vs qs ≡ most_from k vs rs
most_counts [] k rs qs same = refl
most_counts (y ∷ vs) k rs qs same =
    ap (λ n. events_of y * (1 + n) + most_from (k + 1) vs qs) (same k (omega arith))
    ∙ ap (λ n. events_of y * (1 + cancels_in k rs) + n) (most_counts vs (k + 1) rs qs (λ v le. same v (omega (arith, le))))

-- where one vertex was cancelled once more, its events may come once more
pub most_more : (vs : List Vertex) (k v : ℕ) (rs qs : List Reply) → cancels_in (k + v) qs ≡ suc (cancels_in (k + v) rs)
    → ((u : ℕ) → u ≢ k + v → cancels_in u qs ≡ cancels_in u rs) → most_from k vs qs ≡ most_from k vs rs + events_at (slice_get vs v)
most_more [] k v rs qs more same = refl
most_more (y ∷ vs) k zero rs qs more same =
    ap (λ c. events_of y * (1 + c) + most_from (k + 1) vs qs) own
    ∙ ap (λ m. events_of y * (1 + suc (cancels_in k rs)) + m) (most_counts vs (k + 1) rs qs (λ v le. same v (λ e. absurd (omega (arith, e, le)))))
    ∙ again (events_of y) (cancels_in k rs) (most_from (k + 1) vs rs)
  where
    none : (n : ℕ) → n + 0 ≡ n
    none n = omega arith

    own : cancels_in k qs ≡ suc (cancels_in k rs)
    own = subst (λ j. cancels_in j qs ≡ suc (cancels_in j rs)) (none k) more

    again : (e c m : ℕ) → e * (1 + suc c) + m ≡ e * (1 + c) + m + e
    again e c m = omega arith
most_more (y ∷ vs) k (suc v) rs qs more same =
    ap (λ c. events_of y * (1 + c) + most_from (k + 1) vs qs) (same k (λ e. absurd (omega (arith, e))))
    ∙ ap (λ m. events_of y * (1 + cancels_in k rs) + m) (most_more vs (k + 1) v rs qs
    (subst (λ j. cancels_in j qs ≡ suc (cancels_in j rs)) (next k v) more) (λ u apart. same u (λ e. apart (e ∙ next k v))))
    ∙ sums (events_of y * (1 + cancels_in k rs)) (most_from (k + 1) vs rs) (events_at (slice_get vs v))
  where
    next : (k v : ℕ) → k + suc v ≡ k + 1 + v
    next k v = omega arith

    sums : (a m e : ℕ) → a + (m + e) ≡ a + m + e
    sums a m e = omega arith

-- a cancel of a vertex, in front of other replies
cancel_first : (v n : ℕ) (rs : List Reply) → cancels_in v (cancel_reply v n ∷ rs) ≡ suc (cancels_in v rs)
cancel_first v n rs = cancels_more v (cancel_reply v n) rs (eq-eqb v v refl)

other_first : (v n : ℕ) (rs : List Reply) (u : ℕ) → u ≢ v → cancels_in u (cancel_reply v n ∷ rs) ≡ cancels_in u rs
other_first v n rs u apart = cancels_same u (cancel_reply v n) rs (ne_eqb v u (λ e. apart (sym e)))

pub from_zero : (v : ℕ) → v ≡ 0 + v
from_zero v = omega arith

most_cancel : (vs : List Vertex) (v n : ℕ) (rs : List Reply) → most_from 0 vs (cancel_reply v n ∷ rs) ≡ most_from 0 vs rs + events_at (slice_get vs v)
most_cancel vs v n rs =
    most_more vs 0 v rs (cancel_reply v n ∷ rs)
    (subst (λ j. cancels_in j (cancel_reply v n ∷ rs) ≡ suc (cancels_in j rs)) (from_zero v) (cancel_first v n rs))
    (λ u apart. other_first v n rs u (λ e. apart (e ∙ from_zero v)))

-- only a cancel has such a reply
pub no_cancel : (b : Build) (s : State) (e : Event) (a : Answer) → ((w : ℕ) → e ≢ Cancel w) → table b s e ≡ Some a → (v : ℕ) → is_cancel_of v a.1 ≡ false
no_cancel b s (Claim w u) a goes_on given v = let c = claim_is b s w u a given in ap (λ (t : Answer). is_cancel_of v t.1) c.gives
no_cancel b s (Step w) a goes_on given v =
    let c = step_is b s w a given in
    ap (λ (t : Answer). is_cancel_of v t.1) c.gives
no_cancel b s (Settle w) a goes_on given v =
    let c = settle_is b s w a given in
    ap (λ (t : Answer). is_cancel_of v t.1) c.gives
no_cancel b s (Cancel w) a goes_on given v = absurd (goes_on w refl)

-- ---- the whole

pub opening_room : (b : Build) (o : Opening) → still_to_come b (opening b o) ≡ most_events b []
opening_room b o = omega (arith, come_open b.graph.vertices 0, left_none b o.workers)

-- after a granted event that is no cancel at least one event fewer is still to come
pub event_room : (b : Build) (s : State) (e : Event) (a : Answer) → ((w : ℕ) → e ≢ Cancel w) → table b s e ≡ Some a
    → still_to_come b a.0 + 1 ≤ still_to_come b s
event_room b s (Claim w v) a goes_on given =
    let c = claim_is b s w v a given in
    let z = execution_on v (begin_at b s.store c.start (claim_places s c.start)) (claim_places s c.start) in
    let statuses = come_set b.graph.vertices s.statuses v c.start.vertex Waiting (Running w) c.begins.there c.begins.waits in
    let workers = left_set b s.workers w Idle (Runs z) c.idle in
    let steps : length (program_in b z).steps ≡ length (program_at (Some c.start.vertex)).steps = ap (λ o. length (program_at o).steps) c.begins.there in
    subst (λ (t : Answer). still_to_come b t.0 + 1 ≤ still_to_come b s) (sym c.gives) (omega (arith, statuses, workers, steps))
event_room b s (Step w) a goes_on given =
    let c = step_is b s w a given in
    let left = step_on c.x.done (Some c.step) (work_of s c.x) in
    let low = got_within (program_in b c.x).steps c.x.done c.step (next_step_is (program_in b c.x).steps c.x c.step c.next).there in
    let workers = left_set b s.workers w (Runs c.x) (Runs (with_step c.x left)) c.there in
    subst (λ (t : Answer). still_to_come b t.0 + 1 ≤ still_to_come b s) (sym c.gives) (omega (arith, low, workers))
event_room b s (Settle w) a goes_on given =
    let c = settle_is b s w a given in
    let statuses = come_settled b.graph.vertices s.statuses c.x.vertex (ending_from (program_in b c.x) c.x) in
    let workers = left_set b s.workers w (Runs c.x) Idle c.there in
    subst (λ (t : Answer). still_to_come b t.0 + 1 ≤ still_to_come b s) (sym c.gives) (omega (arith, statuses, workers))
event_room b s (Cancel w) a goes_on given = absurd (goes_on w refl)

spares_as : (b : Build) (s : State) (e : Event) (a : Answer) (rs : List Reply) → ((w : ℕ) → e ≢ Cancel w) → table b s e ≡ Some a
    → still_to_come b a.0 + 1 + most_events b rs ≤ still_to_come b s + most_events b (a.1 ∷ rs)
spares_as b s e a rs goes_on given =
    let most = most_counts b.graph.vertices 0 rs (a.1 ∷ rs) (λ v le. cancels_same v a.1 rs (no_cancel b s e a goes_on given v)) in
    omega (arith, event_room b s e a goes_on given, most)

-- an event takes at least one of those that may come, where a cancel adds those of its vertex
pub event_spares : (b : Build) (s : State) (e : Event) (a : Answer) (rs : List Reply) → table b s e ≡ Some a
    → still_to_come b a.0 + 1 + most_events b rs ≤ still_to_come b s + most_events b (a.1 ∷ rs)
event_spares b s (Cancel w) a rs given =
    let c = cancel_is b s w a given in
    let statuses = come_waiting b.graph.vertices s.statuses c.x.vertex in
    let workers = left_set b s.workers w (Runs c.x) Idle c.there in
    let most = most_cancel b.graph.vertices c.x.vertex c.x.done rs in
    subst (λ (t : Answer). still_to_come b t.0 + 1 + most_events b rs ≤ still_to_come b s + most_events b (t.1 ∷ rs)) (sym c.gives)
    (omega (arith, statuses, workers, most))
event_spares b s (Claim w v) a rs given = spares_as b s (Claim w v) a rs (λ u e. cc) given
event_spares b s (Step w) a rs given = spares_as b s (Step w) a rs (λ u e. cc) given
event_spares b s (Settle w) a rs given = spares_as b s (Settle w) a rs (λ u e. cc) given

pub run_room : (b : Build) (s t : State) (es : List Event) (rs : List Reply) → run b s es ≡ Some (t, rs)
    → still_to_come b t + length es + most_events b [] ≤ still_to_come b s + most_events b rs
run_room b s t [] rs given =
    let n = run_none b s t rs given in
    let same : still_to_come b s ≡ still_to_come b t = ap (still_to_come b) n.0 in
    let none : most_events b rs ≡ most_events b [] = ap (most_events b) n.1 in
    omega (arith, same, none)
run_room b s t (e ∷ es) rs given =
    let r = run_first b s e es t rs given in
    let all : most_events b rs ≡ most_events b (r.a.1 ∷ r.rest) = ap (most_events b) r.replies in
    omega (arith, all, event_spares b s e r.a r.rest r.given, run_room b r.a.0 t es r.rest r.goes_on)

-- a run from an opening state, with what is still to come, has at most `most_events` events
pub run_has_few : (b : Build) (o : Opening) (t : State) (es : List Event) (rs : List Reply) → run b (opening b o) es ≡ Some (t, rs)
    → still_to_come b t + length es ≤ most_events b rs
run_has_few b o t es rs given = omega (arith, opening_room b o, run_room b (opening b o) t es rs given)
