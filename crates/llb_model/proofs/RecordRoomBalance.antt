-- The room that a record has, and what claims after cancels have still to take, are together what a run can fill.
use Rattle.std.proofs.Common.{◌≡◌, ◌≢◌, ℕ, zero, suc, ◌+◌, ◌≤◌, true, false, cond, List, [], ◌∷◌, ◌++◌, length, Some, refl, sym, ap, subst}
use Rattle.std.proofs.Common.{◌∙◌, arith}
use Rattle.std.specs.Prelude.{slice_get, slice_set, replicate}
use Rattle.std.proofs.lemmas.Bool.{ne_eqb, eq-eqb}
use Rattle.std.proofs.lemmas.List.Sums.{sum_by-append}
use Rattle.llb_loader.specs.declared.graph.Vertex.{Vertex}
use Rattle.llb_model.specs.Program.{Build}
use Rattle.llb_model.specs.State.{Status, Waiting, Running, Settled, Execution, WorkerStatus, Idle, Runs, State, Opening, opening, program_in, ending_from}
use Rattle.llb_events.specs.declared.event.Event.{Event}
use Rattle.llb_events.specs.declared.event.Event.TheVariants.{Claim, Step, Settle, Cancel}
use Rattle.llb_model.specs.Table.{cancel_reply}
use Rattle.llb_model.specs.Table.{Reply, table}
use Rattle.llb_model.specs.Run.{run}
use Rattle.llb_model.specs.EventBounds.{events_of, is_cancel_of, cancels_in, most_events, to_come, all_to_come, all_left, still_to_come}
use Rattle.llb_model.specs.EventBounds.{owed_by, owed_from, owed, owed_at, room_taken}
use Rattle.llb_model.specs.ConsistentStates.{IsConsistent}
use Rattle.llb_model.proofs.Lists.{got_within, get_within}
use Rattle.llb_model.proofs.GrantedEvents.{Answer, claim_is, step_is, settle_is, cancel_is}
use Rattle.llb_model.proofs.RemainingEvents.{events_at, come_set, left_set, cancels_same, cancels_more, most_counts, most_more, no_cancel, from_zero}
use Rattle.llb_model.proofs.RemainingEvents.{run_has_few}

-- ---- one reply more

pub cancels_later : (v : ℕ) (rs : List Reply) (r : Reply) → is_cancel_of v r ≡ false → cancels_in v (rs ++ r ∷ []) ≡ cancels_in v rs
cancels_later v rs r e =
    let all = sum_by-append (λ q. cond (is_cancel_of v q) 1 0) rs (r ∷ []) in
    let one = cancels_same v r [] e in
    omega (arith, all, one)

pub cancels_once_more : (v : ℕ) (rs : List Reply) (r : Reply) → is_cancel_of v r ≡ true → cancels_in v (rs ++ r ∷ []) ≡ suc (cancels_in v rs)
cancels_once_more v rs r e =
    let all = sum_by-append (λ q. cond (is_cancel_of v q) 1 0) rs (r ∷ []) in
    let one = cancels_more v r [] e in
    omega (arith, all, one)

-- ---- what is owed

-- where all vertices wait and no event has happened, nothing is owed
owed_open : (vs : List Vertex) (k : ℕ) → owed_from k vs (replicate (length vs) Waiting) [] ≡ 0
owed_open [] k = refl
owed_open (y ∷ vs) k = omega (arith, owed_open vs (k + 1))

pub opening_owed : (b : Build) (o : Opening) → owed b (opening b o).statuses [] ≡ 0
opening_owed b o = owed_open b.graph.vertices 0

-- what is owed after one vertex gets another status
owed_set : (vs : List Vertex) (ss : List Status) (k v : ℕ) (x : Vertex) (s t : Status) (rs : List Reply) → slice_get vs v ≡ Some x → slice_get ss v ≡ Some s
    → owed_from k vs (slice_set ss v t) rs + owed_by x s (cancels_in (k + v) rs) ≡ owed_from k vs ss rs + owed_by x t (cancels_in (k + v) rs)
owed_set [] ss k v x s t rs there at = absurd cc
owed_set (y ∷ vs) [] k v x s t rs there at = absurd cc
owed_set (y ∷ vs) (r ∷ ss) k zero x s t rs there at =
    let p : y ≡ x = cc in
    let q : r ≡ s = cc in
    let a : owed_by y r (cancels_in k rs) ≡ owed_by x s (cancels_in (k + 0) rs) = λ i. owed_by (p i) (q i) (cancels_in (none k i) rs) in
    let b : owed_by y t (cancels_in k rs) ≡ owed_by x t (cancels_in (k + 0) rs) = λ i. owed_by (p i) t (cancels_in (none k i) rs) in
    omega (arith, a, b)
  where
    none : (n : ℕ) → n ≡ n + 0
    none n = omega arith
owed_set (y ∷ vs) (r ∷ ss) k (suc v) x s t rs there at =
    let rest = owed_set vs ss (k + 1) v x s t rs there at in
    let a : owed_by x s (cancels_in (k + suc v) rs) ≡ owed_by x s (cancels_in (k + 1 + v) rs) = ap (λ j. owed_by x s (cancels_in j rs)) (next k v) in
    let b : owed_by x t (cancels_in (k + suc v) rs) ≡ owed_by x t (cancels_in (k + 1 + v) rs) = ap (λ j. owed_by x t (cancels_in j rs)) (next k v) in
    omega (arith, rest, a, b)
  where
    next : (k v : ℕ) → k + suc v ≡ k + 1 + v
    next k v = omega arith

-- where as many cancels are of each vertex
pub owed_counts : (vs : List Vertex) (ss : List Status) (k : ℕ) (rs qs : List Reply) → ((v : ℕ) → k ≤ v → cancels_in v qs ≡ cancels_in v rs)
    → owed_from k vs ss qs ≡ owed_from k vs ss rs
owed_counts [] ss k rs qs same = refl
owed_counts (y ∷ vs) [] k rs qs same = refl
owed_counts (y ∷ vs) (s ∷ ss) k rs qs same =
    ap (λ n. owed_by y s n + owed_from (k + 1) vs ss qs) (same k (omega arith))
    ∙ ap (λ n. owed_by y s (cancels_in k rs) + n) (owed_counts vs ss (k + 1) rs qs (λ v le. same v (omega (arith, le))))

running_owes : (y : Vertex) (s : Status) (w n : ℕ) → s ≡ Running w → owed_by y s n ≡ 0
running_owes y s w n e = ap (λ t. owed_by y t n) e

-- for a vertex that runs, what is owed does not depend on how often it was cancelled
owed_running : (vs : List Vertex) (ss : List Status) (k v w : ℕ) (rs qs : List Reply) → slice_get ss v ≡ Some (Running w)
    → ((u : ℕ) → u ≢ k + v → cancels_in u qs ≡ cancels_in u rs) → owed_from k vs ss qs ≡ owed_from k vs ss rs
owed_running [] ss k v w rs qs at same = refl
owed_running (y ∷ vs) [] k v w rs qs at same = refl
owed_running (y ∷ vs) (s ∷ ss) k zero w rs qs at same =
    let runs : s ≡ Running w = cc in
    let a = running_owes y s w (cancels_in k qs) runs in
    let b = running_owes y s w (cancels_in k rs) runs in
    let rest = owed_counts vs ss (k + 1) rs qs (λ v le. same v (λ e. absurd (omega (arith, e, le)))) in
    omega (arith, a, b, rest)
owed_running (y ∷ vs) (s ∷ ss) k (suc v) w rs qs at same =
    ap (λ n. owed_by y s n + owed_from (k + 1) vs ss qs) (same k (λ e. absurd (omega (arith, e))))
    ∙ ap (λ n. owed_by y s (cancels_in k rs) + n) (owed_running vs ss (k + 1) v w rs qs at (λ u apart. same u (λ e. apart (e ∙ next k v))))
  where
    next : (k v : ℕ) → k + suc v ≡ k + 1 + v
    next k v = omega arith

-- ---- events

at_zero : (x : Vertex) (t : Status) (v : ℕ) (rs : List Reply) → owed_by x t (cancels_in v rs) ≡ owed_by x t (cancels_in (0 + v) rs)
at_zero x t v rs = ap (λ j. owed_by x t (cancels_in j rs)) (from_zero v)

-- what is owed, and what a run can fill, after a granted event: a cancel adds the events of its vertex to both, a claim after a cancel takes what it owes
pub event_owes : (b : Build) (s : State) (e : Event) (a : Answer) (rs : List Reply) → IsConsistent b s → table b s e ≡ Some a
    → owed b a.0.statuses (rs ++ a.1 ∷ []) + room_taken b rs e + most_events b rs ≡ owed b s.statuses rs + most_events b (rs ++ a.1 ∷ [])
event_owes b s (Claim w v) a rs here given =
    let c = claim_is b s w v a given in
    let x = c.start.vertex in
    let vs = b.graph.vertices in
    let quiet : (u : ℕ) → cancels_in u (rs ++ a.1 ∷ []) ≡ cancels_in u rs =
    λ u. cancels_later u rs a.1 (no_cancel b s (Claim w v) a (λ u e. cc) given u) in
    let most = most_counts vs 0 rs (rs ++ a.1 ∷ []) (λ u le. quiet u) in
    let replies = owed_counts vs a.0.statuses 0 rs (rs ++ a.1 ∷ []) (λ u le. quiet u) in
    let statuses : owed_from 0 vs a.0.statuses rs ≡ owed_from 0 vs (slice_set s.statuses v (Running w)) rs =
    ap (λ (t : Answer). owed_from 0 vs t.0.statuses rs) c.gives in
    let set = owed_set vs s.statuses 0 v x Waiting (Running w) rs c.begins.there c.begins.waits in
    let taken : room_taken b rs (Claim w v) ≡ owed_by x Waiting (cancels_in (0 + v) rs) =
    ap (λ o. owed_at o (cancels_in v rs)) c.begins.there ∙ at_zero x Waiting v rs in
    omega (arith, most, replies, statuses, set, taken)
event_owes b s (Step w) a rs here given =
    let c = step_is b s w a given in
    let vs = b.graph.vertices in
    let quiet : (u : ℕ) → cancels_in u (rs ++ a.1 ∷ []) ≡ cancels_in u rs =
    λ u. cancels_later u rs a.1 (no_cancel b s (Step w) a (λ u e. cc) given u) in
    let most = most_counts vs 0 rs (rs ++ a.1 ∷ []) (λ u le. quiet u) in
    let replies = owed_counts vs a.0.statuses 0 rs (rs ++ a.1 ∷ []) (λ u le. quiet u) in
    let statuses : owed_from 0 vs a.0.statuses rs ≡ owed_from 0 vs s.statuses rs = ap (λ (t : Answer). owed_from 0 vs t.0.statuses rs) c.gives in
    omega (arith, most, replies, statuses)
event_owes b s (Settle w) a rs here given =
    let c = settle_is b s w a given in
    let vs = b.graph.vertices in
    let v = c.x.vertex in
    let end = Settled (ending_from (program_in b c.x) c.x) in
    let status = here.working w c.x c.there in
    let count = here.count in
    let vertex = get_within vs v (omega (arith, count, got_within s.statuses v (Running w) status)) in
    let quiet : (u : ℕ) → cancels_in u (rs ++ a.1 ∷ []) ≡ cancels_in u rs =
    λ u. cancels_later u rs a.1 (no_cancel b s (Settle w) a (λ u e. cc) given u) in
    let most = most_counts vs 0 rs (rs ++ a.1 ∷ []) (λ u le. quiet u) in
    let replies = owed_counts vs a.0.statuses 0 rs (rs ++ a.1 ∷ []) (λ u le. quiet u) in
    let statuses : owed_from 0 vs a.0.statuses rs ≡ owed_from 0 vs (slice_set s.statuses v end) rs =
    ap (λ (t : Answer). owed_from 0 vs t.0.statuses rs) c.gives in
    let set = owed_set vs s.statuses 0 v vertex.0 (Running w) end rs vertex.1 status in
    omega (arith, most, replies, statuses, set)
event_owes b s (Cancel w) a rs here given =
    let c = cancel_is b s w a given in
    let status = here.working w c.x c.there in
    let count = here.count in
    let vertex = get_within b.graph.vertices c.x.vertex (omega (arith, count, got_within s.statuses c.x.vertex (Running w) status)) in
    subst (λ (t : Answer). owed b t.0.statuses (rs ++ t.1 ∷ []) + 0 + most_events b rs ≡ owed b s.statuses rs + most_events b (rs ++ t.1 ∷ [])) (sym c.gives)
    (by_vertex c.x.vertex c.x.done vertex.0 vertex.1 status)
  where
    by_vertex : (v n : ℕ) (x : Vertex) → slice_get b.graph.vertices v ≡ Some x → slice_get s.statuses v ≡ Some (Running w)
        → owed b (slice_set s.statuses v Waiting) (rs ++ cancel_reply v n ∷ []) + 0 + most_events b rs
        ≡ owed b s.statuses rs + most_events b (rs ++ cancel_reply v n ∷ [])
    by_vertex v n x there status =
        let vs = b.graph.vertices in
        let qs = rs ++ cancel_reply v n ∷ [] in
        let one : cancels_in v qs ≡ suc (cancels_in v rs) = cancels_once_more v rs (cancel_reply v n) (eq-eqb v v refl) in
        let others : (u : ℕ) → u ≢ 0 + v → cancels_in u qs ≡ cancels_in u rs =
        λ u apart. cancels_later u rs (cancel_reply v n) (ne_eqb v u (λ e. apart (sym e ∙ from_zero v))) in
        let most = most_more vs 0 v rs qs (subst (λ j. cancels_in j qs ≡ suc (cancels_in j rs)) (from_zero v) one) others in
        let events : events_at (slice_get vs v) ≡ events_of x = ap events_at there in
        let set = owed_set vs s.statuses 0 v x (Running w) Waiting qs there status in
        let owes : owed_by x Waiting (cancels_in (0 + v) qs) ≡ events_of x = sym (at_zero x Waiting v qs) ∙ ap (owed_by x Waiting) one in
        let replies = owed_running vs s.statuses 0 v w rs qs status others in
        omega (arith, most, events, set, owes, replies)

-- ---- there is room for a granted event

-- what is owed is still to come
pub owed_few : (vs : List Vertex) (ss : List Status) (k : ℕ) (rs : List Reply) → owed_from k vs ss rs ≤ all_to_come vs ss
owed_few [] ss k rs = omega arith
owed_few (y ∷ vs) [] k rs = omega arith
owed_few (y ∷ vs) (s ∷ ss) k rs = omega (arith, owed_few vs ss (k + 1) rs, few s (cancels_in k rs))
  where
    few : (s : Status) (n : ℕ) → owed_by y s n ≤ to_come y s
    few Waiting zero = omega arith
    few Waiting (suc n) = omega arith
    few (Running w) n = omega arith
    few (Settled e) n = omega arith

-- for a vertex that waits all events are to come, and they are owed after a cancel
owed_apart : (vs : List Vertex) (ss : List Status) (k v : ℕ) (x : Vertex) (rs : List Reply) → slice_get vs v ≡ Some x → slice_get ss v ≡ Some Waiting
    → owed_from k vs ss rs + events_of x ≤ all_to_come vs ss + owed_by x Waiting (cancels_in (k + v) rs)
owed_apart vs ss k v x rs there at =
    let set = owed_set vs ss k v x Waiting (Running 0) rs there at in
    let come = come_set vs ss v x Waiting (Running 0) there at in
    omega (arith, set, come, owed_few vs (slice_set ss v (Running 0)) k rs)

left_one : (b : Build) (ws : List WorkerStatus) (w : ℕ) (x : Execution) → slice_get ws w ≡ Some (Runs x) → 1 ≤ all_left b ws
left_one b ws w x at = omega (arith, left_set b ws w (Runs x) Idle at)

-- beside what claims have still to take there is room for the event, where it takes its own
pub has_place : (b : Build) (s : State) (e : Event) (a : Answer) (rs : List Reply) → table b s e ≡ Some a
    → owed b s.statuses rs + 1 ≤ still_to_come b s + room_taken b rs e
has_place b s (Claim w v) a rs given =
    let c = claim_is b s w v a given in
    let x = c.start.vertex in
    let apart = owed_apart b.graph.vertices s.statuses 0 v x rs c.begins.there c.begins.waits in
    let taken : room_taken b rs (Claim w v) ≡ owed_by x Waiting (cancels_in (0 + v) rs) =
    ap (λ o. owed_at o (cancels_in v rs)) c.begins.there ∙ at_zero x Waiting v rs in
    omega (arith, apart, taken)
has_place b s (Step w) a rs given =
    let c = step_is b s w a given in
    omega (arith, owed_few b.graph.vertices s.statuses 0 rs, left_one b s.workers w c.x c.there)
has_place b s (Settle w) a rs given =
    let c = settle_is b s w a given in
    omega (arith, owed_few b.graph.vertices s.statuses 0 rs, left_one b s.workers w c.x c.there)
has_place b s (Cancel w) a rs given =
    let c = cancel_is b s w a given in
    omega (arith, owed_few b.graph.vertices s.statuses 0 rs, left_one b s.workers w c.x c.there)

-- ---- a record

-- where the room of a record and what is still to take are just what its run can fill
abbrev pub IsRoomy : Build → State → List Reply → ℕ → Type 0
IsRoomy b s rs room = room + owed b s.statuses rs ≡ most_events b rs

pub opening_roomy : (b : Build) (o : Opening) → IsRoomy b (opening b o) [] (most_events b [])
opening_roomy b o = omega (arith, opening_owed b o)

-- there is room for a granted event, together with the room that the event itself takes
pub room_for_event : (b : Build) (o : Opening) (s : State) (es : List Event) (rs : List Reply) (room : ℕ) (e : Event) (a : Answer)
    → run b (opening b o) es ≡ Some (s, rs) → IsRoomy b s rs room → table b s e ≡ Some a → length es + 1 ≤ room + room_taken b rs e
room_for_event b o s es rs room e a leads roomy given = omega (arith, run_has_few b o s es rs leads, has_place b s e a rs given, roomy)

-- the room is still enough after a granted event
pub event_roomy : (b : Build) (s : State) (rs : List Reply) (room : ℕ) (e : Event) (a : Answer) → IsConsistent b s → IsRoomy b s rs room
    → table b s e ≡ Some a → IsRoomy b a.0 (rs ++ a.1 ∷ []) (room + room_taken b rs e)
event_roomy b s rs room e a here roomy given = omega (arith, event_owes b s e a rs here given, roomy)
