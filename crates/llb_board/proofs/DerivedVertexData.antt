-- What is kept of the vertices beside their statuses: what it tells, and that it stays in step where one vertex gets another status.
use Rattle.std.proofs.Common.{◌≡◌, ℕ, zero, suc, ◌+◌, ◌<◌, ◌≤◌, Bool, true, false, ◌||◌, ◌&&◌, List, [], ◌∷◌, ◌++◌, length, get_or, map, Some}
use Rattle.std.proofs.Common.{unwrap_or, is_some, inl, inr, refl, sym, ap, subst, ◌∙◌, arith, length-append}
use Rattle.std.specs.Prelude.{All, Option, None, slice_get, slice_set, replicate, nat_lt, not, ◌==◌, option_map}
use Rattle.std.specs.List.{list_any}
use Rattle.std.proofs.Math.Bool.{and-false}
use Rattle.std.proofs.lemmas.Bool.{ltb-true, ltb-false}
use Rattle.std.proofs.lemmas.Option.{slice_get_within}
use Rattle.std.proofs.lemmas.List.{length-replicate}
use Rattle.std.proofs.lemmas.List.Elements.{All-weaker}
use Rattle.llb_loader.specs.Graph.{IsGraph, LeadsBelow}
use Rattle.llb_loader.specs.declared.graph.Edge.{Edge}
use Rattle.llb_loader.specs.declared.graph.Vertex.{Vertex}
use Rattle.llb_board.specs.UsersAndOpenInputs.{Linked, IsLinked, AreLowered, AreRaised, Spreads, users_at, open_inputs, has_inputs}
use Rattle.llb_board.proofs.OpenInputs.{linked_same, linked_lowered, linked_raised, counted_done}
use Rattle.llb_model.specs.ListsFromEarlierItems.{by_number}
use Rattle.llb_model.specs.Outcome.{Done, inputs_from}
use Rattle.llb_model.specs.Program.{Build, start_with}
use Rattle.llb_model.specs.Run.{is_settled}
use Rattle.llb_model.specs.State.{Status, Waiting, Running, Settled, ending_of, ending_at, start_from, is_done, is_failed, is_waiting, is_ready, is_blocked}
use Rattle.llb_model.specs.State.{is_stopped, stopped, next_stopped}
use Rattle.llb_model.proofs.Lists.{Each_of, got_set, got_replicate, get_set_same, get_set_other, get_within, length_set, length_map}
use Rattle.llb_model.proofs.Outcomes.{HasOutputs, each_below, inputs_same, inputs_there}
use Rattle.llb_model.proofs.PlainVertexStates.{ending_settled}
use Rattle.llb_model.proofs.ReadyVertices.{ready_waits}
use Rattle.llb_board.specs.Vertices.{IsWhole, done_in, is_over, AreCounted, AreOver, TellsInputs, IsInStep, status_of}
use Rattle.llb_board.specs.declared.vertices.vertex_state.Stage.{Stage}
use Rattle.llb_board.proofs.UsersOverStatuses.{test_set, others_done, done_here, below, linked_open, ready_so, spread_stops}
use Rattle.llb_board.proofs.Lists.{map_set, get_map, set_back}
use Rattle.llb_board.proofs.FailedAndDownstream.{marks_stay, unmarked}

-- ---- what is done is whole

-- every status of these vertices is whole
abbrev pub AreWhole : List Vertex → List Status → Type 0
AreWhole vs S = (v : ℕ) (s : Status) → slice_get S v ≡ Some s → IsWhole (slice_get vs v) s

pub whole_set : (vs : List Vertex) (S : List Status) (v : ℕ) (s : Status) → AreWhole vs S → IsWhole (slice_get vs v) s → AreWhole vs (slice_set S v s)
whole_set vs S v s all here k t at = elim (got_set S v s k t at) [
  | inl h ↦ subst (λ z. IsWhole (slice_get vs k) z) (sym h.1) (subst (λ n. IsWhole (slice_get vs n) s) (sym h.0) here)
  | inr h ↦ all k t h.1
]

pub whole_at_first : (vs : List Vertex) (n : ℕ) → AreWhole vs (replicate n Waiting)
whole_at_first vs n k t at = subst (IsWhole (slice_get vs k)) (sym (got_replicate n Waiting k t at)) (waits (slice_get vs k))
  where
    waits : (o : Option Vertex) → IsWhole o Waiting
    waits (Some x) = tt
    waits None = tt

outputs_there : (b : Build) (S : List Status) → AreWhole b.graph.vertices S → HasOutputs b.graph (ending_at S)
outputs_there b S whole j x trees there is =
    subst (λ o. IsWhole o (Settled (Done trees))) there (whole j (Settled (Done trees)) (ending_settled (slice_get S j) (Done trees) is))

-- ---- the counts

-- the counts decide which inputs are there
pub tells_in : (b : Build) (S : List Status) (l : Linked) → IsGraph b.graph → AreWhole b.graph.vertices S → IsLinked b.graph.vertices (done_in S) l
    → TellsInputs b S l
tells_in b S l graph whole so v x at =
    let vs = b.graph.vertices in
    let low = slice_get_within vs v x at in
    let all_below : All (λ (e : Edge). e.vertex < length vs) x.inputs
    = All-weaker (λ (e : Edge). e.vertex < v) (λ (e : Edge). e.vertex < length vs) (λ e lt. omega (arith, lt, low)) x.inputs (below b graph v x at) in
    let here : get_or l.counts v 1 ≡ open_inputs vs (done_in S) x
    = default_free l.counts v (omega (arith, low, so.same_counts)) ∙ so.counts_are v x at in
    ap (λ k. k == 0) here ∙ counted_done vs (done_in S) x all_below
    ∙ sym (inputs_there b.graph (ending_at S) (outputs_there b S whole) v (omega (arith, low)) x.inputs (each_below b.graph graph v x at))
  where
    default_free : (xs : List ℕ) (k : ℕ) → k < length xs → get_or xs k 1 ≡ get_or xs k 0
    default_free [] k lt = absurd (omega (arith, lt))
    default_free (y ∷ ys) zero lt = refl
    default_free (y ∷ ys) (suc k) lt = default_free ys k (omega (arith, lt))

-- what waits and has no open input is Ready
pub ready_here : (b : Build) (S : List Status) (l : Linked) (v : ℕ) → TellsInputs b S l → v < length b.graph.vertices
    → (is_waiting (slice_get S v) && has_inputs l v) ≡ is_ready b S v
ready_here b S l v tells low =
    let x = get_within b.graph.vertices v low in
    sym (ready_so b S l v x.0 tells x.1) ∙ ap (λ o. is_some (start_from S (slice_get S v) o)) (sym x.1)

-- where a vertex is done neither before nor after, or both before and after, the links stay right
pub linked_as : (vs : List Vertex) (T : List Status) (v : ℕ) (old new : Status) (l : Linked) → slice_get T v ≡ Some new
    → is_done (ending_of (Some old)) ≡ is_done (ending_of (Some new)) → IsLinked vs (done_in (slice_set T v old)) l → IsLinked vs (done_in T) l
linked_as vs T v old new l at same so = linked_same vs (done_in (slice_set T v old)) (done_in T) l (test_set is_done T v new old at same) so

-- where the vertex becomes done, the counts of its users are lowered
pub linked_down : (vs : List Vertex) (T : List Status) (v : ℕ) (old new : Status) (l m : Linked) → slice_get T v ≡ Some new → v < length vs
    → is_done (ending_of (Some old)) ≡ false → is_done (ending_of (Some new)) ≡ true → m.users ≡ l.users → AreLowered (users_at l v) l.counts m.counts
    → IsLinked vs (done_in (slice_set T v old)) l → IsLinked vs (done_in T) m
linked_down vs T v old new l m at low was is users counts so =
    linked_lowered vs (done_in (slice_set T v old)) (done_in T) l m v low (done_here T v new old at ∙ was) (ap (λ o. is_done (ending_of o)) at ∙ is)
    (λ u apart. sym (others_done T v old u apart)) so users counts

-- where the vertex is done no longer, the counts of its users are raised
pub linked_up : (vs : List Vertex) (T : List Status) (v : ℕ) (old new : Status) (l m : Linked) → slice_get T v ≡ Some new → v < length vs
    → is_done (ending_of (Some old)) ≡ true → is_done (ending_of (Some new)) ≡ false → m.users ≡ l.users → AreRaised (users_at l v) l.counts m.counts
    → IsLinked vs (done_in (slice_set T v old)) l → IsLinked vs (done_in T) m
linked_up vs T v old new l m at low was is users counts so =
    linked_raised vs (done_in (slice_set T v old)) (done_in T) l m v low (done_here T v new old at ∙ was) (ap (λ o. is_done (ending_of o)) at ∙ is)
    (λ u apart. sym (others_done T v old u apart)) so users counts

-- in each of these cases the counts are those of the new statuses
linked_counted : (vs : List Vertex) (T : List Status) (v : ℕ) (old new : Status) (l m : Linked) → slice_get T v ≡ Some new → v < length vs
    → m.users ≡ l.users → AreCounted (is_done (ending_of (Some old))) (is_done (ending_of (Some new))) (users_at l v) l.counts m.counts
    → IsLinked vs (done_in (slice_set T v old)) l → IsLinked vs (done_in T) m
linked_counted vs T v old new l m at low users counts so =
    by_tests (is_done (ending_of (Some old))) (is_done (ending_of (Some new))) refl refl counts
  where
    unchanged : is_done (ending_of (Some old)) ≡ is_done (ending_of (Some new)) → m.counts ≡ l.counts → IsLinked vs (done_in T) m
    unchanged same is = subst (IsLinked vs (done_in T)) (λ i. record { users = sym users i; counts = sym is i }) (linked_as vs T v old new l at same so)

    by_tests : (was is : Bool) → is_done (ending_of (Some old)) ≡ was → is_done (ending_of (Some new)) ≡ is → AreCounted was is (users_at l v) l.counts m.counts
        → IsLinked vs (done_in T) m
    by_tests false true was is counts = linked_down vs T v old new l m at low was is users counts so
    by_tests true false was is counts = linked_up vs T v old new l m at low was is users counts so
    by_tests false false was is counts = unchanged (was ∙ sym is) counts
    by_tests true true was is counts = unchanged (was ∙ sym is) counts

-- ---- the marks

-- where a vertex is failed neither before nor after, the marks stay as they are
pub marks_as : (b : Build) (T : List Status) (v : ℕ) (old new : Status) → slice_get T v ≡ Some new → is_failed (ending_of (Some old)) ≡ false
    → is_failed (ending_of (Some new)) ≡ false → stopped b (slice_set T v old) ≡ stopped b T
marks_as b T v old new at was is = marks_stay b.graph.vertices T v new old at is was

-- where the vertex becomes failed, the marks that have spread from it are right
pub marks_spread : (b : Build) (T : List Status) (v : ℕ) (old new : Status) (l : Linked) (marks marked : List Bool) → IsGraph b.graph
    → slice_get T v ≡ Some new → v < length b.graph.vertices → is_failed (ending_of (Some old)) ≡ false → is_failed (ending_of (Some new)) ≡ true
    → IsLinked b.graph.vertices (done_in (slice_set T v old)) l → marks ≡ stopped b (slice_set T v old) → Spreads l.users v marks marked
    → marked ≡ stopped b T
marks_spread b T v old new l marks marked graph at low was fails so are spreads =
    let S = slice_set T v old in
    spread_stops b graph l (done_in S) so S v old new (get_set_same T v old new at) was fails low marks marked are spreads
    ∙ ap (stopped b) (set_back T v old new at)

-- ---- what is over

-- an item that was made before others is not changed by these others
kept_mark : {A B : Type 0} (next : List B → A → B) (before : List B) (xs : List A) (k : ℕ) → k < length before → slice_get (by_number next before xs) k
    ≡ slice_get before k
kept_mark next before [] k low = refl
kept_mark next before (x ∷ xs) k low =
    let longer = length-append before (next before x ∷ []) in
    kept_mark next (before ++ next before x ∷ []) xs k (omega (arith, longer, low)) ∙ first_part before (next before x) k low
  where
    first_part : {B : Type 0} (ys : List B) (y : B) (k : ℕ) → k < length ys → slice_get (ys ++ y ∷ []) k ≡ slice_get ys k
    first_part [] y k low = absurd (omega (arith, low))
    first_part (z ∷ ys) y zero low = refl
    first_part (z ∷ ys) y (suc k) low = first_part ys y k (omega (arith, low))

-- the marks below a number depend on the failures below it
marks_below : (S T : List Status) (n : ℕ) → ((j : ℕ) → j < n → is_failed (ending_at S j) ≡ is_failed (ending_at T j))
    → (before : List Bool) (vs : List Vertex) (k : ℕ) → k < n
    → slice_get (by_number (next_stopped S) before vs) k ≡ slice_get (by_number (next_stopped T) before vs) k
marks_below S T n same before [] k low = refl
marks_below S T n same before (v ∷ vs) k low =
    by_place (nat_lt (length before) n) refl (marks_below S T n same (before ++ next_stopped S before v ∷ []) vs k low)
  where
    by_place : (b : Bool) → nat_lt (length before) n ≡ b
        → slice_get (by_number (next_stopped S) (before ++ next_stopped S before v ∷ []) vs) k
        ≡ slice_get (by_number (next_stopped T) (before ++ next_stopped S before v ∷ []) vs) k
        → slice_get (by_number (next_stopped S) before (v ∷ vs)) k ≡ slice_get (by_number (next_stopped T) before (v ∷ vs)) k
    by_place true is rest =
        rest
        ∙ ap (λ f. slice_get (by_number (next_stopped T) (before ++ (f || list_any (λ (e : Edge). unwrap_or (slice_get before e.vertex) false) v.inputs) ∷
        []) vs) k)
        (same (length before) (ltb-true (length before) n is))
    by_place false is rest =
        let past = ltb-false (length before) n is in
        kept_mark (next_stopped S) before (v ∷ vs) k (omega (arith, past, low)) ∙ sym (kept_mark (next_stopped T) before (v ∷ vs) k (omega (arith, past, low)))

-- what a vertex begins with depends on the statuses below it and its own
ready_below : (b : Build) (S T : List Status) (v k : ℕ) → IsGraph b.graph → ((j : ℕ) → j < v → slice_get T j ≡ slice_get S j) → k < v
    → k < length b.graph.vertices → is_ready b T k ≡ is_ready b S k
ready_below b S T v k graph same low there =
    let x = get_within b.graph.vertices k there in
    ap (λ o. is_some (start_from T (slice_get T k) o)) x.1 ∙ ap (λ s. is_some (start_from T s (Some x.0))) (same k low)
    ∙ by_status x.0 (slice_get S k)
    (inputs_same (ending_at T) (ending_at S) x.0.inputs (each x.0.inputs (each_below b.graph graph k x.0 x.1)))
    ∙ ap (λ o. is_some (start_from S (slice_get S k) o)) (sym x.1)
  where
    each : (edges : List Edge) → Each_of (LeadsBelow b.graph.vertices k) edges → Each_of (λ (e : Edge). ending_at T e.vertex ≡ ending_at S e.vertex) edges
    each [] leads = tt
    each (e ∷ es) leads = let lower = leads.0.lower in (ap ending_of (same e.vertex (omega (arith, lower, low))), each es leads.1)

    by_status : (x : Vertex) (o : Option Status) → inputs_from (ending_at T) x.inputs ≡ inputs_from (ending_at S) x.inputs
        → is_some (start_from T o (Some x)) ≡ is_some (start_from S o (Some x))
    by_status x None trees = refl
    by_status x (Some Waiting) trees = ap (λ o. is_some (option_map (start_with x) o)) trees
    by_status x (Some (Running w)) trees = refl
    by_status x (Some (Settled e)) trees = refl

-- what is over below a vertex stays over if the vertex gets another status
pub over_set : (b : Build) (S : List Status) (v : ℕ) (new : Status) (n r : ℕ) → IsGraph b.graph → v < length b.graph.vertices → r ≤ n → r ≤ v
    → AreOver b S n → AreOver b (slice_set S v new) r
over_set b S v new n r graph there fits under over k low =
    let T = slice_set S v new in
    let other : (j : ℕ) → j < v → slice_get T j ≡ slice_get S j = λ j less. get_set_other S v new j (λ e. absurd (omega (arith, less, e))) in
    let here = other k (omega (arith, low, under)) in
    let marks : is_stopped b T k ≡ is_stopped b S k
    = ap (λ o. unwrap_or o false) (marks_below T S v (λ j less. ap (λ o. is_failed (ending_of o)) (other j less)) [] b.graph.vertices k
    (omega (arith, low, under))) in
    let ready = ready_below b S T v k graph other (omega (arith, low, under)) (omega (arith, low, under, there)) in
    (λ i. is_settled (here i) || ((is_waiting (here i) && marks i) && not (ready i))) ∙ over k (omega (arith, low, fits))

-- what is over is not Ready
pub over_not_ready : (b : Build) (S : List Status) (v : ℕ) → is_over b S v ≡ true → is_ready b S v ≡ false
over_not_ready b S v over = by_test (is_ready b S v) refl
  where
    by_test : (t : Bool) → is_ready b S v ≡ t → t ≡ false
    by_test false is = refl
    by_test true is =
        let waits = ready_waits b S v is in
        let no : is_over b S v ≡ false
        = (λ i. is_settled (waits i) || ((is_waiting (waits i) && is_stopped b S v) && not (is i))) ∙ and-false (is_stopped b S v) in
        absurd (cc (no, over))

-- a vertex that is over is settled or blocked
pub over_ended : (b : Build) (S : List Status) (v : ℕ) → is_over b S v ≡ true → (is_settled (slice_get S v) || is_blocked b S v) ≡ true
over_ended b S v over = by_tests (is_settled (slice_get S v)) (is_blocked b S v) (not (is_ready b S v)) over
  where
    by_tests : (a c d : Bool) → (a || (c && d)) ≡ true → (a || c) ≡ true
    by_tests true c d h = refl
    by_tests false true d h = refl
    by_tests false false d h = h

-- ---- all vertices wait

pub in_step_at_first : (b : Build) (marks : List Bool) (l : Linked) → IsGraph b.graph → marks ≡ replicate (length b.graph.vertices) false
    → IsLinked b.graph.vertices (λ u. false) l → IsInStep b (replicate (length b.graph.vertices) Waiting) marks l 0
in_step_at_first b marks l graph are so = record {
  graph = graph;
  count = length-replicate (length b.graph.vertices) Waiting;
  whole = whole_at_first b.graph.vertices (length b.graph.vertices);
  marks = are ∙ sym (unmarked b.graph.vertices);
  linked = linked_open b.graph.vertices l so;
  over = λ v low. absurd (omega (arith, low));
}

-- ---- a vertex gets another state

module _ (b : Build) (ss : List Stage) (v : ℕ) (s : Stage) (marks : List Bool) (l : Linked) (n : ℕ) (kept : IsInStep b (map status_of ss) marks l n)
    (low : v < length ss) (whole : IsWhole (slice_get b.graph.vertices v) (status_of s)) where
  abbrev pub after : List Status
  after = map status_of (slice_set ss v s)

  pub low_vertex : v < length b.graph.vertices
  low_vertex = omega (arith, low, length_map status_of ss, kept.count)

  pub count_after : length (slice_set ss v s) ≡ length b.graph.vertices
  count_after = length_set ss v s ∙ sym (length_map status_of ss) ∙ kept.count

  -- with the former state put back, the statuses are what they were
  pub before_is : (had : Stage) → slice_get ss v ≡ Some had → slice_set after v (status_of had) ≡ map status_of ss
  before_is had at =
      ap (λ S. slice_set S v (status_of had)) (map_set status_of ss v s)
      ∙ set_back (map status_of ss) v (status_of s) (status_of had) (get_map status_of ss v had at)

  pub whole_after : AreWhole b.graph.vertices after
  whole_after =
      subst (AreWhole b.graph.vertices) (sym (map_set status_of ss v s))
      (whole_set b.graph.vertices (map status_of ss) v (status_of s) kept.whole whole)

  pub over_after : (r : ℕ) → r ≤ n → r ≤ v → AreOver b after r
  over_after r fits under =
      subst (λ S. AreOver b S r) (sym (map_set status_of ss v s))
      (over_set b (map status_of ss) v (status_of s) n r kept.graph low_vertex fits under kept.over)

  -- where the users of the vertex are counted anew, the links are those of the new statuses
  pub linked_after : (had : Stage) → slice_get ss v ≡ Some had → (m : Linked) → m.users ≡ l.users
      → AreCounted (is_done (ending_of (Some (status_of had)))) (is_done (ending_of (Some (status_of s)))) (users_at l v) l.counts m.counts
      → IsLinked b.graph.vertices (done_in after) m
  linked_after had at m users counts =
      linked_counted b.graph.vertices after v (status_of had) (status_of s) l m
      (get_map status_of (slice_set ss v s) v s (get_set_same ss v s had at)) low_vertex users counts
      (subst (λ S. IsLinked b.graph.vertices (done_in S) l) (sym (before_is had at)) kept.linked)

  -- what is kept is in step again
  pub in_step_after : (marked : List Bool) (m : Linked) (r : ℕ) → marked ≡ stopped b after → IsLinked b.graph.vertices (done_in after) m → AreOver b after r
      → IsInStep b after marked m r
  in_step_after marked m r are linked over = record {
    graph = kept.graph;
    count = length_map status_of (slice_set ss v s) ∙ count_after;
    whole = whole_after;
    marks = are;
    linked = linked;
    over = over;
  }
