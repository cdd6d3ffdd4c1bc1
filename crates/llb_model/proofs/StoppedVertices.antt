-- Which vertices are stopped: one whose inputs are all there is not; one that has not failed itself waits, and has the plain outcome Blocked.
use Rattle.std.proofs.Common.{◌≡◌, ℕ, zero, suc, ◌<◌, Bool, true, false, ◌||◌, ◌&&◌, List, [], ◌∷◌, length, take, Option, Some, None}
use Rattle.std.proofs.Common.{is_some, unwrap_or, ◌⊎◌, inl, inr, refl, sym, ap, subst, ◌∙◌, arith}
use Rattle.std.specs.Prelude.{slice_get}
use Rattle.std.specs.List.{list_any}
use Rattle.std.proofs.lemmas.List.{length-take-le}
use Rattle.std.proofs.lemmas.Bool.{or_cases}
use Rattle.std.proofs.Math.Bool.{and-false}
use Rattle.llb_loader.specs.Graph.{LeadsBelow, IsGraph}
use Rattle.llb_loader.specs.declared.graph.Edge.{Edge}
use Rattle.llb_loader.specs.declared.graph.Vertex.{Vertex}
use Rattle.llb_events.specs.declared.fault.VertexFault.{VertexFault}
use Rattle.llb_model.specs.Program.{Build, Start}
use Rattle.llb_model.specs.Outcome.{Ending, Done, Failed, Blocked, output_in, inputs_from, outcome_on, ending_in, outcome, is_plain}
use Rattle.llb_model.specs.State.{Status, Waiting, Running, Settled, State, ending_of, ending_at, ready, is_ready, is_waiting, is_failed}
use Rattle.llb_model.specs.State.{next_stopped, stopped, is_blocked, is_stopped}
use Rattle.llb_model.specs.ConsistentStates.{IsConsistent}
use Rattle.llb_model.specs.PlainVertices.{StandsByOutcomes}
use Rattle.llb_model.proofs.Lists.{some_of, get_take, get_within, got_within, Each_of, each_unit, each_both, any_true, some_as}
use Rattle.llb_model.proofs.ItemsFromEarlierItems.{by_number_is, by_number_length}
use Rattle.llb_model.proofs.GrantedEvents.{ready_is}
use Rattle.llb_model.proofs.Outcomes.{inputs_none, each_below, HasOutputs, plain, outcome_is, plain_inputs}
use Rattle.llb_model.proofs.PlainVertexStates.{ending_settled, ending_plain}

-- ---- the list of stopped vertices

pub stopped_next : (b : Build) (statuses : List Status) (k : ℕ) (v : Vertex) → slice_get b.graph.vertices k ≡ Some v
    → slice_get (stopped b statuses) k ≡ Some (next_stopped statuses (take k (stopped b statuses)) v)
stopped_next b statuses k v there = by_number_is (next_stopped statuses) b.graph.vertices k v there

-- there is one mark for each vertex of the graph
pub stopped_length : (b : Build) (statuses : List Status) → length (stopped b statuses) ≡ length b.graph.vertices
stopped_length b statuses = by_number_length (next_stopped statuses) b.graph.vertices

-- a vertex that is stopped is one of the graph's
pub stopped_there : (b : Build) (statuses : List Status) (k : ℕ) → is_stopped b statuses k ≡ true → k < length b.graph.vertices
stopped_there b statuses k e = subst (λ n. k < n) (stopped_length b statuses) (at_some (slice_get (stopped b statuses) k) refl e)
  where
    at_some : (o : Option Bool) → slice_get (stopped b statuses) k ≡ o → unwrap_or o false ≡ true → k < length (stopped b statuses)
    at_some None is e = absurd cc
    at_some (Some t) is e = got_within (stopped b statuses) k t is

-- whether an edge leads to a stopped vertex
abbrev pub any_stopped : Build → List Status → List Edge → Bool
any_stopped b statuses edges = list_any (λ (e : Edge). is_stopped b statuses e.vertex) edges

-- a vertex is stopped exactly where it has failed itself or an edge of it leads to a stopped one
pub stopped_is : (b : Build) → IsGraph b.graph → (statuses : List Status) (k : ℕ) (v : Vertex) → slice_get b.graph.vertices k ≡ Some v
    → is_stopped b statuses k ≡ (is_failed (ending_at statuses k) || any_stopped b statuses v.inputs)
stopped_is b graph statuses k v there =
    let fits : length (take k (stopped b statuses)) ≡ k = length-take-le k (stopped b statuses)
    (omega (arith, stopped_length b statuses, got_within b.graph.vertices k v there)) in
    ap (λ o. unwrap_or o false) (stopped_next b statuses k v there)
    ∙ ap (λ n. is_failed (ending_at statuses n) || list_any (λ (e : Edge). unwrap_or (slice_get (take k (stopped b statuses)) e.vertex) false) v.inputs) fits
    ∙ ap (λ t. is_failed (ending_at statuses k) || t) (lower v.inputs (each_below b.graph graph k v there))
  where
    lower : (edges : List Edge) → Each_of (LeadsBelow b.graph.vertices k) edges
        → list_any (λ (e : Edge). unwrap_or (slice_get (take k (stopped b statuses)) e.vertex) false) edges ≡ any_stopped b statuses edges
    lower [] each = refl
    lower (e ∷ edges) each = λ i. unwrap_or (get_take (stopped b statuses) k e.vertex each.0.lower i) false || lower edges each.1 i

-- a stopped vertex has failed, or an input of it is stopped
pub stopped_cases : (b : Build) → IsGraph b.graph → (statuses : List Status) (k : ℕ) (v : Vertex) → slice_get b.graph.vertices k ≡ Some v
    → is_stopped b statuses k ≡ true
    → (is_failed (ending_at statuses k) ≡ true) ⊎ (any_stopped b statuses v.inputs ≡ true)
stopped_cases b graph statuses k v there stop = or_cases (is_failed (ending_at statuses k)) (any_stopped b statuses v.inputs)
    (sym (stopped_is b graph statuses k v there) ∙ stop)

-- what is failed has a fault
pub failed_is : (o : Option Ending) → is_failed o ≡ true → (f : VertexFault) × (o ≡ Some (Failed f))
failed_is None e = absurd cc
failed_is (Some (Done trees)) e = absurd cc
failed_is (Some (Failed f)) e = (f, refl)

-- ---- what is stopped has no tree

module _ (b : Build) (graph : IsGraph b.graph) (statuses : List Status) (P : ℕ → Type 0) (f : ℕ → Option Ending) where
  -- an account of how some vertices end, by which none has a tree that has failed, or lacks an input
  record LacksTrees : Type 0 where
    failed : (k : ℕ) → P k → is_failed (ending_at statuses k) ≡ true → (i : ℕ) → output_in (f k) i ≡ None
    behind : (k : ℕ) (v : Vertex) → P k → slice_get b.graph.vertices k ≡ Some v → inputs_from f v.inputs ≡ None → (i : ℕ) → output_in (f k) i ≡ None
    inputs : (k : ℕ) (v : Vertex) → P k → slice_get b.graph.vertices k ≡ Some v → Each_of (λ (e : Edge). P e.vertex) v.inputs

  NoTrees : ℕ → Type 0
  NoTrees n = (k : ℕ) → k < n → P k → is_stopped b statuses k ≡ true → (i : ℕ) → output_in (f k) i ≡ None

  none_behind : LacksTrees → (k : ℕ) (v : Vertex) → P k → slice_get b.graph.vertices k ≡ Some v → NoTrees k
      → any_stopped b statuses v.inputs ≡ true → inputs_from f v.inputs ≡ None
  unfolding NoTrees
  none_behind lacks k v own there below any =
      inputs_none f v.inputs (some_as (λ (e : Edge). is_stopped b statuses e.vertex ≡ true) (λ (e : Edge). LeadsBelow b.graph.vertices k e × P e.vertex)
      (λ (e : Edge). output_in (f e.vertex) e.index ≡ None) v.inputs (any_true (λ (e : Edge). is_stopped b statuses e.vertex) v.inputs any)
      (each_both (LeadsBelow b.graph.vertices k) (λ (e : Edge). P e.vertex) v.inputs (each_below b.graph graph k v there) (lacks.inputs k v own there))
      (λ e stop q. below e.vertex q.0.lower q.1 stop e.index))

  no_trees : LacksTrees → (n : ℕ) → NoTrees n
  unfolding NoTrees
  no_trees lacks zero k lt own stop i = absurd (omega arith)
  no_trees lacks (suc n) k lt own stop i =
      let v = get_within b.graph.vertices k (stopped_there b statuses k stop) in
      elim (stopped_cases b graph statuses k v.0 v.1 stop) [
        | inl h ↦ lacks.failed k own h i
        | inr h ↦ lacks.behind k v.0 own v.1 (none_behind lacks k v.0 own v.1 (λ j low. no_trees lacks n j (omega arith)) h) i
      ]

  -- a stopped vertex that has not failed itself lacks an input
  lacks_inputs : LacksTrees → (k : ℕ) (v : Vertex) → P k → slice_get b.graph.vertices k ≡ Some v → is_stopped b statuses k ≡ true
      → is_failed (ending_at statuses k) ≡ false
      → inputs_from f v.inputs ≡ None
  lacks_inputs lacks k v own there stop unfailed = elim (stopped_cases b graph statuses k v there stop) [
    | inl h ↦ absurd (cc (h, unfailed))
    | inr h ↦ none_behind lacks k v own there (no_trees lacks k) h
  ]

-- ---- what has its inputs is not stopped

failed_output : (o : Option Ending) → is_failed o ≡ true → (i : ℕ) → output_in o i ≡ None
failed_output None e i = refl
failed_output (Some (Done trees)) e i = absurd cc
failed_output (Some (Failed f)) e i = refl

module _ (b : Build) (graph : IsGraph b.graph) (s : State) (here : IsConsistent b s) where
  -- what is done has as many trees as outputs
  pub done_count : HasOutputs b.graph (ending_at s.statuses)
  done_count j x trees there is = here.outputs j x trees there (ending_settled (slice_get s.statuses j) (Done trees) is)

  by_endings : LacksTrees b graph s.statuses (λ k. Unit {0}) (ending_at s.statuses)
  by_endings = record {
    failed = λ k own is. failed_output (ending_at s.statuses k) is;
    behind = λ k v own there none i. undone k v there none i (ending_at s.statuses k) refl;
    inputs = λ k v own there. each_unit v.inputs;
  }
    where
      undone : (k : ℕ) (v : Vertex) → slice_get b.graph.vertices k ≡ Some v → inputs_from (ending_at s.statuses) v.inputs ≡ None → (i : ℕ) (o : Option Ending)
          → ending_at s.statuses k ≡ o → output_in o i ≡ None
      undone k v there none i None is = refl
      undone k v there none i (Some (Failed f)) is = refl
      undone k v there none i (Some (Done trees)) is =
          let some = here.inputs k v there (ap is_waiting (ending_settled (slice_get s.statuses k) (Done trees) is)) in
          absurd (cc (ap is_some none, some))

  -- a vertex that has not failed, with all its inputs
  pub there_not_stopped : (k : ℕ) (v : Vertex) → slice_get b.graph.vertices k ≡ Some v → is_some (inputs_from (ending_at s.statuses) v.inputs) ≡ true
      → is_failed (ending_at s.statuses k) ≡ false → is_stopped b s.statuses k ≡ false
  there_not_stopped k v there some unfailed = by_test (is_stopped b s.statuses k) refl
    where
      by_test : (t : Bool) → is_stopped b s.statuses k ≡ t → t ≡ false
      by_test false is = refl
      by_test true is =
          let none = lacks_inputs b graph s.statuses (λ j. Unit {0}) (ending_at s.statuses) by_endings k v tt there is unfailed in
          absurd (cc (ap is_some none, some))

  -- a Ready vertex is not stopped
  pub ready_not_stopped : (k : ℕ) → is_ready b s.statuses k ≡ true → is_stopped b s.statuses k ≡ false
  ready_not_stopped k is = by_start (ready b s.statuses k) refl is
    where
      by_start : (o : Option Start) → ready b s.statuses k ≡ o → is_some o ≡ true → is_stopped b s.statuses k ≡ false
      by_start None there is = absurd cc
      by_start (Some start) there is =
          let r = ready_is b s.statuses k start there in
          there_not_stopped k start.vertex r.there (ap is_some r.inputs) (ap (λ o. is_failed (ending_of o)) r.waits)

  -- a stopped vertex that has not failed itself waits
  pub stopped_waits : (k : ℕ) → is_stopped b s.statuses k ≡ true → is_failed (ending_at s.statuses k) ≡ false → is_waiting (slice_get s.statuses k) ≡ true
  stopped_waits k stop own = by_test (is_waiting (slice_get s.statuses k)) refl
    where
      by_test : (t : Bool) → is_waiting (slice_get s.statuses k) ≡ t → t ≡ true
      by_test true is = refl
      by_test false is =
          let v = get_within b.graph.vertices k (stopped_there b s.statuses k stop) in
          let clear = there_not_stopped k v.0 v.1 (here.inputs k v.0 v.1 is) own in
          absurd cc

  -- ---- blocked, in words of the inputs

  -- a stopped vertex has failed, or is blocked
  pub stops_by : (k : ℕ) → is_stopped b s.statuses k ≡ (is_failed (ending_at s.statuses k) || is_blocked b s.statuses k)
  stops_by k = by_cases (is_failed (ending_at s.statuses k)) refl (is_stopped b s.statuses k) refl
    where
      by_cases : (f : Bool) → is_failed (ending_at s.statuses k) ≡ f → (t : Bool) → is_stopped b s.statuses k ≡ t
          → t ≡ (f || (is_waiting (slice_get s.statuses k) && t))
      by_cases true own true stop = refl
      by_cases true own false stop =
          let f = failed_is (ending_at s.statuses k) own in
          let v = get_within b.graph.vertices k
          (omega (arith, got_within s.statuses k (Settled (Failed f.0)) (ending_settled (slice_get s.statuses k) (Failed f.0) f.1), here.count)) in
          let yes : is_stopped b s.statuses k ≡ true = stopped_is b graph s.statuses k v.0 v.1 ∙ ap (λ t. t || any_stopped b s.statuses v.0.inputs) own in
          absurd (cc (yes, stop))
      by_cases false own true stop = ap (λ t. t && true) (sym (stopped_waits k stop own))
      by_cases false own false stop = sym (and-false (is_waiting (slice_get s.statuses k)))

  -- a vertex is blocked exactly where it waits, and an input of it has failed or is blocked
  pub blocked_is : (k : ℕ) (v : Vertex) → slice_get b.graph.vertices k ≡ Some v
      → is_blocked b s.statuses k ≡ (is_waiting (slice_get s.statuses k) && list_any
      (λ (e : Edge). is_failed (ending_at s.statuses e.vertex) || is_blocked b s.statuses e.vertex) v.inputs)
  blocked_is k v there = by_status (slice_get s.statuses k) refl
    where
      each_same : (edges : List Edge)
          → any_stopped b s.statuses edges ≡ list_any (λ (e : Edge). is_failed (ending_at s.statuses e.vertex) || is_blocked b s.statuses e.vertex) edges
      each_same [] = refl
      each_same (e ∷ edges) = λ i. stops_by e.vertex i || each_same edges i

      by_status : (o : Option Status) → slice_get s.statuses k ≡ o
          → (is_waiting o && is_stopped b s.statuses k)
          ≡ (is_waiting o && list_any (λ (e : Edge). is_failed (ending_at s.statuses e.vertex) || is_blocked b s.statuses e.vertex) v.inputs)
      by_status None is = refl
      by_status (Some (Running w)) is = refl
      by_status (Some (Settled e)) is = refl
      by_status (Some Waiting) is =
          stopped_is b graph s.statuses k v there ∙ ap (λ o. is_failed (ending_of o) || any_stopped b s.statuses v.inputs) is ∙ each_same v.inputs

-- ---- the plain outcome of what is stopped

module _ (b : Build) (graph : IsGraph b.graph) (s : State) (stands : StandsByOutcomes b s) where
  blocked_by : (k : ℕ) (v : Vertex) → slice_get b.graph.vertices k ≡ Some v → inputs_from (plain b) v.inputs ≡ None → outcome b k ≡ Some Blocked
  blocked_by k v there none = outcome_is b graph k v there ∙ ap (λ ts. some_of (outcome_on b v ts)) none

  by_outcomes : LacksTrees b graph s.statuses (λ k. is_plain b k ≡ true) (plain b)
  by_outcomes = record {
    failed = λ k own is i. let f = failed_is (ending_at s.statuses k) is in ap (λ o. output_in o i) (ending_plain b graph s stands k (Failed f.0) own f.1);
    behind = λ k v own there none i. ap (λ o. output_in (ending_in o) i) (blocked_by k v there none);
    inputs = λ k v own there. plain_inputs b graph k v there own;
  }

  -- a stopped vertex that has not failed itself has the plain outcome Blocked
  pub stopped_blocked : (k : ℕ) → is_plain b k ≡ true → is_stopped b s.statuses k ≡ true → is_failed (ending_at s.statuses k) ≡ false
      → outcome b k ≡ Some Blocked
  stopped_blocked k own stop unfailed =
      let v = get_within b.graph.vertices k (stopped_there b s.statuses k stop) in
      blocked_by k v.0 v.1 (lacks_inputs b graph s.statuses (λ k. is_plain b k ≡ true) (plain b) by_outcomes k v.0 own v.1 stop unfailed)
