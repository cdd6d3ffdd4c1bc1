-- The lists of a graph over a board's statuses: what stays where no vertex is done anew, which inputs are there, and which vertices are after one
-- that has failed.
use Rattle.std.proofs.Common.{◌≡◌, ◌≢◌, ℕ, zero, suc, ◌+◌, ◌^◌, ◌<◌, ◌≤◌, Bool, true, false, ◌||◌, List, [], ◌∷◌, length, get_or, refl, sym, ap, subst}
use Rattle.std.proofs.Common.{◌∙◌, arith, inl, inr}
use Rattle.std.specs.Prelude.{All, Contains, Option, Some, slice_get, slice_set, replicate, is_some, ◌==◌, if◌then◌else◌, ◌&&◌}
use Rattle.std.specs.List.{list_any}
use Rattle.std.proofs.lemmas.Bool.{cases_eq, cases_lt, eqb-true, eq-eqb, ne_eqb}
use Rattle.std.specs.Cmp.{both_ways}
use Rattle.std.proofs.lemmas.List.{ext_get_or}
use Rattle.std.proofs.lemmas.List.Elements.{All-weaker, All-head, All-tail, All-from_get_or}
use Rattle.std.proofs.lemmas.Option.{slice_get_within, get_or_from_slice_get, unwrap_or-slice_get, slice_get-get_or}
use Rattle.llb_loader.specs.Graph.{IsGraph, LeadsBelow}
use Rattle.llb_loader.specs.declared.graph.Edge.{Edge}
use Rattle.llb_loader.specs.declared.graph.Vertex.{Vertex}
use Rattle.llb_model.specs.Program.{Build}
use Rattle.llb_model.specs.Outcome.{Ending}
use Rattle.llb_model.specs.State.{Status, Waiting, ending_of, ending_at, is_done, is_failed, is_waiting, is_stopped, stopped, start_from}
use Rattle.llb_model.proofs.Lists.{Some_of, Each_of, any_true, true_any, some_with, some_as, get_set_same, get_set_other, get_within}
use Rattle.llb_model.proofs.Outcomes.{each_below}
use Rattle.llb_model.proofs.ReadyVertices.{ready_by_inputs}
use Rattle.llb_model.proofs.StoppedVertices.{stopped_is, stopped_cases, stopped_there, stopped_length, any_stopped}
use Rattle.llb_board.specs.UsersAndOpenInputs.{leads, users_from, users_of, users_at, waits_for, AreBelow, Linked, IsLinked}
use Rattle.llb_board.specs.Vertices.{done_in}
use Rattle.llb_board.specs.UsersAndOpenInputs.{has_inputs, is_marked, IsClosed, Spreads}
use Rattle.llb_board.specs.Vertices.{TellsInputs}
use Rattle.llb_board.proofs.OpenInputs.{count_few, users_low, linked_same}

-- ---- a test of how vertices end

pub test_set : (f : Option Ending → Bool) (S : List Status) (v : ℕ) (old new : Status) → slice_get S v ≡ Some old
    → f (ending_of (Some new)) ≡ f (ending_of (Some old))
    → (k : ℕ) → f (ending_at (slice_set S v new) k) ≡ f (ending_at S k)
test_set f [] v old new at same k = absurd (cc)
test_set f (y ∷ S) zero old new at same zero = let is : y ≡ old = cc in same ∙ ap (λ z. f (ending_of (Some z))) (sym is)
test_set f (y ∷ S) zero old new at same (suc k) = refl
test_set f (y ∷ S) (suc v) old new at same zero = refl
test_set f (y ∷ S) (suc v) old new at same (suc k) = test_set f S v old new at same k

pub others_done : (S : List Status) (v : ℕ) (new : Status) (w : ℕ) → w ≢ v → done_in S w ≡ done_in (slice_set S v new) w
others_done S v new w apart = ap (λ o. is_done (ending_of o)) (sym (get_set_other S v new w apart))

pub done_here : (S : List Status) (v : ℕ) (old new : Status) → slice_get S v ≡ Some old → done_in (slice_set S v new) v ≡ is_done (ending_of (Some new))
done_here S v old new at = ap (λ o. is_done (ending_of o)) (get_set_same S v new old at)

waits_all : (n k : ℕ) → done_in (replicate n Waiting) k ≡ false
waits_all zero k = refl
waits_all (suc n) zero = refl
waits_all (suc n) (suc k) = waits_all n k

-- lists that are made with no vertex done are right on a board where all wait
pub linked_open : (vs : List Vertex) (l : Linked) → IsLinked vs (λ u. false) l → IsLinked vs (done_in (replicate (length vs) Waiting)) l
linked_open vs l so = linked_same vs (λ u. false) (done_in (replicate (length vs) Waiting)) l (λ u. sym (waits_all (length vs) u)) so

-- ---- what a graph says of its edges

pub below : (b : Build) → IsGraph b.graph → AreBelow b.graph.vertices
below b graph v x at =
    All-weaker (LeadsBelow b.graph.vertices v) (λ (e : Edge). e.vertex < v) (λ e leads. leads.lower) x.inputs
    (subst (λ (y : Vertex). All (LeadsBelow b.graph.vertices v) y.inputs) (get_or_from_slice_get b.graph.vertices v x x at)
    (graph.down v x (slice_get_within b.graph.vertices v x at)))

-- a vertex is Ready where it waits and no input is open
pub ready_so : (b : Build) (S : List Status) (l : Linked) (v : ℕ) (x : Vertex) → TellsInputs b S l → slice_get b.graph.vertices v ≡ Some x
    → is_some (start_from S (slice_get S v) (Some x)) ≡ (is_waiting (slice_get S v) && has_inputs l v)
ready_so b S l v x tells at =
    ap (λ o. is_some (start_from S (slice_get S v) o)) (sym at) ∙ ready_by_inputs b S v x at ∙ ap (λ t. is_waiting (slice_get S v) && t) (sym (tells v x at))

-- ---- the users of a vertex

users_from_in : (u k : ℕ) (xs : List Vertex) (v : ℕ) (x : Vertex) → slice_get xs v ≡ Some x → leads x.inputs u ≡ true → Contains (users_from u k xs) (k + v)
users_from_in u k [] v x at led = absurd cc
users_from_in u k (y ∷ ys) zero x at led =
    let same : y ≡ x = cc in
    subst (λ t. Contains (if t then k ∷ users_from u (k + 1) ys else users_from u (k + 1) ys) (k + 0)) (sym (ap (λ (z : Vertex). leads z.inputs u) same ∙ led))
    (0, omega arith, omega arith)
users_from_in u k (y ∷ ys) (suc v) x at led = by_test (leads y.inputs u) (subst (Contains (users_from u (k + 1) ys)) (omega arith) (users_from_in u (k + 1)
    ys v x at led))
  where
    by_test : (t : Bool) → Contains (users_from u (k + 1) ys) (k + suc v) → Contains (if t then k ∷ users_from u (k + 1) ys else users_from u (k + 1) ys) (k
        + suc v)
    by_test true rest = let lt = rest.1 in (suc rest.0, omega (arith, lt), rest.2)
    by_test false rest = rest

-- one that has an edge to a vertex is listed
pub users_have : (vs : List Vertex) (u v : ℕ) (x : Vertex) → slice_get vs v ≡ Some x → leads x.inputs u ≡ true → Contains (users_of vs u) v
users_have vs u v x at led = subst (Contains (users_of vs u)) (omega arith) (users_from_in u 0 vs v x at led)

record User (vs : List Vertex) (u k v : ℕ) : Type 0 where
  place : ℕ
  number : v ≡ k + place
  vertex : Vertex
  there : slice_get vs place ≡ Some vertex
  led : leads vertex.inputs u ≡ true

users_from_are : (u k : ℕ) (xs : List Vertex) (v : ℕ) → Contains (users_from u k xs) v → User xs u k v
users_from_are u k [] v h = let lt = h.1 in absurd (omega (arith, lt))
users_from_are u k (x ∷ xs) v h = by_test (leads x.inputs u) refl h (λ rest. users_from_are u (k + 1) xs v rest)
  where
    later : User xs u (k + 1) v → User (x ∷ xs) u k v
    later r = let is = r.number in record { place = suc r.place; number = omega (arith, is); vertex = r.vertex; there = r.there; led = r.led }

    by_place : leads x.inputs u ≡ true → (n : ℕ) → n < length (k ∷ users_from u (k + 1) xs) → get_or (k ∷ users_from u (k + 1) xs) n v ≡ v
        → (Contains (users_from u (k + 1) xs) v → User xs u (k + 1) v) → User (x ∷ xs) u k v
    by_place led zero lt is go = record { place = 0; number = omega (arith, is); vertex = x; there = refl; led = led }
    by_place led (suc n) lt is go = later (go (n, omega (arith, lt), is))

    by_test : (t : Bool) → leads x.inputs u ≡ t → Contains (if t then k ∷ users_from u (k + 1) xs else users_from u (k + 1) xs) v
        → (Contains (users_from u (k + 1) xs) v → User xs u (k + 1) v) → User (x ∷ xs) u k v
    by_test true led h go = by_place led h.0 h.1 h.2 go
    by_test false led h go = later (go h)

users_from_few : (u k : ℕ) (xs : List Vertex) → length (users_from u k xs) ≤ length xs
users_from_few u k [] = omega arith
users_from_few u k (x ∷ xs) = by_test (leads x.inputs u) (users_from_few u (k + 1) xs)
  where
    by_test : (t : Bool) → length (users_from u (k + 1) xs) ≤ length xs
        → length (if t then k ∷ users_from u (k + 1) xs else users_from u (k + 1) xs) ≤ length (x ∷ xs)
    by_test true few = omega (arith, few)
    by_test false few = omega (arith, few)

no_lead : (edges : List Edge) (u n : ℕ) → All (λ (e : Edge). e.vertex < n) edges → n ≤ u → leads edges u ≡ false
no_lead [] u n below past = refl
no_lead (e ∷ es) u n below past =
    let low = All-head (λ (e : Edge). e.vertex < n) e es below in
    (λ i. ne_eqb e.vertex u (λ same. omega (arith, low, past, same)) i || leads es u) ∙ no_lead es u n (All-tail (λ (e : Edge). e.vertex < n) e es below) past

no_users : (u k : ℕ) (xs : List Vertex) → ((i : ℕ) (x : Vertex) → slice_get xs i ≡ Some x → leads x.inputs u ≡ false) → users_from u k xs ≡ []
no_users u k [] none = refl
no_users u k (x ∷ xs) none =
    (λ i. if none 0 x refl i then k ∷ users_from u (k + 1) xs else users_from u (k + 1) xs) ∙ no_users u (k + 1) xs (λ i y at. none (suc i) y at)

-- the lists have the users of every number: there are none past the last vertex
pub users_told : (b : Build) → IsGraph b.graph → (done : ℕ → Bool) (l : Linked) → IsLinked b.graph.vertices done l → (v : ℕ)
    → users_at l v ≡ users_of b.graph.vertices v
users_told b graph done l so v = elim (cases_lt v (length b.graph.vertices)) [
  | inl low ↦ so.users_are v low
  | inr past ↦
      none l.users v (omega (arith, past, so.same_users))
      ∙ sym (no_users v 0 b.graph.vertices (λ i x at. no_lead x.inputs v i (below b graph i x at)
      (let low = slice_get_within b.graph.vertices i x at in omega (arith, low, past))))
]
  where
    none : (xs : List (List ℕ)) (k : ℕ) → length xs ≤ k → get_or xs k [] ≡ []
    none [] k past = refl
    none (y ∷ ys) zero past = absurd (omega (arith, past))
    none (y ∷ ys) (suc k) past = none ys k (omega (arith, past))

-- ---- a vertex is settled, or runs again

module _ (vs : List Vertex) (done : ℕ → Bool) (l : Linked) (so : IsLinked vs done l) where
  -- each vertex has its place in the lists of users
  pub low_user : (v : ℕ) → v < length vs → v < length l.users
  low_user v low = omega (arith, low, so.same_users)

  -- each user that is listed for a vertex has a count
  pub users_counted : (v : ℕ) → v < length vs → All (λ x. x < length l.counts) (users_at l v)
  users_counted v low =
      subst (λ n. All (λ x. x < n) (users_at l v)) (sym so.same_counts) (subst (All (λ x. x < length vs)) (sym (so.users_are v low)) (users_low vs v))

  -- each user in any of the lists is a vertex of the graph
  pub all_counted : All (λ us. All (λ x. x < length vs) us) l.users
  all_counted =
      All-from_get_or (λ us. All (λ x. x < length vs) us) l.users []
      (λ u lt. subst (All (λ x. x < length vs)) (sym (so.users_are u (omega (arith, lt, so.same_users)))) (users_low vs u))

  counts_few : (x : ℕ) → get_or l.counts x 0 ≤ length vs
  counts_few x = elim (cases_lt x (length vs)) [
    | inl lt ↦ let y = got x lt in omega (arith, so.counts_are x y.0 y.1, count_few (waits_for done y.0) (length vs))
    | inr past ↦ omega (arith, none l.counts x (omega (arith, past, so.same_counts)))
  ]
    where
      got : (x : ℕ) → x < length vs → (y : Vertex) × (slice_get vs x ≡ Some y)
      got x lt = get_within vs x lt

      none : (xs : List ℕ) (x : ℕ) → length xs ≤ x → get_or xs x 0 ≡ 0
      none [] x past = refl
      none (y ∷ ys) zero past = absurd (omega (arith, past))
      none (y ∷ ys) (suc x) past = none ys x (omega (arith, past))

  -- in a graph of at most 65,536 vertices, a count and the number of a vertex's users add up without overflow
  pub counts_fit : (v : ℕ) → v < length vs → length vs ≤ 65536 → (x : ℕ) → get_or l.counts x 0 + length (users_at l v) < 2 ^ 32
  counts_fit v low few x = omega (arith, counts_few x, ap length (so.users_are v low), users_from_few v 0 vs, few)

-- ---- what is after a failed vertex

stop_is : (b : Build) (S : List Status) (k : ℕ) → is_marked (stopped b S) k ≡ is_stopped b S k
stop_is b S k = sym (unwrap_or-slice_get (stopped b S) k false)

led_edge : (edges : List Edge) (u : ℕ) → leads edges u ≡ true → (p : ℕ → Bool) → p u ≡ true → list_any (λ (e : Edge). p e.vertex) edges ≡ true
led_edge edges u led p is =
    true_any (λ (e : Edge). p e.vertex) edges (as_some edges (any_true (λ (e : Edge). e.vertex == u) edges led))
  where
    as_some : (es : List Edge) → Some_of (λ (e : Edge). (e.vertex == u) ≡ true) es → Some_of (λ (e : Edge). p e.vertex ≡ true) es
    as_some [] h = absurd h
    as_some (e ∷ es) (inl h) = inl (subst (λ z. p z ≡ true) (sym (eqb-true e.vertex u h)) is)
    as_some (e ∷ es) (inr h) = inr (as_some es h)

-- a fact that holds of each edge holds together with this one: the vertex to which the edge leads is one to which some edge leads
each_led : (P : Edge → Type 0) (all es : List Edge) → ((u : ℕ) → leads es u ≡ true → leads all u ≡ true) → Each_of P es
    → Each_of (λ (e : Edge). P e × (leads all e.vertex ≡ true)) es
each_led P all [] sub each = tt
each_led P all (e ∷ es) sub each = (
  (each.0, sub e.vertex (ap (λ t. t || leads es e.vertex) (eq-eqb e.vertex e.vertex refl))),
  each_led P all es (λ u h. sub u (ap (λ t. (e.vertex == u) || t) h ∙ or_true (e.vertex == u))) each.1,
)
  where
    or_true : (t : Bool) → (t || true) ≡ true
    or_true true = refl
    or_true false = refl

module _ (b : Build) (graph : IsGraph b.graph) (l : Linked) (done : ℕ → Bool) (so : IsLinked b.graph.vertices done l) where
  -- the stopped vertices are closed
  closed_stops : (S : List Status) → IsClosed l.users (is_stopped b S)
  closed_stops S y x stop at =
      let user = users_from_are y 0 b.graph.vertices x (subst (λ us. Contains us x) (so.users_are y (stopped_there b S y stop)) at) in
      let there : slice_get b.graph.vertices x ≡ Some user.vertex = let is = user.number in ap (slice_get b.graph.vertices) (omega (arith, is)) ∙ user.there in
      stopped_is b graph S x user.vertex there
      ∙ ap (λ t. is_failed (ending_at S x) || t) (led_edge user.vertex.inputs y user.led (is_stopped b S) stop) ∙ or_right_true (is_failed (ending_at S x))
    where
      or_right_true : (t : Bool) → (t || true) ≡ true
      or_right_true true = refl
      or_right_true false = refl

  module _ (S : List Status) (v : ℕ) (old new : Status) (at : slice_get S v ≡ Some old) (was : is_failed (ending_of (Some old)) ≡ false)
      (fails : is_failed (ending_of (Some new)) ≡ true) (low : v < length b.graph.vertices) where
    abbrev pub T : List Status
    T = slice_set S v new

    failed_still : (k : ℕ) → is_failed (ending_at S k) ≡ true → is_failed (ending_at T k) ≡ true
    failed_still k is = elim (cases_eq k v) [
      | inl same ↦ absurd (cc (ap (λ o. is_failed (ending_of o)) (ap (slice_get S) same ∙ at), is, was))
      | inr apart ↦ ap (λ o. is_failed (ending_of o)) (get_set_other S v new k apart) ∙ is
    ]

    fails_now : is_failed (ending_at T v) ≡ true
    fails_now = ap (λ o. is_failed (ending_of o)) (get_set_same S v new old at) ∙ fails

    vertex_at : (k : ℕ) → k < length b.graph.vertices → (x : Vertex) × (slice_get b.graph.vertices k ≡ Some x)
    vertex_at k lt = (get_or b.graph.vertices k (first_of b.graph.vertices lt), slice_get-get_or b.graph.vertices k (first_of b.graph.vertices lt) lt)
      where
        first_of : (xs : List Vertex) → k < length xs → Vertex
        first_of [] lt = absurd (omega (arith, lt))
        first_of (x ∷ xs) lt = x

    -- each vertex below n that was stopped before the change is still stopped after it
    Still : ℕ → Type 0
    Still n = (k : ℕ) → k < n → is_stopped b S k ≡ true → is_stopped b T k ≡ true

    still : (n : ℕ) → Still n
    unfolding Still
    still zero k lt stop = absurd (omega (arith, lt))
    still (suc n) k lt stop =
        let x = vertex_at k (stopped_there b S k stop) in
        stopped_is b graph T k x.0 x.1
        ∙ elim (stopped_cases b graph S k x.0 x.1 stop) [
          | inl h ↦ ap (λ t. t || any_stopped b T x.0.inputs) (failed_still k h)
          | inr h ↦
              ap (λ t. is_failed (ending_at T k) || t)
              (true_any (λ (e : Edge). is_stopped b T e.vertex) x.0.inputs
              (some_as (λ (e : Edge). is_stopped b S e.vertex ≡ true) (LeadsBelow b.graph.vertices k) (λ (e : Edge). is_stopped b T e.vertex ≡ true) x.0.inputs
              (any_true (λ (e : Edge). is_stopped b S e.vertex) x.0.inputs h) (each_below b.graph graph k x.0 x.1)
              (λ e s below. let lower = below.lower in still n e.vertex (omega (arith, lower, lt)) s)))
              ∙ or_true (is_failed (ending_at T k))
        ]
      where
        or_true : (t : Bool) → (t || true) ≡ true
        or_true true = refl
        or_true false = refl

    module _ (marks marked : List Bool) (are : marks ≡ stopped b S) (spreads : Spreads l.users v marks marked) where
      only : (k : ℕ) → is_marked marked k ≡ true → is_stopped b T k ≡ true
      unfolding Still
      only k h =
          let x = vertex_at v low in
          spreads.least (is_stopped b T) (closed_stops T)
          (λ j m. let stop : is_stopped b S j ≡ true = sym (stop_is b S j) ∙ ap (λ ms. is_marked ms j) (sym are) ∙ m in still (suc j) j (omega arith) stop)
          (stopped_is b graph T v x.0 x.1 ∙ ap (λ t. t || any_stopped b T x.0.inputs) fails_now) k h

      closed_now : IsClosed l.users (is_marked marked)
      closed_now = spreads.closed (λ y x m at. ap (λ ms. is_marked ms x) are ∙ stop_is b S x
          ∙ closed_stops S y x (sym (stop_is b S y) ∙ ap (λ ms. is_marked ms y) (sym are) ∙ m) at)

      All_so : ℕ → Type 0
      All_so n = (k : ℕ) → k < n → is_stopped b T k ≡ true → is_marked marked k ≡ true

      all_so : (n : ℕ) → All_so n
      unfolding All_so
      all_so zero k lt stop = absurd (omega (arith, lt))
      all_so (suc n) k lt stop =
          let x = vertex_at k (stopped_there b T k stop) in
          elim (stopped_cases b graph T k x.0 x.1 stop) [
            | inl h ↦ elim (cases_eq k v) [
              | inl same ↦ subst (λ z. is_marked marked z ≡ true) (sym same) spreads.here
              | inr apart ↦
                  spreads.kept k (ap (λ ms. is_marked ms k) are ∙ stop_is b S k ∙ stopped_is b graph S k x.0 x.1
                  ∙ ap (λ t. t || any_stopped b S x.0.inputs) (ap (λ o. is_failed (ending_of o)) (sym (get_set_other S v new k apart)) ∙ h))
            ]
            | inr h ↦
                some_with (λ (e : Edge). is_stopped b T e.vertex ≡ true) (λ (e : Edge). LeadsBelow b.graph.vertices k e × (leads x.0.inputs e.vertex ≡ true))
                (is_marked marked k ≡ true) x.0.inputs
                (any_true (λ (e : Edge). is_stopped b T e.vertex) x.0.inputs h)
                (each_led (LeadsBelow b.graph.vertices k) x.0.inputs x.0.inputs (λ u led. led) (each_below b.graph graph k x.0 x.1))
                (λ e s parts. let lower = parts.0.lower in
                closed_now e.vertex k (all_so n e.vertex (omega (arith, lower, lt)) s)
                (subst (λ us. Contains us k) (sym (so.users_are e.vertex (stopped_there b T e.vertex s))) (users_have b.graph.vertices e.vertex k x.0 x.1
                parts.1)))
          ]

      -- the marks are those of the stopped vertices
      pub spread_stops : marked ≡ stopped b T
      unfolding All_so
      spread_stops =
          let count : length marked ≡ length (stopped b T) = spreads.same ∙ ap length are ∙ stopped_length b S ∙ sym (stopped_length b T) in
          ext_get_or false marked (stopped b T) count
          (λ k lt. both_ways (is_marked marked k) (is_marked (stopped b T) k) (λ h. stop_is b T k ∙ only k h)
          (λ h. all_so (suc k) k (omega arith) (sym (stop_is b T k) ∙ h)))
