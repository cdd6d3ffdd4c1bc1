-- While no vertex runs, the least vertex that is neither settled nor blocked is Ready. So an event is chosen exactly until the run is
-- complete; and then the status of every vertex is that of its plain outcome.
use Rattle.std.proofs.Common.{◌≡◌, ◌≢◌, ℕ, zero, suc, ◌+◌, ◌<◌, ◌≤◌, Bool, true, false, ◌||◌, ◌&&◌, cond, List, [], ◌∷◌, length, Option}
use Rattle.std.proofs.Common.{Some, None, is_some, option_map, ◌⊎◌, inl, inr, refl, sym, ap, subst, ◌∙◌, arith}
use Rattle.std.specs.Prelude.{slice_get}
use Rattle.std.proofs.lemmas.Bool.{cases_eq}
use Rattle.llb_loader.specs.Graph.{LeadsBelow, IsGraph}
use Rattle.llb_loader.specs.declared.graph.Edge.{Edge}
use Rattle.llb_loader.specs.declared.graph.Vertex.{Vertex}
use Rattle.llb_tree.specs.Tree.{TreeMap}
use Rattle.llb_model.specs.Program.{Build}
use Rattle.llb_model.specs.Outcome.{Done, Failed, output_in, inputs_from, outcome, is_plain}
use Rattle.llb_model.specs.State.{Status, Waiting, Running, Settled, Execution, WorkerStatus, Idle, Runs, State, ending_of, ending_at, is_ready}
use Rattle.llb_model.specs.State.{is_waiting, is_done, is_blocked, is_failed, is_stopped}
use Rattle.llb_events.specs.declared.event.Event.{Event}
use Rattle.llb_events.specs.declared.event.Event.TheVariants.{Claim}
use Rattle.llb_model.specs.Run.{next_of, least, next_claim, or_else, chosen, is_settled, each, is_complete, StandsPlainly}
use Rattle.llb_model.specs.ConsistentStates.{IsConsistent}
use Rattle.llb_model.specs.PlainVertices.{StandsByOutcomes}
use Rattle.llb_model.specs.WholeRunLaws.{IsAtRest}
use Rattle.llb_model.proofs.Lists.{get_within, got_within, true_any, some_as}
use Rattle.llb_model.proofs.Outcomes.{none_in_inputs, each_below, edge_there}
use Rattle.llb_model.proofs.StoppedVertices.{stopped_is, any_stopped, done_count, ready_not_stopped, stopped_blocked}
use Rattle.llb_model.proofs.ReadyVertices.{ready_by_inputs, ready_waits}

-- a vertex that needs nothing more: it is settled, or blocked
abbrev pub is_over : Build → State → ℕ → Bool
is_over b s k = is_settled (slice_get s.statuses k) || is_blocked b s.statuses k

-- ---- tests over numbers

first_or : (v k : ℕ) → v ≤ k → (v ≡ k) ⊎ (v + 1 ≤ k)
first_or v k low = elim (cases_eq v k) [ inl h ↦ inl h | inr h ↦ inr (omega arith) ]

-- where all numbers of a range pass the test, each single one does
pub each_true : (test : ℕ → Bool) (v n : ℕ) → each test v n ≡ true → (k : ℕ) → v ≤ k → k < v + n → test k ≡ true
each_true test v zero e k low high = absurd (omega arith)
each_true test v (suc n) e k low high = go (test v) refl e (λ e low. each_true test (v + 1) n e k low (omega arith))
  where
    go : (b : Bool) → test v ≡ b → (b && each test (v + 1) n) ≡ true → (each test (v + 1) n ≡ true → v + 1 ≤ k → test k ≡ true) → test k ≡ true
    go false here e rest = absurd cc
    go true here e rest = elim (first_or v k low) [ inl h ↦ ap test (sym h) ∙ here | inr h ↦ rest e h ]

pub true_each : (test : ℕ → Bool) (v n : ℕ) → ((k : ℕ) → v ≤ k → k < v + n → test k ≡ true) → each test v n ≡ true
true_each test v zero all = refl
true_each test v (suc n) all =
    ap (λ b. b && each test (v + 1) n) (all v (omega arith) (omega arith)) ∙ true_each test (v + 1) n (λ k low high. all k (omega arith) (omega arith))

pub least_none : (test : ℕ → Bool) (v n : ℕ) → least test v n ≡ None → (k : ℕ) → v ≤ k → k < v + n → test k ≡ false
least_none test v zero e k low high = absurd (omega arith)
least_none test v (suc n) e k low high = go (test v) refl e (cases_eq v k) (λ e low. least_none test (v + 1) n e k low (omega arith))
  where
    go : (b : Bool) → test v ≡ b → cond b (Some v) (least test (v + 1) n) ≡ None → (v ≡ k) ⊎ (v ≢ k)
        → (least test (v + 1) n ≡ None → v + 1 ≤ k → test k ≡ false) → test k ≡ false
    go true here e which rest = absurd cc
    go false here e (inl h) rest = ap test (sym h) ∙ here
    go false here e (inr h) rest = rest e (omega arith)

pub none_least : (test : ℕ → Bool) (v n : ℕ) → ((k : ℕ) → v ≤ k → k < v + n → test k ≡ false) → least test v n ≡ None
none_least test v zero all = refl
none_least test v (suc n) all =
    ap (λ b. cond b (Some v) (least test (v + 1) n)) (all v (omega arith) (omega arith))
    ∙ none_least test (v + 1) n (λ k low high. all k (omega arith) (omega arith))

pub record IsLeast (test : ℕ → Bool) (v n k : ℕ) : Type 0 where
  pub passes : test k ≡ true
  pub low : v ≤ k
  pub high : k < v + n
  pub below : (j : ℕ) → v ≤ j → j < k → test j ≡ false

-- the number that is found passes, lies in the range, and no number of the range below it passes
pub least_some : (test : ℕ → Bool) (v n k : ℕ) → least test v n ≡ Some k → IsLeast test v n k
least_some test v zero k e = absurd cc
least_some test v (suc n) k e = go (test v) refl e (λ e. least_some test (v + 1) n k e)
  where
    go : (b : Bool) → test v ≡ b → cond b (Some v) (least test (v + 1) n) ≡ Some k
        → (least test (v + 1) n ≡ Some k → IsLeast test (v + 1) n k) → IsLeast test v (suc n) k
    go true here e rest =
        let same : v ≡ k = cc in
        record { passes = ap test (sym same) ∙ here; low = omega arith; high = omega arith; below = λ j low lt. absurd (omega arith) }
    go false here e rest =
        let r = rest e in
        record {
          passes = r.passes;
          low = omega (arith, r.low);
          high = omega (arith, r.high);
          below = λ j low lt. elim (cases_eq v j) [ inl h ↦ ap test (sym h) ∙ here | inr h ↦ r.below j (omega arith) lt ];
        }

-- no worker runs where none has a next event
pub nothing_runs : (b : Build) (ws : List WorkerStatus) (w : ℕ) → next_of b w ws ≡ None → (u : ℕ) (x : Execution) → slice_get ws u ≢ Some (Runs x)
nothing_runs b [] w e u x there = cc
nothing_runs b (Idle ∷ ws) w e zero x there = cc
nothing_runs b (Idle ∷ ws) w e (suc u) x there = nothing_runs b ws (w + 1) e u x there
nothing_runs b (Runs y ∷ ws) w e u x there = cc

-- ---- progress

module _ (b : Build) (graph : IsGraph b.graph) (s : State) (here : IsConsistent b s) where
  -- whether a vertex is over, by its status
  pub over_by : (k : ℕ) (o : Option Status) → slice_get s.statuses k ≡ o → is_over b s k ≡ (is_settled o || (is_waiting o && is_stopped b s.statuses k))
  over_by k o is = ap (λ o. is_settled o || (is_waiting o && is_stopped b s.statuses k)) is

  -- an input of a vertex that is over below, and has no tree, is stopped
  input_stopped : (k : ℕ) → k ≤ length b.graph.vertices → ((j : ℕ) → j < k → is_over b s j ≡ true) → (e : Edge)
      → output_in (ending_at s.statuses e.vertex) e.index ≡ None
      → LeadsBelow b.graph.vertices k e → is_stopped b s.statuses e.vertex ≡ true
  input_stopped k fits below e none leads =
      let low = leads.lower in
      let v = get_within b.graph.vertices e.vertex (omega (arith, low, fits)) in
      let undone : is_done (ending_at s.statuses e.vertex) ≡ false =
      sym (edge_there b.graph (ending_at s.statuses) (done_count b graph s here) k fits e leads) ∙ ap is_some none in
      by_status v.0 v.1 (slice_get s.statuses e.vertex) refl (below e.vertex low) undone
    where
      by_status : (v : Vertex) → slice_get b.graph.vertices e.vertex ≡ Some v → (o : Option Status) → slice_get s.statuses e.vertex ≡ o
          → is_over b s e.vertex ≡ true
          → is_done (ending_at s.statuses e.vertex) ≡ false → is_stopped b s.statuses e.vertex ≡ true
      by_status v there None is over undone = absurd (cc (over_by e.vertex None is, over))
      by_status v there (Some Waiting) is over undone = sym (over_by e.vertex (Some Waiting) is) ∙ over
      by_status v there (Some (Running w)) is over undone = absurd (cc (over_by e.vertex (Some (Running w)) is, over))
      by_status v there (Some (Settled (Failed f))) is over undone =
          stopped_is b graph s.statuses e.vertex v there ∙ ap (λ o. is_failed (ending_of o) || any_stopped b s.statuses v.inputs) is
      by_status v there (Some (Settled (Done trees))) is over undone = absurd (cc (ap (λ o. is_done (ending_of o)) is, undone))

  -- where no vertex below a number runs or is Ready, all of them are over
  pub progress : (n : ℕ) → n ≤ length b.graph.vertices → ((k w : ℕ) → k < n → slice_get s.statuses k ≢ Some (Running w))
      → ((k : ℕ) → k < n → is_ready b s.statuses k ≡ false)
      → (k : ℕ) → k < n → is_over b s k ≡ true
  progress zero fits none_runs none_ready k lt = absurd (omega arith)
  progress (suc n) fits none_runs none_ready k lt =
      this k lt (λ j below. progress n (omega arith) (λ i w lt. none_runs i w (omega arith)) (λ i lt. none_ready i (omega arith)) j (omega arith))
    where
      this : (k : ℕ) → k < suc n → ((j : ℕ) → j < k → is_over b s j ≡ true) → is_over b s k ≡ true
      this k lt below =
          let status = get_within s.statuses k (omega (arith, here.count)) in
          let v = get_within b.graph.vertices k (omega arith) in
          by_status v.0 v.1 status.0 status.1
        where
          waits : (v : Vertex) → slice_get b.graph.vertices k ≡ Some v → slice_get s.statuses k ≡ Some Waiting
              → inputs_from (ending_at s.statuses) v.inputs ≡ None → is_over b s k ≡ true
          waits v there is none =
              let stops =
              some_as (λ (e : Edge). output_in (ending_at s.statuses e.vertex) e.index ≡ None) (LeadsBelow b.graph.vertices k)
              (λ (e : Edge). is_stopped b s.statuses e.vertex ≡ true) v.inputs
              (none_in_inputs (ending_at s.statuses) v.inputs none) (each_below b.graph graph k v there) (input_stopped k (omega arith) below) in
              over_by k (Some Waiting) is ∙ stopped_is b graph s.statuses k v there ∙ ap (λ o. is_failed (ending_of o) || any_stopped b s.statuses v.inputs) is
              ∙ true_any (λ (e : Edge). is_stopped b s.statuses e.vertex) v.inputs stops

          by_inputs : (v : Vertex) → slice_get b.graph.vertices k ≡ Some v → slice_get s.statuses k ≡ Some Waiting → (o : Option (List TreeMap))
              → inputs_from (ending_at s.statuses) v.inputs ≡ o → is_over b s k ≡ true
          by_inputs v there is None has = waits v there is has
          by_inputs v there is (Some trees) has =
              let ready : is_ready b s.statuses k ≡ true =
              ready_by_inputs b s.statuses k v there ∙ ap (λ o. is_waiting o && is_some (inputs_from (ending_at s.statuses) v.inputs)) is ∙ ap is_some has in
              absurd (cc (ready, none_ready k lt))

          by_status : (v : Vertex) → slice_get b.graph.vertices k ≡ Some v → (x : Status) → slice_get s.statuses k ≡ Some x → is_over b s k ≡ true
          by_status v there Waiting is = by_inputs v there is (inputs_from (ending_at s.statuses) v.inputs) refl
          by_status v there (Running w) is = absurd (none_runs k w lt is)
          by_status v there (Settled e) is = over_by k (Some (Settled e)) is

  -- what is over is not Ready, and does not run
  pub over_not_ready : (k : ℕ) → is_over b s k ≡ true → is_ready b s.statuses k ≡ false
  over_not_ready k over = by_test (is_ready b s.statuses k) refl
    where
      by_test : (t : Bool) → is_ready b s.statuses k ≡ t → t ≡ false
      by_test false is = refl
      by_test true is =
          let r = ready_waits b s.statuses k is in
          let no : is_over b s k ≡ false = over_by k (Some Waiting) r ∙ ready_not_stopped b graph s here k is in
          absurd (cc (no, over))

  pub over_not_running : (k w : ℕ) → is_over b s k ≡ true → slice_get s.statuses k ≢ Some (Running w)
  over_not_running k w over runs = let no : is_over b s k ≡ false = over_by k (Some (Running w)) runs in cc (no, over)

  -- ---- the chosen event

  all_idle : (ws : List WorkerStatus) (w : ℕ) → ((u : ℕ) (x : Execution) → slice_get ws u ≢ Some (Runs x)) → next_of b w ws ≡ None
  all_idle [] w none = refl
  all_idle (Idle ∷ ws) w none = all_idle ws (w + 1) (λ u x. none (suc u) x)
  all_idle (Runs y ∷ ws) w none = absurd (none zero y refl)

  or_none : (a c : Option Event) → or_else a c ≡ None → (a ≡ None) × (c ≡ None)
  or_none None c e = (refl, e)
  or_none (Some x) c e = absurd cc

  map_none : (o : Option ℕ) → option_map {U = Event} (λ v. Claim 0 v) o ≡ None → o ≡ None
  map_none None e = refl
  map_none (Some v) e = absurd cc

  -- a driver finds no event to choose only where every vertex is over
  pub none_is_complete : chosen b s ≡ None → is_complete b s ≡ true
  none_is_complete e =
      let o = or_none (next_of b 0 s.workers) (next_claim b s) e in
      let idle = nothing_runs b s.workers 0 o.0 in
      let ready = least_none (is_ready b s.statuses) 0 (length b.graph.vertices) (map_none (least (is_ready b s.statuses) 0 (length b.graph.vertices)) o.1) in
      true_each (is_over b s) 0 (length b.graph.vertices)
      (λ k low high. progress (length b.graph.vertices) (omega arith) (λ j w lt runs. let x = here.running j w runs in idle w x.0 x.1)
      (λ j lt. ready j (omega arith) (omega arith)) k (omega arith))

  -- where every vertex is over, no next event is chosen
  pub complete_is_none : is_complete b s ≡ true → chosen b s ≡ None
  complete_is_none e =
      let over : (k : ℕ) → k < length b.graph.vertices → is_over b s k ≡ true =
      λ k lt. each_true (is_over b s) 0 (length b.graph.vertices) e k (omega arith) (omega arith) in
      let idle = all_idle s.workers 0 (λ u x there. let own = here.working u x there in
      over_not_running x.vertex u (over x.vertex (omega (arith, got_within s.statuses x.vertex (Running u) own, here.count))) own) in
      let ready = none_least (is_ready b s.statuses) 0 (length b.graph.vertices) (λ k low high. over_not_ready k (over k (omega arith))) in
      ap (λ o. or_else o (next_claim b s)) idle ∙ ap (option_map (λ v. Claim 0 v)) ready

-- ---- complete runs

-- where every vertex is over, no worker runs
pub complete_rests : (b : Build) → IsGraph b.graph → (s : State) → IsConsistent b s → is_complete b s ≡ true → IsAtRest s
complete_rests b graph s here complete v w runs =
    over_not_running b graph s here v w (each_true (is_over b s) 0 (length b.graph.vertices) complete v (omega arith)
    (omega (arith, got_within s.statuses v (Running w) runs, here.count))) runs

-- a vertex with no cache at or before it
pub complete_plain : (b : Build) → IsGraph b.graph → (s : State) → IsConsistent b s → StandsByOutcomes b s → is_complete b s ≡ true
    → (k : ℕ) → k < length b.graph.vertices → is_plain b k ≡ true
    → StandsPlainly (slice_get s.statuses k) (outcome b k)
complete_plain b graph s here stands complete k lt plain =
    let status = get_within s.statuses k (omega (arith, here.count)) in
    subst (λ o. StandsPlainly o (outcome b k)) (sym status.1) (by_status status.0 status.1)
  where
    over : is_over b s k ≡ true
    over = each_true (is_over b s) 0 (length b.graph.vertices) complete k (omega arith) (omega arith)

    by_status : (x : Status) → slice_get s.statuses k ≡ Some x → StandsPlainly (Some x) (outcome b k)
    by_status Waiting is =
        stopped_blocked b graph s stands k plain (sym (over_by b graph s here k (Some Waiting) is) ∙ over) (ap (λ o. is_failed (ending_of o)) is)
    by_status (Running w) is = over_not_running b graph s here k w over is
    by_status (Settled e) is = stands.settled k e plain is
