-- Every state that events lead to is consistent.
use Rattle.std.proofs.Common.{◌≡◌, ◌≢◌, ℕ, true, false, List, length, Option, Some, None, is_some, inl, inr, refl, sym, ap, subst, ◌∙◌, arith}
use Rattle.std.specs.Prelude.{slice_get, slice_set, replicate}
use Rattle.std.proofs.lemmas.List.{length-replicate}
use Rattle.llb_loader.specs.declared.graph.Edge.{Edge}
use Rattle.llb_loader.specs.declared.graph.Vertex.{Vertex}
use Rattle.llb_tree.specs.Tree.{TreeMap}
use Rattle.llb_model.specs.Caches.{Instance}
use Rattle.llb_model.specs.Program.{Build, Work, Left, Start, program_at, step_on}
use Rattle.llb_model.specs.Outcome.{Ending, Done, inputs_from}
use Rattle.llb_model.specs.State.{Status, Waiting, Running, Settled, Execution, Idle, Runs, State, Opening, opening, ending_of, ending_at}
use Rattle.llb_model.specs.State.{is_waiting, program_in, work_of, ending_from, begin_at}
use Rattle.llb_events.specs.declared.event.Event.{Event}
use Rattle.llb_events.specs.declared.event.Event.TheVariants.{Claim, Step, Settle, Cancel}
use Rattle.llb_model.specs.Table.{Reply, execution_on, after_claim, with_step, after_step, after_end, table}
use Rattle.llb_model.specs.Run.{run}
use Rattle.llb_model.specs.ConsistentStates.{IsConsistent}
use Rattle.llb_model.proofs.Lists.{some_of, inside, eq_or, got_set, get_set_same, get_set_other, length_set, got_replicate, each_unit, get_within, got_within}
use Rattle.llb_model.proofs.GrantedEvents.{Answer, IsReady, claim_places, claim_is, step_is, settle_is, cancel_is}
use Rattle.llb_model.proofs.RunExtension.{run_keeps}
use Rattle.llb_model.proofs.Outcomes.{inputs_mono, ended_count}

-- at first all vertices wait and no worker runs, which is consistent
pub opening_consistent : (b : Build) (o : Opening) → IsConsistent b (opening b o)
opening_consistent b o = record {
  count = length-replicate (length b.graph.vertices) Waiting;
  running = λ v w there. absurd (let h : Running w ≡ Waiting = got_replicate (length b.graph.vertices) Waiting v (Running w) there in cc);
  working = λ w x there. absurd (let h : Runs x ≡ Idle = got_replicate o.workers Idle w (Runs x) there in cc);
  outputs = λ v x trees there done. absurd (let h : Settled (Done trees) ≡ Waiting =
      got_replicate (length b.graph.vertices) Waiting v (Settled (Done trees)) done in cc);
  inputs = λ v x there stays. absurd (
      let status = get_within (replicate (length b.graph.vertices) Waiting) v
      (omega (arith, length-replicate (length b.graph.vertices) Waiting, got_within b.graph.vertices v x there)) in
      let waits : status.0 ≡ Waiting = got_replicate (length b.graph.vertices) Waiting v status.0 status.1 in
      cc (ap is_waiting status.1 ∙ ap (λ t. is_waiting (Some t)) waits, stays)
      );
}

-- the inputs are still there when something ends
some_mono : (f g : ℕ → Option Ending) → ((j : ℕ) (e : Ending) → f j ≡ Some e → g j ≡ Some e) → (edges : List Edge)
    → is_some (inputs_from f edges) ≡ true → is_some (inputs_from g edges) ≡ true
some_mono f g more edges some = by_inputs (inputs_from f edges) refl some
  where
    by_inputs : (o : Option (List TreeMap)) → inputs_from f edges ≡ o → is_some o ≡ true → is_some (inputs_from g edges) ≡ true
    by_inputs None is some = absurd cc
    by_inputs (Some trees) is some = ap is_some (inputs_mono (λ j. Unit {0}) f g (λ j x u. more j x) edges (each_unit edges) trees is)

module _ (b : Build) (s : State) (here : IsConsistent b s) where
  -- where a vertex that has not ended gets another status
  ends_stay : (v : ℕ) (old new : Status) → slice_get s.statuses v ≡ Some old → ending_of (Some old) ≡ None → (j : ℕ) (e : Ending)
      → ending_at s.statuses j ≡ Some e
      → ending_at (slice_set s.statuses v new) j ≡ Some e
  ends_stay v old new there unended j e is = elim (eq_or j v) [
    | inl h ↦ absurd (let none : ending_at s.statuses j ≡ None = ap (ending_at s.statuses) h ∙ ap ending_of there ∙ unended in cc)
    | inr h ↦ ap ending_of (get_set_other s.statuses v new j h) ∙ is
  ]

  inputs_stay : (v : ℕ) (old new : Status) → slice_get s.statuses v ≡ Some old → ending_of (Some old) ≡ None
      → ((x : Vertex) → slice_get b.graph.vertices v ≡ Some x → is_some (inputs_from (ending_at s.statuses) x.inputs) ≡ true)
      → (k : ℕ) (x : Vertex) → slice_get b.graph.vertices k ≡ Some x → is_waiting (slice_get (slice_set s.statuses v new) k) ≡ false
      → is_some (inputs_from (ending_at (slice_set s.statuses v new)) x.inputs) ≡ true
  inputs_stay v old new there unended own k x at moved = some_mono (ending_at s.statuses) (ending_at (slice_set s.statuses v new))
      (ends_stay v old new there unended) x.inputs (elim (eq_or k v) [
        | inl h ↦ own x (ap (slice_get b.graph.vertices) (sym h) ∙ at)
        | inr h ↦ here.inputs k x at (sym (ap is_waiting (get_set_other s.statuses v new k h)) ∙ moved)
      ])

  claim_keeps : (w v : ℕ) (start : Start) (work : Work) (ps : List Instance) → slice_get s.workers w ≡ Some Idle
      → IsReady b s.statuses v start → IsConsistent b (after_claim s w v work ps)
  claim_keeps w v start work ps idle ready = record {
    count = length_set s.statuses v (Running w) ∙ here.count;
    running = λ k u there. elim (got_set s.statuses v (Running w) k (Running u) there) [
      | inl h ↦
          let same : u ≡ w = cc (h.1) in
          (z, ap (slice_get (slice_set s.workers w (Runs z))) same ∙ get_set_same s.workers w (Runs z) Idle idle, sym h.0)
      | inr h ↦
          let old = here.running k u h.1 in
          (old.0, get_set_other s.workers w (Runs z) u (apart u old.0 old.1) ∙ old.1, old.2)
    ];
    working = λ u x there. elim (got_set s.workers w (Runs z) u (Runs x) there) [
      | inl h ↦
          let same : z ≡ x = cc (h.1) in
          ap (λ (y : Execution). slice_get (slice_set s.statuses v (Running w)) y.vertex) (sym same)
          ∙ get_set_same s.statuses v (Running w) Waiting ready.waits ∙ ap (λ n. some_of (Running n)) (sym h.0)
      | inr h ↦ get_set_other s.statuses v (Running w) x.vertex (other u x (here.working u x h.1)) ∙ here.working u x h.1
    ];
    outputs = λ k x trees there done. elim (got_set s.statuses v (Running w) k (Settled (Done trees)) done) [
      | inl h ↦ absurd (cc (h.1))
      | inr h ↦ here.outputs k x trees there h.1
    ];
    inputs = inputs_stay v Waiting (Running w) ready.waits refl
        (λ x there. let same : start.vertex ≡ x = inside (sym ready.there ∙ there) in
        ap (λ (y : Vertex). is_some (inputs_from (ending_at s.statuses) y.inputs)) (sym same) ∙ ap is_some ready.inputs);
  }
    where
      z : Execution
      z = execution_on v work ps

      apart : (u : ℕ) (x : Execution) → slice_get s.workers u ≡ Some (Runs x) → u ≢ w
      apart u x there same = let both : some_of Idle ≡ some_of (Runs x) = sym idle ∙ ap (slice_get s.workers) (sym same) ∙ there in cc

      other : (u : ℕ) (x : Execution) → slice_get s.statuses x.vertex ≡ Some (Running u) → x.vertex ≢ v
      other u x is same = let both : some_of Waiting ≡ some_of (Running u) = sym ready.waits ∙ ap (slice_get s.statuses) (sym same) ∙ is in cc

  step_keeps : (w : ℕ) (x : Execution) (left : Left) → slice_get s.workers w ≡ Some (Runs x) → IsConsistent b (after_step s w x left)
  step_keeps w x left at = record {
    count = here.count;
    running = λ k u there.
        let old = here.running k u there in
        elim (eq_or u w) [
          | inl h ↦
              let same : old.0 ≡ x = runs_same (sym old.1 ∙ ap (slice_get s.workers) h ∙ at) in (
                z,
                ap (slice_get (slice_set s.workers w (Runs z))) h ∙ get_set_same s.workers w (Runs z) (Runs x) at,
                ap (λ (y : Execution). y.vertex) (sym same) ∙ old.2,
              )
          | inr h ↦ (old.0, get_set_other s.workers w (Runs z) u h ∙ old.1, old.2)
        ];
    working = λ u y there. elim (got_set s.workers w (Runs z) u (Runs y) there) [
      | inl h ↦
          let same : z ≡ y = cc (h.1) in
          ap (λ (t : Execution). slice_get s.statuses t.vertex) (sym same) ∙ here.working w x at ∙ ap (λ n. some_of (Running n)) (sym h.0)
      | inr h ↦ here.working u y h.1
    ];
    outputs = here.outputs;
    inputs = here.inputs;
  }
    where
      z : Execution
      z = with_step x left

      runs_same : {y : Execution} → some_of (Runs y) ≡ some_of (Runs x) → y ≡ x
      runs_same e = cc

  -- where a worker ends what it runs, and the vertex gets a status that does not run
  end_keeps : (w : ℕ) (x : Execution) (new : Status) → slice_get s.workers w ≡ Some (Runs x) → ((u : ℕ) → new ≡ Running u → ⊥)
      → ((v : Vertex) (trees : List TreeMap) → slice_get b.graph.vertices x.vertex ≡ Some v → new ≡ Settled (Done trees) → length trees ≡ v.outputs)
      → IsConsistent b (after_end s w x.vertex new)
  end_keeps w x new at rests counts = record {
    count = length_set s.statuses x.vertex new ∙ here.count;
    running = λ k u there. elim (got_set s.statuses x.vertex new k (Running u) there) [
      | inl h ↦ absurd (rests u (sym h.1))
      | inr h ↦
          let old = here.running k u h.1 in
          (old.0, get_set_other s.workers w Idle u (λ same. h.0 (sym old.2 ∙ ap (λ (y : Execution). y.vertex) (one_of u old.0 old.1 same))) ∙ old.1, old.2)
    ];
    working = λ u y there. elim (got_set s.workers w Idle u (Runs y) there) [
      | inl h ↦ absurd (cc (h.1))
      | inr h ↦ get_set_other s.statuses x.vertex new y.vertex (λ same. h.0 (one_worker u y (here.working u y h.1) same)) ∙ here.working u y h.1
    ];
    outputs = λ k v trees there done. elim (got_set s.statuses x.vertex new k (Settled (Done trees)) done) [
      | inl h ↦ counts v trees (sym (ap (slice_get b.graph.vertices) h.0) ∙ there) (sym h.1)
      | inr h ↦ here.outputs k v trees there h.1
    ];
    inputs = inputs_stay x.vertex (Running w) new (here.working w x at) refl (λ v there. here.inputs x.vertex v there (ap is_waiting (here.working w x at)));
  }
    where
      one_of : (u : ℕ) (y : Execution) → slice_get s.workers u ≡ Some (Runs y) → u ≡ w → y ≡ x
      one_of u y there same = let both : some_of (Runs y) ≡ some_of (Runs x) = sym there ∙ ap (slice_get s.workers) same ∙ at in cc

      one_worker : (u : ℕ) (y : Execution) → slice_get s.statuses y.vertex ≡ Some (Running u) → y.vertex ≡ x.vertex → u ≡ w
      one_worker u y status same = let both : some_of (Running u) ≡ some_of (Running w) = sym status ∙ ap (slice_get s.statuses) same
          ∙ here.working w x at in cc

  -- an ending has as many trees as the vertex has outputs
  settle_counts : (x : Execution) (v : Vertex) (trees : List TreeMap) → slice_get b.graph.vertices x.vertex ≡ Some v
      → Settled (ending_from (program_in b x) x) ≡ Settled (Done trees) → length trees ≡ v.outputs
  settle_counts x v trees there is =
      let same : ending_from (program_in b x) x ≡ Done trees = cc in
      ended_count (program_in b x) x.own x.fault trees same ∙ ap (λ p. p.outputs) (ap program_at there)

pub event_consistent : (b : Build) (s : State) (e : Event) (a : Answer) → IsConsistent b s → table b s e ≡ Some a → IsConsistent b a.0
event_consistent b s (Claim w v) a here given =
    let c = claim_is b s w v a given in
    subst (λ (t : Answer). IsConsistent b t.0) (sym c.gives)
    (claim_keeps b s here w v c.start (begin_at b s.store c.start (claim_places s c.start)) (claim_places s c.start) c.idle c.begins)
event_consistent b s (Step w) a here given =
    let c = step_is b s w a given in
    subst (λ (t : Answer). IsConsistent b t.0) (sym c.gives) (step_keeps b s here w c.x (step_on c.x.done (Some c.step) (work_of s c.x)) c.there)
event_consistent b s (Settle w) a here given =
    let c = settle_is b s w a given in
    subst (λ (t : Answer). IsConsistent b t.0) (sym c.gives)
    (end_keeps b s here w c.x (Settled (ending_from (program_in b c.x) c.x)) c.there (λ u is. cc) (settle_counts b s here c.x))
event_consistent b s (Cancel w) a here given =
    let c = cancel_is b s w a given in
    subst (λ (t : Answer). IsConsistent b t.0) (sym c.gives) (end_keeps b s here w c.x Waiting c.there (λ u is. cc) (λ v trees there is. absurd cc))

-- from a consistent state any list of granted events leads to a consistent one
pub run_consistent : (b : Build) (s t : State) (es : List Event) (rs : List Reply) → IsConsistent b s → run b s es ≡ Some (t, rs) → IsConsistent b t
run_consistent b = run_keeps b (IsConsistent b) (event_consistent b)
