-- A run keeps step with its claim order: what runs has done the first micro-steps of what the order did at the claim. The order does as many of them as
-- the replies to come say, so these are read too.
use Rattle.std.proofs.Common.{◌≡◌, ◌≢◌, ℕ, zero, suc, ◌+◌, Bool, true, false, List, [], ◌∷◌, length, map, Option, Some, None, unwrap_or, inl, inr, refl}
use Rattle.std.proofs.Common.{sym, ap, subst, ◌∙◌, arith}
use Rattle.std.specs.Prelude.{slice_get, slice_set, replicate}
use Rattle.llb_loader.specs.declared.graph.Vertex.{Vertex}
use Rattle.llb_tree.specs.Tree.{TreeMap}
use Rattle.llb_events.specs.declared.fault.VertexFault.{VertexFault}
use Rattle.llb_model.specs.Caches.{Instance, Store, content, Hold, Has, Distinct}
use Rattle.llb_model.specs.Program.{Build, MicroStep, Program, Workspace, Need, Work, Left, Start, program_of}
use Rattle.llb_model.specs.Program.{program_at, needs_of, base_in, step_on, unless_faulted, go_on, part, whole}
use Rattle.llb_model.specs.Outcome.{Ending, ending}
use Rattle.llb_model.specs.State.{Status, Waiting, Running, Settled, Execution, Idle, Runs, State, Opening, opening, ending_of, ending_at}
use Rattle.llb_model.specs.State.{ready, program_in, is_finished, next_step, work_of, ending_from, held, IsFree, first_trees, begin_at}
use Rattle.llb_events.specs.declared.event.Event.{Event}
use Rattle.llb_events.specs.declared.event.Event.TheVariants.{Claim, Step, Settle, Cancel}
use Rattle.llb_model.specs.Table.{cancel_reply}
use Rattle.llb_model.specs.Table.{Reply}
use Rattle.llb_model.specs.Table.{execution_on, claim_at, with_step, after_step, after_end, after_settle}
use Rattle.llb_model.specs.Table.{settle_reply, table}
use Rattle.llb_model.specs.ClaimOrder.{Order, at_first, cut_in, named, done_of, stands_after, whole_at, run_whole}
use Rattle.llb_model.specs.WholeRunLaws.{HasDistinctNeeds}
use Rattle.llb_model.proofs.Lists.{some_of, got_set, get_set_same, get_set_other, got_replicate, each_unit}
use Rattle.llb_model.proofs.StoreWrites.{kept_all, has_or, hold_moved, hold_all, hold_trees, hold_length, hold_same}
use Rattle.llb_model.proofs.ProgramPrefixes.{is_over_at, finished_whole, next_step_is, IsNextStep, step_keeps, part_keeps}
use Rattle.llb_model.proofs.ClaimedInstances.{places_distinct, places_length, places_numbered, first_length}
use Rattle.llb_model.proofs.GrantedEvents.{Answer, IsReady, ready_as, claim_places, claim_is, step_is, settle_is, cancel_is}
use Rattle.llb_model.proofs.Outcomes.{inputs_mono}
use Rattle.llb_model.proofs.PlainVertexStates.{ending_settled}
use Rattle.llb_model.proofs.ExclusiveHolders.{IsSeparate, TakesFree, opening_separate, event_separate}
use Rattle.llb_model.proofs.ClaimEnds.{cuts, uncut_here, uncut_later, cut_here, cut_later, after_reply}

-- a condition that holds of all instances
abbrev pub any : Instance → Type 0
any p = Unit {0}

abbrev at_work : Workspace → List TreeMap → Work
at_work own trees = record { own = own; trees = trees }

abbrev left_at : Workspace → List TreeMap → Option VertexFault → Left
left_at own trees fault = record { work = at_work own trees; fault = fault }

-- what a worker runs: a part of its program on what the order began it with, on its instances as they are now; and what the order did, where `cut`
-- says for each vertex that runs how its claim ends
pub record IsWorking (b : Build) (s : State) (o : Order) (cut : ℕ → Option ℕ) (w : ℕ) (x : Execution) : Type 0 where
  pub vertex : Vertex
  pub there : slice_get b.graph.vertices x.vertex ≡ Some vertex
  pub start : Work
  pub trees : List TreeMap
  pub so_far : part (program_of vertex).steps start x.done ≡ left_at x.own trees x.fault
  pub now : Hold s.store x.places trees
  pub apart : Distinct x.places
  pub status : slice_get s.statuses x.vertex ≡ Some (Running w)
  pub ends : slice_get o.statuses x.vertex
      ≡ Some (stands_after (cut x.vertex) (program_of vertex) (done_of (cut x.vertex) (program_of vertex).steps start))
  pub leaves : Hold o.store x.places (done_of (cut x.vertex) (program_of vertex).steps start).work.trees

-- a status, and that of the order
abbrev pub Agrees : Option Status → Option Status → Type 0
Agrees (Some (Running w)) b = Unit {0}
Agrees (Some Waiting) b = b ≡ Some Waiting
Agrees (Some (Settled e)) b = b ≡ Some (Settled e)
Agrees None b = b ≡ None

pub record Tracks (b : Build) (s : State) (o : Order) (cut : ℕ → Option ℕ) : Type 0 where
  pub agree : (v : ℕ) → Agrees (slice_get s.statuses v) (slice_get o.statuses v)
  pub working : (w : ℕ) (x : Execution) → slice_get s.workers w ≡ Some (Runs x) → IsWorking b s o cut w x
  pub separate : IsSeparate any s.workers
  pub free : (p : Instance) → IsFree s.workers p → content s.store p ≡ content o.store p

-- ---- statuses

-- what has ended in a state has the same ending in the order
pub agree_settled : (a b : Option Status) (e : Ending) → Agrees a b → a ≡ Some (Settled e) → b ≡ Some (Settled e)
agree_settled a b e h is = subst (λ (x : Option Status). Agrees x b) is h

pub agree_waiting : (a b : Option Status) → Agrees a b → a ≡ Some Waiting → b ≡ Some Waiting
agree_waiting a b h is = subst (λ (x : Option Status). Agrees x b) is h

-- what is there after a write in both, and where only what runs is written over
agree_written : (xs ys : List Status) (v : ℕ) (a b : Status) → Agrees (Some a) (Some b) → (x y : Status) → slice_get xs v ≡ Some x → slice_get ys v ≡ Some y
    → ((k : ℕ) → Agrees (slice_get xs k) (slice_get ys k)) → (k : ℕ) → Agrees (slice_get (slice_set xs v a) k) (slice_get (slice_set ys v b) k)
agree_written [] ys v a b new x y at_x at_y old k = absurd cc
agree_written (c ∷ xs) [] v a b new x y at_x at_y old k = absurd cc
agree_written (c ∷ xs) (d ∷ ys) zero a b new x y at_x at_y old zero = new
agree_written (c ∷ xs) (d ∷ ys) zero a b new x y at_x at_y old (suc k) = old (suc k)
agree_written (c ∷ xs) (d ∷ ys) (suc v) a b new x y at_x at_y old zero = old zero
agree_written (c ∷ xs) (d ∷ ys) (suc v) a b new x y at_x at_y old (suc k) = agree_written xs ys v a b new x y at_x at_y (λ j. old (suc j)) k

agree_one : (xs ys : List Status) (v : ℕ) (a : Status) (x : Status) → slice_get xs v ≡ Some x → Agrees (Some a) (slice_get ys v)
    → ((k : ℕ) → Agrees (slice_get xs k) (slice_get ys k)) → (k : ℕ) → Agrees (slice_get (slice_set xs v a) k) (slice_get ys k)
agree_one xs ys v a x at_x new old k = go (slice_get (slice_set xs v a) k) refl
  where
    at_other : k ≢ v → Agrees (slice_get (slice_set xs v a) k) (slice_get ys k)
    at_other other = subst (λ (o : Option Status). Agrees o (slice_get ys k)) (sym (get_set_other xs v a k other)) (old k)

    go : (o : Option Status) → slice_get (slice_set xs v a) k ≡ o → Agrees (slice_get (slice_set xs v a) k) (slice_get ys k)
    go None is = at_other (λ same. let both : some_of a ≡ None = sym (get_set_same xs v a x at_x) ∙ ap (slice_get (slice_set xs v a)) (sym same) ∙ is in cc)
    go (Some z) is = elim (got_set xs v a k z is) [
      | inl h ↦ subst (λ j. Agrees (slice_get (slice_set xs v a) j) (slice_get ys j)) (sym h.0)
          (subst (λ (r : Option Status). Agrees r (slice_get ys v)) (sym (get_set_same xs v a x at_x)) new)
      | inr h ↦ at_other h.0
    ]

-- ---- inputs

-- what has ended has ended so in the order
ends_too : (xs ys : List Status) → ((k : ℕ) → Agrees (slice_get xs k) (slice_get ys k)) → (j : ℕ) (e : Ending) → ending_at xs j ≡ Some e
    → ending_at ys j ≡ Some e
ends_too xs ys same j e is = ap ending_of (agree_settled (slice_get xs j) (slice_get ys j) e (same j) (ending_settled (slice_get xs j) e is))

-- a Ready vertex is Ready in the order, with the same inputs
pub ready_too : (b : Build) (xs ys : List Status) → ((k : ℕ) → Agrees (slice_get xs k) (slice_get ys k)) → (v : ℕ) (start : Start)
    → IsReady b xs v start → ready b ys v ≡ Some start
ready_too b xs ys same v start r = ready_as b ys v start (record {
  waits = agree_waiting (slice_get xs v) (slice_get ys v) (same v) r.waits;
  there = r.there;
  inputs = inputs_mono (λ j. Unit {0}) (ending_at xs) (ending_at ys) (λ j e u. ends_too xs ys same j e) start.vertex.inputs
      (each_unit start.vertex.inputs) start.inputs r.inputs;
})

-- ---- what a claim begins with

first_agrees : (a b : Store) (inputs : List TreeMap) (ps : List Instance) (ns : List Need)
    → ((p : Instance) → Has ps p → content a p ≡ content b p) → first_trees a inputs ps ns ≡ first_trees b inputs ps ns
first_agrees a b inputs [] ns same = refl
first_agrees a b inputs (p ∷ ps) [] same = refl
first_agrees a b inputs (p ∷ ps) (n ∷ ns) same =
    ap (λ o. unwrap_or o (base_in n.input inputs) ∷ first_trees a inputs ps ns) (same p (inl refl))
    ∙ ap (λ ts. unwrap_or (content b p) (base_in n.input inputs) ∷ ts) (first_agrees a b inputs ps ns (λ q h. same q (inr h)))

done_keeps : (cut : Option ℕ) (steps : List MicroStep) (work : Work) → length (done_of cut steps work).work.trees ≡ length work.trees
done_keeps None steps work = part_keeps steps work (length steps)
done_keeps (Some k) steps work = part_keeps steps work k

module _ (b : Build) (s : State) (o : Order) (cut : ℕ → Option ℕ) (tracks : Tracks b s o cut) where
  -- a worker that takes free instances
  pub claim_tracks : (w v : ℕ) (start : Start) (ps : List Instance) → slice_get s.workers w ≡ Some Idle → IsReady b s.statuses v start
      → ((p : Instance) → Has ps p → IsFree s.workers p) → Distinct ps → length ps ≡ length (needs_of start.vertex)
      → IsSeparate any (claim_at b s w v start ps).0.workers
      → Tracks b (claim_at b s w v start ps).0 (whole_at b o v start ps (cut v)) cut
  unfolding part
  claim_tracks w v start ps idle r free apart count separate = record {
    agree = agree_written s.statuses o.statuses v (Running w) (stands_after (cut v) p left) tt Waiting Waiting r.waits waits tracks.agree;
    working = λ u x there. elim (got_set s.workers w (Runs z) u (Runs x) there) [
      | inl h ↦
          let same : z ≡ x = cc (h.1) in
          subst (λ (n : ℕ). IsWorking b new later cut n x) (sym h.0) (subst (IsWorking b new later cut w) same fresh)
      | inr h ↦ moved u x h.1 (tracks.working u x h.1)
    ];
    separate = separate;
    free = λ q is_free.
        let mine : Has ps q → ⊥ = λ h. is_free w z (get_set_same s.workers w (Runs z) Idle idle) h in
        kept_all s.store ps work.trees q mine
        ∙ tracks.free q (λ u x at_u h. is_free u x (get_set_other s.workers w (Runs z) u (λ same. busy u x at_u same) ∙ at_u) h)
        ∙ sym (kept_all o.store ps left.work.trees q mine);
  }
    where
      p : Program
      p = program_of start.vertex

      work : Work
      work = begin_at b s.store start ps

      z : Execution
      z = execution_on v work ps

      begun : Work
      begun = begin_at b o.store start ps

      left : Left
      left = done_of (cut v) p.steps begun

      new : State
      new = (claim_at b s w v start ps).0

      later : Order
      later = whole_at b o v start ps (cut v)

      waits : slice_get o.statuses v ≡ Some Waiting
      waits = agree_waiting (slice_get s.statuses v) (slice_get o.statuses v) (tracks.agree v) r.waits

      same_trees : first_trees s.store start.inputs ps (needs_of start.vertex) ≡ first_trees o.store start.inputs ps (needs_of start.vertex)
      same_trees = first_agrees s.store o.store start.inputs ps (needs_of start.vertex) (λ q h. tracks.free q (free q h))

      busy : (u : ℕ) (x : Execution) → slice_get s.workers u ≡ Some (Runs x) → u ≡ w → ⊥
      busy u x at_u same = let both : some_of Idle ≡ some_of (Runs x) = sym idle ∙ ap (slice_get s.workers) (sym same) ∙ at_u in cc

      fresh : IsWorking b new later cut w z
      fresh = record {
        vertex = start.vertex;
        there = r.there;
        start = begun;
        trees = work.trees;
        so_far = ap (λ ts. left_at begun.own ts None) (sym same_trees);
        now = hold_all s.store ps work.trees apart (first_length s.store start.inputs ps (needs_of start.vertex) count);
        apart = apart;
        status = get_set_same s.statuses v (Running w) Waiting r.waits;
        ends = get_set_same o.statuses v (stands_after (cut v) p left) Waiting waits;
        leaves = hold_all o.store ps left.work.trees apart (done_keeps (cut v) p.steps begun
            ∙ first_length o.store start.inputs ps (needs_of start.vertex) count);
      }

      moved : (u : ℕ) (x : Execution) → slice_get s.workers u ≡ Some (Runs x) → IsWorking b s o cut u x → IsWorking b new later cut u x
      moved u x at_u old =
          let other : x.vertex ≢ v = λ same. let both : some_of Waiting ≡ some_of (Running u) = sym r.waits
          ∙ ap (slice_get s.statuses) (sym same) ∙ old.status in absurd cc in
          let mine : (q : Instance) → Has x.places q → Has ps q → ⊥ = λ q h k. free q k u x at_u h in
          record {
            vertex = old.vertex;
            there = old.there;
            start = old.start;
            trees = old.trees;
            so_far = old.so_far;
            now = hold_moved s.store new.store x.places old.trees old.now (λ q h. kept_all s.store ps work.trees q (mine q h));
            apart = old.apart;
            status = get_set_other s.statuses v (Running w) x.vertex other ∙ old.status;
            ends = get_set_other o.statuses v (stands_after (cut v) p left) x.vertex other ∙ old.ends;
            leaves = hold_moved o.store later.store x.places (done_of (cut x.vertex) (program_of old.vertex).steps old.start).work.trees old.leaves
                (λ q h. kept_all o.store ps left.work.trees q (mine q h));
          }

  pub step_tracks : (w : ℕ) (x : Execution) (m : MicroStep) → slice_get s.workers w ≡ Some (Runs x) → next_step (program_in b x).steps x ≡ Some m
      → IsSeparate any (after_step s w x (step_on x.done (Some m) (work_of s x))).workers
      → Tracks b (after_step s w x (step_on x.done (Some m) (work_of s x))) o cut
  unfolding part
  step_tracks w x m at_w comes separate = record {
    agree = tracks.agree;
    working = λ u y there. elim (got_set s.workers w (Runs z) u (Runs y) there) [
      | inl h ↦
          let same : z ≡ y = cc (h.1) in
          subst (λ (n : ℕ). IsWorking b new o cut n y) (sym h.0) (subst (IsWorking b new o cut w) same further)
      | inr h ↦ moved u y h.0 h.1 (tracks.working u y h.1)
    ];
    separate = separate;
    free = λ p is_free.
        let mine : Has x.places p → ⊥ = λ h. is_free w z (get_set_same s.workers w (Runs z) (Runs x) at_w) h in
        kept_all s.store x.places left.work.trees p mine ∙ tracks.free p (λ u y at_u h. by_worker p is_free mine u y at_u h);
  }
    where
      left : Left
      left = step_on x.done (Some m) (work_of s x)

      z : Execution
      z = with_step x left

      new : State
      new = after_step s w x left

      own : IsWorking b s o cut w x
      own = tracks.working w x at_w

      same_worker : (u : ℕ) (y : Execution) → slice_get s.workers u ≡ Some (Runs y) → u ≡ w → y ≡ x
      same_worker u y at_u same = let both : some_of (Runs y) ≡ some_of (Runs x) = sym at_u ∙ ap (slice_get s.workers) same ∙ at_w in cc

      by_worker : (p : Instance) → IsFree new.workers p → (Has x.places p → ⊥) → (u : ℕ) (y : Execution)
          → slice_get s.workers u ≡ Some (Runs y) → Has y.places p → ⊥
      by_worker p is_free mine u y at_u h =
          is_free u y (get_set_other s.workers w (Runs z) u (λ same. mine (subst (λ (t : Execution). Has t.places p) (same_worker u y at_u same) h)) ∙ at_u) h

      steps : List MicroStep
      steps = (program_of own.vertex).steps

      -- the micro-step is the next one of what the order did
      next : part steps own.start (suc x.done) ≡ left
      next =
          let it : IsNextStep (program_in b x).steps x m = next_step_is (program_in b x).steps x m comes in
          let now = left_at x.own own.trees x.fault in
          ap (go_on steps x.done) own.so_far
          ∙ ap (λ (f : Option VertexFault). unless_faulted f now (step_on x.done (slice_get steps x.done) now.work)) it.clean
          ∙ ap (λ ts. step_on x.done (slice_get steps x.done) (at_work x.own ts)) (sym (hold_trees s.store x.places own.trees own.now))
          ∙ ap (λ (p : Program). step_on x.done (slice_get p.steps x.done) (work_of s x)) (sym (ap program_at own.there))
          ∙ ap (λ n. step_on x.done n (work_of s x)) it.there

      count : length left.work.trees ≡ length x.places
      count = step_keeps x.done (Some m) (work_of s x) ∙ ap length (hold_trees s.store x.places own.trees own.now)
          ∙ hold_length s.store x.places own.trees own.now

      add_one : (n : ℕ) → n + 1 ≡ suc n
      add_one n = omega arith

      further : IsWorking b new o cut w z
      further = record {
        vertex = own.vertex;
        there = own.there;
        start = own.start;
        trees = left.work.trees;
        so_far = ap (part steps own.start) (add_one x.done) ∙ next;
        now = hold_all s.store x.places left.work.trees own.apart count;
        apart = own.apart;
        status = own.status;
        ends = own.ends;
        leaves = own.leaves;
      }

      moved : (u : ℕ) (y : Execution) → u ≢ w → slice_get s.workers u ≡ Some (Runs y) → IsWorking b s o cut u y → IsWorking b new o cut u y
      moved u y other at_u old = record {
        vertex = old.vertex;
        there = old.there;
        start = old.start;
        trees = old.trees;
        so_far = old.so_far;
        now = hold_moved s.store new.store y.places old.trees old.now
            (λ p h. kept_all s.store x.places left.work.trees p (λ k. other (tracks.separate.once u w y x p at_u at_w h k tt)));
        apart = old.apart;
        status = old.status;
        ends = old.ends;
        leaves = old.leaves;
      }

  -- a worker that ends what it runs, as the order did at its claim
  end_tracks : (w : ℕ) (x : Execution) (z : Status) (later : ℕ → Option ℕ) (at_w : slice_get s.workers w ≡ Some (Runs x))
      → Agrees (Some z) (slice_get o.statuses x.vertex) → Hold o.store x.places (tracks.working w x at_w).trees
      → ((v : ℕ) → v ≢ x.vertex → cut v ≡ later v) → IsSeparate any (slice_set s.workers w Idle) → Tracks b (after_end s w x.vertex z) o later
  end_tracks w x z later at_w agrees leaves same separate = record {
    agree = agree_one s.statuses o.statuses x.vertex z (Running w) own.status agrees tracks.agree;
    working = λ u y there. elim (got_set s.workers w Idle u (Runs y) there) [
      | inl h ↦ absurd (cc (h.1))
      | inr h ↦
          let old = tracks.working u y h.1 in
          let other : y.vertex ≢ x.vertex = λ e. h.0 (one_worker u y old.status e) in
          let p = program_of old.vertex in
          record {
            vertex = old.vertex;
            there = old.there;
            start = old.start;
            trees = old.trees;
            so_far = old.so_far;
            now = old.now;
            apart = old.apart;
            status = get_set_other s.statuses x.vertex z y.vertex other ∙ old.status;
            ends = old.ends ∙ ap (λ c. some_of (stands_after c p (done_of c p.steps old.start))) (same y.vertex other);
            leaves = subst (λ c. Hold o.store y.places (done_of c p.steps old.start).work.trees) (same y.vertex other) old.leaves;
          }
    ];
    separate = separate;
    free = λ p is_free. elim (has_or x.places p) [
      | inl h ↦ hold_same s.store o.store x.places own.trees own.now leaves p h
      | inr h ↦ tracks.free p (λ u y at_u k. by_worker p is_free h u y at_u k)
    ];
  }
    where
      own : IsWorking b s o cut w x
      own = tracks.working w x at_w

      same_worker : (u : ℕ) (y : Execution) → slice_get s.workers u ≡ Some (Runs y) → u ≡ w → y ≡ x
      same_worker u y at_u same = let both : some_of (Runs y) ≡ some_of (Runs x) = sym at_u ∙ ap (slice_get s.workers) same ∙ at_w in cc

      by_worker : (p : Instance) → IsFree (slice_set s.workers w Idle) p → (Has x.places p → ⊥) → (u : ℕ) (y : Execution)
          → slice_get s.workers u ≡ Some (Runs y) → Has y.places p → ⊥
      by_worker p is_free mine u y at_u h =
          is_free u y (get_set_other s.workers w Idle u (λ same. mine (subst (λ (t : Execution). Has t.places p) (same_worker u y at_u same) h)) ∙ at_u) h

      one_worker : (u : ℕ) (y : Execution) → slice_get s.statuses y.vertex ≡ Some (Running u) → y.vertex ≡ x.vertex → u ≡ w
      one_worker u y status same = let both : some_of (Running u) ≡ some_of (Running w) = sym status ∙ ap (slice_get s.statuses) same ∙ own.status in cc

  pub settle_tracks : (w : ℕ) (x : Execution) (later : ℕ → Option ℕ) → slice_get s.workers w ≡ Some (Runs x) → is_finished (program_in b x).steps x ≡ true
      → cut x.vertex ≡ None → ((v : ℕ) → v ≢ x.vertex → cut v ≡ later v)
      → IsSeparate any (slice_set s.workers w Idle) → Tracks b (after_settle s w x.vertex (ending_from (program_in b x) x)) o later
  settle_tracks w x later at_w fin uncut same separate =
      end_tracks w x (Settled (ending_from (program_in b x) x)) later at_w
      (own.ends ∙ ap (λ c. some_of (stands_after c p (done_of c p.steps own.start))) uncut ∙ ap (λ (e : Ending). some_of (Settled e)) same_end)
      (subst (Hold o.store x.places) (ap (λ c. (done_of c p.steps own.start).work.trees) uncut ∙ ap (λ (l : Left). l.work.trees) done) own.leaves)
      same separate
    where
      own : IsWorking b s o cut w x
      own = tracks.working w x at_w

      p : Program
      p = program_of own.vertex

      program : program_in b x ≡ p
      program = ap program_at own.there

      done : whole p.steps own.start ≡ left_at x.own own.trees x.fault
      done =
          let over : is_over_at p.steps (part p.steps own.start x.done) x.done ≡ true =
          ap (λ (l : Left). is_over_at p.steps l x.done) own.so_far ∙ ap (λ (p : Program). is_finished p.steps x) (sym program) ∙ fin in
          finished_whole p.steps own.start x.done over ∙ own.so_far

      same_end : ending p (whole p.steps own.start) ≡ ending_from (program_in b x) x
      same_end = ap (ending p) done ∙ ap (λ (p : Program). ending_from p x) (sym program)

  pub cancel_tracks : (w : ℕ) (x : Execution) (later : ℕ → Option ℕ) → slice_get s.workers w ≡ Some (Runs x)
      → cut x.vertex ≡ Some x.done → ((v : ℕ) → v ≢ x.vertex → cut v ≡ later v)
      → IsSeparate any (slice_set s.workers w Idle) → Tracks b (after_end s w x.vertex Waiting) o later
  cancel_tracks w x later at_w is_cut same separate =
      end_tracks w x Waiting later at_w (own.ends ∙ ap (λ c. some_of (stands_after c p (done_of c p.steps own.start))) is_cut)
      (subst (Hold o.store x.places) (ap (λ c. (done_of c p.steps own.start).work.trees) is_cut ∙ ap (λ (l : Left). l.work.trees) own.so_far) own.leaves)
      same separate
    where
      own : IsWorking b s o cut w x
      own = tracks.working w x at_w

      p : Program
      p = program_of own.vertex

-- ---- events

-- an event keeps step with the claim order, where no running worker has what a claim takes
pub event_tracks : (b : Build) → HasDistinctNeeds b → (s : State) (o : Order) (e : Event) (a : Answer) (rs : List Reply) → Tracks b s o (cuts (a.1 ∷ rs))
    → TakesFree any b s a e → table b s e ≡ Some a
    → Tracks b a.0 (after_reply b o a.1 rs) (cuts rs)
event_tracks b differ s o (Claim w v) a rs before free given =
    let c = claim_is b s w v a given in
    let r = c.begins in
    let ps = claim_places s c.start in
    let tracks = subst (λ (t : Answer). Tracks b s o (cuts (t.1 ∷ rs))) c.gives before in
    let apart = places_distinct (held s.workers) (needs_of c.start.vertex) (differ v c.start.vertex r.there) in
    let separate = subst (λ (t : Answer). IsSeparate any t.0.workers) c.gives (event_separate any b s (Claim w v) a tracks.separate free given) in
    let now = claim_tracks b s o (cuts rs) tracks w v c.start ps c.idle r (λ p h. free c p h tt) apart
    (places_length (held s.workers) (needs_of c.start.vertex)) separate in
    let numbers = map (λ (p : Instance). p.number) ps in
    subst (λ (t : Answer). Tracks b t.0 (after_reply b o t.1 rs) (cuts rs)) (sym c.gives)
    (subst (λ (q : Option Start). Tracks b (claim_at b s w v c.start ps).0 (run_whole b o (named v numbers (cut_in v rs)) q) (cuts rs))
    (sym (ready_too b s.statuses o.statuses tracks.agree v c.start r))
    (subst (λ qs. Tracks b (claim_at b s w v c.start ps).0 (whole_at b o v c.start qs (cut_in v rs)) (cuts rs))
    (sym (places_numbered (held s.workers) (needs_of c.start.vertex))) now))
event_tracks b differ s o (Step w) a rs before free given =
    let c = step_is b s w a given in
    let tracks = subst (λ (t : Answer). Tracks b s o (cuts (t.1 ∷ rs))) c.gives before in
    let separate = subst (λ (t : Answer). IsSeparate any t.0.workers) c.gives (event_separate any b s (Step w) a tracks.separate free given) in
    subst (λ (t : Answer). Tracks b t.0 (after_reply b o t.1 rs) (cuts rs)) (sym c.gives)
    (step_tracks b s o (cuts rs) tracks w c.x c.step c.there c.next separate)
event_tracks b differ s o (Settle w) a rs before free given =
    let c = settle_is b s w a given in
    let end = ending_from (program_in b c.x) c.x in
    let tracks = subst (λ (t : Answer). Tracks b s o (cuts (t.1 ∷ rs))) c.gives before in
    let separate = subst (λ (t : Answer). IsSeparate any t.0.workers) c.gives (event_separate any b s (Settle w) a tracks.separate free given) in
    subst (λ (t : Answer). Tracks b t.0 (after_reply b o t.1 rs) (cuts rs)) (sym c.gives)
    (settle_tracks b s o (cuts (settle_reply c.x.vertex end ∷ rs)) tracks w c.x (cuts rs) c.there c.finished
    (uncut_here c.x.vertex end rs) (uncut_later c.x.vertex end rs) separate)
event_tracks b differ s o (Cancel w) a rs before free given =
    let c = cancel_is b s w a given in
    let tracks = subst (λ (t : Answer). Tracks b s o (cuts (t.1 ∷ rs))) c.gives before in
    let separate = subst (λ (t : Answer). IsSeparate any t.0.workers) c.gives (event_separate any b s (Cancel w) a tracks.separate free given) in
    subst (λ (t : Answer). Tracks b t.0 (after_reply b o t.1 rs) (cuts rs)) (sym c.gives)
    (cancel_tracks b s o (cuts (cancel_reply c.x.vertex c.x.done ∷ rs)) tracks w c.x (cuts rs) c.there
    (cut_here c.x.vertex c.x.done rs) (cut_later c.x.vertex c.x.done rs) separate)

-- at first all vertices wait in both, and the caches are the same, however claims will end
pub opening_tracks : (b : Build) (o : Opening) (cut : ℕ → Option ℕ) → Tracks b (opening b o) (at_first b o.store) cut
opening_tracks b o cut = record {
  agree = λ v. go v (slice_get (replicate (length b.graph.vertices) Waiting) v) refl;
  working = λ w x there. absurd (let h : Runs x ≡ Idle = got_replicate o.workers Idle w (Runs x) there in cc);
  separate = opening_separate any o.workers;
  free = λ p is_free. refl;
}
  where
    go : (v : ℕ) (r : Option Status) → slice_get (replicate (length b.graph.vertices) Waiting) v ≡ r → Agrees r r
    go v None is = refl
    go v (Some Waiting) is = refl
    go v (Some (Settled e)) is = refl
    go v (Some (Running w)) is = tt
