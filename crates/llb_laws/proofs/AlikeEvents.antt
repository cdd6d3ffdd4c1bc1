-- Events and runs on alike states: both are refused, for one cause, or both are granted, with alike replies and alike states after them. Here each vertex has a
-- relation of its own, which holds of what it reads and writes, and the caches have one.
use Rattle.std.proofs.Common.{◌≡◌, ℕ, ◌+◌, Bool, true, false, cond, List, [], ◌∷◌, ◌++◌, length, Option, Some, None, option_map}
use Rattle.std.proofs.Common.{refl, sym, ap, subst, inl, inr, arith}
use Rattle.std.specs.Prelude.{Result, Ok, Err, slice_get, unwrap_or}
use Rattle.std.specs.Result.{result_ok}
use Rattle.std.specs.List.{All}
use Rattle.std.proofs.lemmas.Option.{get_or_from_slice_get}
use Rattle.llb_cache.specs.declared.key.Key.{Key}
use Rattle.llb_tree.specs.Path.{is_name}
use Rattle.llb_tree.specs.Tree.{TreeMap}
use Rattle.llb_loader.specs.declared.graph.Edge.{Edge}
use Rattle.llb_loader.specs.declared.graph.Vertex.{Vertex}
use Rattle.llb_loader.specs.Graph.{Numbered, IsVertexOf, IsGraph}
use Rattle.llb_loader.specs.LocalSources.{Local, local_name, tree_of_local}
use Rattle.llb_events.specs.declared.event.Event.{Event}
use Rattle.llb_events.specs.declared.event.Event.TheVariants.{Claim, Step, Settle, Cancel}
use Rattle.llb_events.specs.declared.event.Stepped.TheVariants as did
use Rattle.llb_events.specs.declared.fault.VertexFault.{VertexFault}
use Rattle.llb_events.specs.declared.refusal.SettleFault.{SettleFault}
use Rattle.llb_events.specs.declared.refusal.SettleFault.TheVariants.{NotFinished}
use Rattle.llb_model.specs.Caches.{Instance, Store, content, put_all, trees_at, Has}
use Rattle.llb_model.specs.Program.{Build, MicroStep, ReadLocal, Act, LayInput, Run, Workspace, LocalTree, Files, Layers, Mounted, Work, Left, Need}
use Rattle.llb_model.specs.Program.{start_with, program_of, program_at, needs_of, base_in, step_on, last_of, is_run}
use Rattle.llb_model.specs.Outcome.{Ending, Done, Failed, inputs_from}
use Rattle.llb_model.specs.State.{Status, Waiting, Running, Settled, Execution, WorkerStatus, Idle, Runs, State, opening, ending_of, ending_at, start_from}
use Rattle.llb_model.specs.State.{program_in, work_of, is_finished, next_step, ending_from, held, place_for, places_for, held_key, first_trees, begin_at}
use Rattle.llb_model.specs.Table.{Reply, or_not_ready, claim_start, execution_on, claim_with, claim_at, claim_unless, claimed}
use Rattle.llb_model.specs.Table.{claim_grant, with_step, unless_failed, step_done, after_step, step_with, stepped, step_grant, settle_done}
use Rattle.llb_model.specs.Table.{settle_with, settled, settle_grant, cancel_with, cancelled, cancel_grant, table}
use Rattle.llb_model.specs.Run.{run, after}
use Rattle.llb_model.proofs.Lists.{Each_of, got_within}
use Rattle.llb_model.proofs.StoreWrites.{has_map}
use Rattle.llb_model.proofs.GrantedEvents.{Answer}
use Rattle.llb_model.proofs.RunExtension.{Ran}
use Rattle.llb_laws.specs.AlikeTrees.{IsKept, BothOptions, BothResults, BothLists, AreAlike, BothEndings}
use Rattle.llb_laws.specs.AlikeStates.{BothStatuses, AreAlikeStatuses, AreAlikeWorkers, AreAlikeStates, AreAlikeReplies}
use Rattle.llb_laws.specs.AlikeStates.{AreAlikeAnswers, AnswerAlike, AreAlikeRuns}
use Rattle.llb_laws.specs.TokenRuns.{with_locals, run_from, HaveAlikeRuns}
use Rattle.llb_laws.proofs.AlikeValues.{both_get, both_set}
use Rattle.llb_laws.proofs.AlikeTreesWithNames.{Alike, AlikeWorkspaces, AlikeWorks, AlikeLefts, AlikeStores, Writes}
use Rattle.llb_laws.proofs.ContentsByValue.{weaker_option, weaker_endings, weaker_status}
use Rattle.llb_laws.proofs.AlikeMicroSteps.{alike_or_empty, alike_base_in, alike_micro_step, alike_ending}
use Rattle.llb_laws.proofs.AlikeOutcomes.{got_of_all, alike_workspace, alike_inputs}
use Rattle.llb_laws.proofs.AlikeStateWrites.{both_by_place, both_weaker, each_set, each_replicate, both_replicate, plain_tree, weaker_tree, plain_workspace}
use Rattle.llb_laws.proofs.AlikeStateWrites.{plain_works, put_all_alike}

-- ---- what the relations owe

-- all that one relation relates is related by the other
abbrev pub Within : (List ℕ → List ℕ → Type 0) → (List ℕ → List ℕ → Type 0) → Type 0
Within P T = (a b : List ℕ) → P a b → T a b

-- R relates contents at each vertex, S in the caches, and Q anywhere
pub record AreFlowing (N : List ℕ → Type 0) (g : Numbered) (ls ms : List Local) (R : ℕ → List ℕ → List ℕ → Type 0) (S Q : List ℕ → List ℕ → Type 0)
    : Type 0 where
  pub kept : (v : ℕ) → IsKept (R v)
  pub written : (k : ℕ) (x : Vertex) → slice_get g.vertices k ≡ Some x → All (Writes N (R k)) (program_of x).steps
  pub sources : (k : ℕ) (x : Vertex) (name : List ℕ) → slice_get g.vertices k ≡ Some x → local_name x.op ≡ Some name
      → BothOptions (Alike N (R k)) (tree_of_local ls name) (tree_of_local ms name)
  pub edges : (k : ℕ) (x : Vertex) → slice_get g.vertices k ≡ Some x → Each_of (λ (e : Edge). Within (R e.vertex) (R k)) x.inputs
  pub reads : (k : ℕ) (x : Vertex) (n : Need) → slice_get g.vertices k ≡ Some x → Has (needs_of x) n → Within S (R k)
  pub writes : (k : ℕ) (x : Vertex) (n : Need) → slice_get g.vertices k ≡ Some x → Has (needs_of x) n → Within (R k) S
  pub wide : (k : ℕ) → Within (R k) Q
  pub wide_caches : Within S Q

-- a vertex that holds instances relates what the caches relate
pub record AreShared (S P : List ℕ → List ℕ → Type 0) (ps : List Instance) : Type 0 where
  pub reads : (p : Instance) → Has ps p → Within S P
  pub writes : (p : Instance) → Has ps p → Within P S

pub record Executes (N : List ℕ → Type 0) (R : ℕ → List ℕ → List ℕ → Type 0) (S : List ℕ → List ℕ → Type 0) (x y : Execution) : Type 0 where
  pub rest : y ≡ record x { own = y.own }
  pub own : AlikeWorkspaces N (R x.vertex) x.own y.own
  pub shared : AreShared S (R x.vertex) x.places

abbrev pub Works : (List ℕ → Type 0) → (ℕ → List ℕ → List ℕ → Type 0) → (List ℕ → List ℕ → Type 0) → WorkerStatus → WorkerStatus → Type 0
Works N R S Idle Idle = Unit {0}
Works N R S (Runs x) (Runs y) = Executes N R S x y
Works N R S _ _ = ⊥

pub record Stands (N : List ℕ → Type 0) (R : ℕ → List ℕ → List ℕ → Type 0) (S : List ℕ → List ℕ → Type 0) (s t : State) : Type 0 where
  pub statuses : (v : ℕ) → BothOptions (BothStatuses (Alike N (R v))) (slice_get s.statuses v) (slice_get t.statuses v)
  pub workers : BothLists (Works N R S) s.workers t.workers
  pub store : AlikeStores N S s.store t.store

-- ---- parts that look at no content

last_same : (N : List ℕ → Type 0) (P : List ℕ → List ℕ → Type 0) (x y : Workspace) → AlikeWorkspaces N P x y → last_of x ≡ last_of y
last_same N P (LocalTree t) (LocalTree u) h = refl
last_same N P (Files is rs) (Files js ss) h = refl
last_same N P (Layers is t) (Layers js u) h = refl
last_same N P (Mounted v cs l) (Mounted w ds m) h = h.2
last_same N P _ _ h = absurd h

done_same : (N : List ℕ → Type 0) (P : List ℕ → List ℕ → Type 0) (k : ℕ) (m : MicroStep) (x y : Workspace) → AlikeWorkspaces N P x y
    → (l r : Left) → AlikeLefts N P l r
    → step_done k m x l ≡ step_done k m y r
done_same N P k ReadLocal x y h l r e = ap (λ f. unless_failed f did.Read) e.fault
done_same N P k (Act a) x y h l r e = ap (λ f. unless_failed f (did.Acted k)) e.fault
done_same N P k (LayInput i) x y h l r e = ap (λ f. unless_failed f (did.Merged k)) e.fault
done_same N P k (Run s c ends) x y h l r e =
    let before = last_same N P x y h in
    let behind = last_same N P l.work.own r.work.own e.work.own in
    λ i. cond (is_run c.join (before i)) (did.Ran k (behind i)) (did.Skipped k)

settled_same : (P : TreeMap → TreeMap → Type 0) (v : ℕ) (d e : Ending) → BothEndings P d e → settle_done v d ≡ settle_done v e
settled_same P v (Done ts) (Done us) h = refl
settled_same P v (Failed f) (Failed g) h = refl
settled_same P v (Done ts) (Failed g) h = absurd h
settled_same P v (Failed f) (Done us) h = absurd h

pub ended_both : (P : TreeMap → TreeMap → Type 0) (o p : Option Status) → BothOptions (BothStatuses P) o p
    → BothOptions (BothEndings P) (ending_of o) (ending_of p)
ended_both P None None h = tt
ended_both P (Some Waiting) (Some Waiting) h = tt
ended_both P (Some (Running w)) (Some (Running u)) h = tt
ended_both P (Some (Settled d)) (Some (Settled e)) h = h
ended_both P _ _ h = absurd h

granted_both : {A F : Type 0} (P : A → A → Type 0) (o p : Result A F) → BothResults P o p → BothOptions P (result_ok o) (result_ok p)
granted_both P (Ok x) (Ok y) h = h
granted_both P (Err e) (Err f) h = tt
granted_both P (Ok x) (Err f) h = absurd h
granted_both P (Err e) (Ok y) h = absurd h

-- ---- trees in and out of the caches

module _ (N : List ℕ → Type 0) (names : (n : List ℕ) → is_name n ≡ true → N n) (S P : List ℕ → List ℕ → Type 0) (kept : IsKept P) (s t : Store)
    (store : AlikeStores N S s t) where
  read : (p : Instance) → Within S P → BothOptions (Alike N P) (content s p) (content t p)
  read p reads = weaker_option (Alike N S) (Alike N P) (weaker_tree N S P reads) (content s p) (content t p) (store p)

  trees_both : (ps : List Instance) → AreShared S P ps → BothLists (Alike N P) (trees_at s ps) (trees_at t ps)
  trees_both [] shared = tt
  trees_both (p ∷ ps) shared = (
    alike_or_empty N names P kept (content s p) (content t p) (read p (shared.reads p (inl refl))),
    trees_both ps (record { reads = λ q h. shared.reads q (inr h); writes = λ q h. shared.writes q (inr h) }),
  )

  first_both : (ts us : List TreeMap) → BothLists (Alike N P) ts us → (ps : List Instance) → AreShared S P ps → (ns : List Need)
      → BothLists (Alike N P) (first_trees s ts ps ns) (first_trees t us ps ns)
  first_both ts us k [] shared ns = tt
  first_both ts us k (p ∷ ps) shared [] = tt
  first_both ts us k (p ∷ ps) shared (n ∷ ns) = (
    or_base (content s p) (content t p) (read p (shared.reads p (inl refl))),
    first_both ts us k ps (record { reads = λ q h. shared.reads q (inr h); writes = λ q h. shared.writes q (inr h) }) ns,
  )
    where
      or_base : (o q : Option TreeMap) → BothOptions (Alike N P) o q
          → Alike N P (unwrap_or o (base_in n.input ts)) (unwrap_or q (base_in n.input us))
      or_base None None h = alike_base_in N names P kept n.input ts us k
      or_base (Some v) (Some w) h = h
      or_base None (Some w) h = absurd h
      or_base (Some v) None h = absurd h

  puts_both : (ps : List Instance) → AreShared S P ps → (ts us : List TreeMap) → BothLists (Alike N P) ts us
      → AlikeStores N S (put_all s ps ts) (put_all t ps us)
  puts_both [] shared ts us k = store
  puts_both (p ∷ ps) shared ts us k = put_all_alike N P S (shared.writes p (inl refl)) (p ∷ ps) ts us k s t store

-- ---- the events

module _ (N : List ℕ → Type 0) (names : (n : List ℕ) → is_name n ≡ true → N n) (g : Numbered) (graph : IsGraph g) (ls ms : List Local)
    (R : ℕ → List ℕ → List ℕ → Type 0) (S Q : List ℕ → List ℕ → Type 0) (flow : AreFlowing N g ls ms R S Q) where
  abbrev first : Build
  first = with_locals g ls

  abbrev second : Build
  second = with_locals g ms

  abbrev pub Answers : Answer → Answer → Type 0
  Answers a b = Stands N R S a.0 b.0 × AreAlikeReplies Q a.1 b.1

  held_same : (xs ys : List WorkerStatus) → BothLists (Works N R S) xs ys → held xs ≡ held ys
  held_same [] [] h = refl
  held_same (Idle ∷ xs) (Idle ∷ ys) h = held_same xs ys h.1
  held_same (Runs x ∷ xs) (Runs y ∷ ys) h =
      let here : x.places ≡ y.places = ap (λ (z : Execution). z.places) (sym h.0.rest) in
      let rest = held_same xs ys h.1 in
      λ i. here i ++ rest i
  held_same (Idle ∷ xs) (Runs y ∷ ys) h = absurd h.0
  held_same (Runs x ∷ xs) (Idle ∷ ys) h = absurd h.0
  held_same [] (y ∷ ys) h = absurd h
  held_same (x ∷ xs) [] h = absurd h

  inputs_both : (v : ℕ) (ss ts : List Status) → ((k : ℕ) → BothOptions (BothStatuses (Alike N (R k))) (slice_get ss k) (slice_get ts k)) → (es : List Edge)
      → Each_of (λ (e : Edge). Within (R e.vertex) (R v)) es
      → BothOptions (BothLists (Alike N (R v))) (inputs_from (ending_at ss) es) (inputs_from (ending_at ts) es)
  inputs_both v ss ts h es within = alike_inputs (Alike N (R v)) (ending_at ss) (ending_at ts) es (each es within)
    where
      each : (ds : List Edge) → Each_of (λ (e : Edge). Within (R e.vertex) (R v)) ds
          → Each_of (λ (e : Edge). BothOptions (BothEndings (Alike N (R v))) (ending_at ss e.vertex) (ending_at ts e.vertex)) ds
      each [] w = tt
      each (d ∷ ds) w = (
        weaker_endings (Alike N (R d.vertex)) (Alike N (R v)) (weaker_tree N (R d.vertex) (R v) w.0) (ending_at ss d.vertex) (ending_at ts d.vertex)
            (ended_both (Alike N (R d.vertex)) (slice_get ss d.vertex) (slice_get ts d.vertex) (h d.vertex)),
        each ds w.1,
      )

  -- ---- a claim

  module _ (s t : State) (h : Stands N R S s t) (w v : ℕ) (x : Vertex) (there : slice_get g.vertices v ≡ Some x) where
    shared_by : (ps : List Instance) → AreShared S (R v) (places_for ps (needs_of x))
    shared_by ps = record {
      reads = λ p has. let n = has_map (place_for ps) (needs_of x) p has in flow.reads v x n.0 there n.1;
      writes = λ p has. let n = has_map (place_for ps) (needs_of x) p has in flow.writes v x n.0 there n.1;
    }

    claims_both : (x-work y-work : Work) → AlikeWorks N (R v) x-work y-work → (ps : List Instance) → AreShared S (R v) ps
        → Answers (claim_with s w v x x-work ps) (claim_with t w v x y-work ps)
    claims_both x-work y-work k ps shared = (
      record {
        statuses = each_set (λ u. BothStatuses (Alike N (R u))) s.statuses t.statuses v (Running w) (Running w) refl h.statuses;
        workers = both_set (Works N R S) s.workers t.workers w (Runs (execution_on v x-work ps)) (Runs (execution_on v y-work ps))
            (record { rest = refl; own = k.own; shared = shared }) h.workers;
        store = puts_both N names S (R v) (flow.kept v) s.store t.store h.store ps shared x-work.trees y-work.trees k.trees;
      },
      record {
        worker = refl;
        vertex = refl;
        program = refl;
        done = refl;
        work = plain_works N (R v) Q (flow.wide v) x-work y-work k;
        instances = refl;
      },
    )

    begins_both : (ts us : List TreeMap) → BothLists (Alike N (R v)) ts us → (ps : List Instance) → AreShared S (R v) ps
        → AlikeWorks N (R v) (begin_at first s.store (start_with x ts) ps) (begin_at second t.store (start_with x us) ps)
    begins_both ts us k ps shared =
        let of : IsVertexOf x x.op.kind = subst (λ (z : Vertex). IsVertexOf z z.op.kind) (get_or_from_slice_get g.vertices v x x there)
        (graph.kind v x (got_within g.vertices v x there)) in
        record {
          own = alike_workspace N names (R v) (flow.kept v) ls ms x (λ name named. flow.sources v x name there named) x.op.kind refl of ts us k;
          trees = first_both N names S (R v) (flow.kept v) s.store t.store h.store ts us k ps shared (needs_of x);
        }

    by_key : (ts us : List TreeMap) → BothLists (Alike N (R v)) ts us → (o : Option Key)
        → BothResults Answers (claim_unless first s w v (start_with x ts) o) (claim_unless second t w v (start_with x us) o)
    by_key ts us k (Some key) = refl
    by_key ts us k None =
        let ps = places_for (held s.workers) (needs_of x) in
        subst
        (λ (qs : List Instance). Answers (claim_at first s w v (start_with x ts) ps) (claim_at second t w v (start_with x us) (places_for qs (needs_of x))))
        (held_same s.workers t.workers h.workers)
        (claims_both (begin_at first s.store (start_with x ts) ps) (begin_at second t.store (start_with x us) ps)
        (begins_both ts us k ps (shared_by (held s.workers))) ps (shared_by (held s.workers)))

    by_inputs : (o p : Option (List TreeMap)) → BothOptions (BothLists (Alike N (R v))) o p
        → BothResults Answers (claimed first s w v (or_not_ready (option_map (start_with x) o)))
        (claimed second t w v (or_not_ready (option_map (start_with x) p)))
    by_inputs None None k = refl
    by_inputs (Some ts) (Some us) k =
        subst
        (λ (qs : List Instance). BothResults Answers (claim_unless first s w v (start_with x ts) (held_key (held s.workers) (needs_of x)))
        (claim_unless second t w v (start_with x us) (held_key qs (needs_of x))))
        (held_same s.workers t.workers h.workers) (by_key ts us k (held_key (held s.workers) (needs_of x)))
    by_inputs None (Some us) k = absurd k
    by_inputs (Some ts) None k = absurd k

    by_status : (o p : Option Status) → BothOptions (BothStatuses (Alike N (R v))) o p
        → BothResults Answers (claimed first s w v (or_not_ready (start_from s.statuses o (Some x))))
        (claimed second t w v (or_not_ready (start_from t.statuses p (Some x))))
    by_status None None k = refl
    by_status (Some Waiting) (Some Waiting) k =
        by_inputs (inputs_from (ending_at s.statuses) x.inputs) (inputs_from (ending_at t.statuses) x.inputs)
        (inputs_both v s.statuses t.statuses h.statuses x.inputs (flow.edges v x there))
    by_status (Some (Running a)) (Some (Running b)) k = refl
    by_status (Some (Settled d)) (Some (Settled e)) k = refl
    by_status _ _ k = absurd k

  claim_both : (s t : State) → Stands N R S s t → (w v : ℕ) → BothResults Answers (claim_grant first s w v) (claim_grant second t w v)
  claim_both s t h w v =
      by_worker (slice_get s.workers w) (slice_get t.workers w) (both_get (Works N R S) s.workers t.workers w h.workers) (slice_get g.vertices v) refl
    where
      by_worker : (o p : Option WorkerStatus) → BothOptions (Works N R S) o p → (u : Option Vertex) → slice_get g.vertices v ≡ u
          → BothResults Answers (claimed first s w v (claim_start s.statuses v o u)) (claimed second t w v (claim_start t.statuses v p u))
      by_worker None None k u there = refl
      by_worker (Some (Runs x)) (Some (Runs y)) k u there = refl
      by_worker (Some Idle) (Some Idle) k None there = refl
      by_worker (Some Idle) (Some Idle) k (Some x) there =
          by_status s t h w v x there (slice_get s.statuses v) (slice_get t.statuses v) (h.statuses v)
      by_worker _ _ k u there = absurd k

  -- ---- a step

  step_relates : (x : Execution) (m : MicroStep) → next_step (program_in first x).steps x ≡ Some m → Writes N (R x.vertex) m
  step_relates x m next = by_vertex (slice_get g.vertices x.vertex) refl next
    where
      by_test : (steps : List MicroStep) → All (Writes N (R x.vertex)) steps → (fin : Bool) → cond fin None (slice_get steps x.done) ≡ Some m
          → Writes N (R x.vertex) m
      by_test steps all true e = absurd cc
      by_test steps all false e = got_of_all (Writes N (R x.vertex)) steps all x.done m e

      by_vertex : (o : Option Vertex) → slice_get g.vertices x.vertex ≡ o → next_step (program_at o).steps x ≡ Some m → Writes N (R x.vertex) m
      by_vertex None there e = by_test [] (λ k d l. absurd (omega (arith, l))) (is_finished [] x) e
      by_vertex (Some z) there e =
          by_test (program_of z).steps (flow.written x.vertex z there) (is_finished (program_of z).steps x) e

  module _ (s t : State) (h : Stands N R S s t) (w : ℕ) (x : Execution) (own : Workspace) (like : AlikeWorkspaces N (R x.vertex) x.own own)
      (shared : AreShared S (R x.vertex) x.places) where
    abbrev other : Execution
    other = record x { own = own }

    step_after : (l r : Left) → AlikeLefts N (R x.vertex) l r → Stands N R S (after_step s w x l) (after_step t w other r)
    step_after l r e =
        let same : with_step other r ≡ record (with_step x l) { own = r.work.own } =
        ap (λ (f : Option VertexFault). record { vertex = x.vertex; done = x.done + 1; fault = f; own = r.work.own; places = x.places }) (sym e.fault) in
        record {
          statuses = h.statuses;
          workers = both_set (Works N R S) s.workers t.workers w (Runs (with_step x l)) (Runs (with_step other r))
              (record { rest = same; own = e.work.own; shared = shared }) h.workers;
          store = puts_both N names S (R x.vertex) (flow.kept x.vertex) s.store t.store h.store x.places shared l.work.trees r.work.trees e.work.trees;
        }

    by_next : (o : Option MicroStep) → next_step (program_in first x).steps x ≡ o → BothResults Answers (step_with s w x o) (step_with t w other o)
    by_next None is = refl
    by_next (Some m) is =
        let works : AlikeWorks N (R x.vertex) (work_of s x) (work_of t other) =
        record { own = like; trees = trees_both N names S (R x.vertex) (flow.kept x.vertex) s.store t.store h.store x.places shared } in
        let lefts = alike_micro_step N names (R x.vertex) (flow.kept x.vertex) x.done m (step_relates x m is) (work_of s x) (work_of t other) works in
        let l = step_on x.done (Some m) (work_of s x) in
        let r = step_on x.done (Some m) (work_of t other) in
        (step_after l r lefts, done_same N (R x.vertex) x.done m x.own own like l r lefts)

    ends_both : BothEndings (Alike N (R x.vertex)) (ending_from (program_in first x) x) (ending_from (program_in second other) other)
    ends_both =
        alike_ending N names (R x.vertex) (flow.kept x.vertex) (program_in first x) (record { work = record { own = x.own; trees = [] }; fault = x.fault })
        (record { work = record { own = own; trees = [] }; fault = x.fault }) (record { work = record { own = like; trees = tt }; fault = refl })

    -- ---- a settle, and a cancel

    by_test : (fin : Bool)
        → BothResults {F = SettleFault} Answers (cond fin (Ok (settle_with s w x.vertex (ending_from (program_in first x) x))) (Err NotFinished))
        (cond fin (Ok (settle_with t w x.vertex (ending_from (program_in second other) other))) (Err NotFinished))
    by_test false = refl
    by_test true =
        let d = ending_from (program_in first x) x in
        let e = ending_from (program_in second other) other in (
          record {
            statuses = each_set (λ u. BothStatuses (Alike N (R u))) s.statuses t.statuses x.vertex (Settled d) (Settled e) ends_both h.statuses;
            workers = both_set (Works N R S) s.workers t.workers w Idle Idle tt h.workers;
            store = h.store;
          },
          settled_same (Alike N (R x.vertex)) x.vertex d e ends_both,
        )

    cancels_both : Answers (cancel_with s w x.vertex x.done) (cancel_with t w x.vertex x.done)
    cancels_both = (
      record {
        statuses = each_set (λ u. BothStatuses (Alike N (R u))) s.statuses t.statuses x.vertex Waiting Waiting tt h.statuses;
        workers = both_set (Works N R S) s.workers t.workers w Idle Idle tt h.workers;
        store = h.store;
      },
      refl,
    )

  module _ (s t : State) (h : Stands N R S s t) (w : ℕ) where
    stepped_both : (o p : Option WorkerStatus) → BothOptions (Works N R S) o p → BothResults Answers (stepped first s w o) (stepped second t w p)
    stepped_both None None k = refl
    stepped_both (Some Idle) (Some Idle) k = refl
    stepped_both (Some (Runs x)) (Some (Runs y)) k =
        subst (λ (z : Execution). BothResults Answers (stepped first s w (Some (Runs x))) (stepped second t w (Some (Runs z)))) (sym k.rest)
        (by_next s t h w x y.own k.own k.shared (next_step (program_in first x).steps x) refl)
    stepped_both _ _ k = absurd k

    settled_both : (o p : Option WorkerStatus) → BothOptions (Works N R S) o p → BothResults Answers (settled first s w o) (settled second t w p)
    settled_both None None k = refl
    settled_both (Some Idle) (Some Idle) k = refl
    settled_both (Some (Runs x)) (Some (Runs y)) k =
        subst (λ (z : Execution). BothResults Answers (settled first s w (Some (Runs x))) (settled second t w (Some (Runs z)))) (sym k.rest)
        (by_test s t h w x y.own k.own k.shared (is_finished (program_in first x).steps x))
    settled_both _ _ k = absurd k

    cancelled_both : (o p : Option WorkerStatus) → BothOptions (Works N R S) o p → BothResults Answers (cancelled s w o) (cancelled t w p)
    cancelled_both None None k = refl
    cancelled_both (Some Idle) (Some Idle) k = refl
    cancelled_both (Some (Runs x)) (Some (Runs y)) k =
        subst (λ (z : Execution). BothResults Answers (cancelled s w (Some (Runs x))) (cancelled t w (Some (Runs z)))) (sym k.rest)
        (cancels_both s t h w x y.own k.own k.shared)
    cancelled_both _ _ k = absurd k

  -- ---- an event, and a run

  step_both : (s t : State) → Stands N R S s t → (w : ℕ) → BothResults Answers (step_grant first s w) (step_grant second t w)
  step_both s t h w =
      stepped_both s t h w (slice_get s.workers w) (slice_get t.workers w) (both_get (Works N R S) s.workers t.workers w h.workers)

  settle_both : (s t : State) → Stands N R S s t → (w : ℕ) → BothResults Answers (settle_grant first s w) (settle_grant second t w)
  settle_both s t h w =
      settled_both s t h w (slice_get s.workers w) (slice_get t.workers w) (both_get (Works N R S) s.workers t.workers w h.workers)

  cancel_both : (s t : State) → Stands N R S s t → (w : ℕ) → BothResults Answers (cancel_grant s w) (cancel_grant t w)
  cancel_both s t h w =
      cancelled_both s t h w (slice_get s.workers w) (slice_get t.workers w) (both_get (Works N R S) s.workers t.workers w h.workers)

  pub table_both : (s t : State) → Stands N R S s t → (e : Event) → BothOptions Answers (table first s e) (table second t e)
  unfolding table
  table_both s t h (Claim w v) = granted_both Answers (claim_grant first s w v) (claim_grant second t w v) (claim_both s t h w v)
  table_both s t h (Step w) = granted_both Answers (step_grant first s w) (step_grant second t w) (step_both s t h w)
  table_both s t h (Settle w) = granted_both Answers (settle_grant first s w) (settle_grant second t w) (settle_both s t h w)
  table_both s t h (Cancel w) = granted_both Answers (cancel_grant s w) (cancel_grant t w) (cancel_both s t h w)

  abbrev Rans : State × List Reply → State × List Reply → Type 0
  Rans a b = Stands N R S a.0 b.0 × BothLists (AreAlikeReplies Q) a.1 b.1

  after_both : (o p : Option Answer) → BothOptions Answers o p → (f j : State → Ran) → ((s t : State) → Stands N R S s t → BothOptions Rans (f s) (j t))
      → BothOptions Rans (after o f) (after p j)
  after_both None None k f j each = tt
  after_both (Some (s, r)) (Some (t, q)) k f j each = more (f s) (j t) (each s t k.0)
    where
      more : (a b : Ran) → BothOptions Rans a b
          → BothOptions Rans (option_map {U = State × List Reply} (λ (z : State × List Reply). (z.0, r ∷ z.1)) a)
          (option_map {U = State × List Reply} (λ (z : State × List Reply). (z.0, q ∷ z.1)) b)
      more None None l = tt
      more (Some (s, rs)) (Some (t, qs)) l = (l.0, (k.1, l.1))
      more None (Some b) l = absurd l
      more (Some a) None l = absurd l
  after_both None (Some b) k f j each = absurd k
  after_both (Some a) None k f j each = absurd k

  run_both : (s t : State) → Stands N R S s t → (es : List Event) → BothOptions Rans (run first s es) (run second t es)
  unfolding run
  run_both s t h [] = (h, tt)
  run_both s t h (e ∷ es) =
      after_both (table first s e) (table second t e) (table_both s t h e) (λ z. run first z es) (λ z. run second z es) (λ a b k. run_both a b k es)

  -- ---- alike workers, with one relation in place of two

  worker_wide : (x y : WorkerStatus) → Works N R S x y → AreAlikeWorkers Q x y
  worker_wide Idle Idle h = tt
  worker_wide (Runs x) (Runs y) h =
      let same = sym h.rest in
      record {
        vertex = ap (λ (z : Execution). z.vertex) same;
        done = ap (λ (z : Execution). z.done) same;
        fault = ap (λ (z : Execution). z.fault) same;
        own = plain_workspace N (R x.vertex) Q (flow.wide x.vertex) x.own y.own h.own;
        places = ap (λ (z : Execution). z.places) same;
      }
  worker_wide _ _ h = absurd h

  pub state_wide : (s t : State) → Stands N R S s t → AreAlikeStates Q s t
  state_wide s t h = record {
    statuses = both_by_place (λ v. BothStatuses (Alike N (R v))) (AreAlikeStatuses Q)
        (λ v x y. weaker_status (Alike N (R v)) (AreAlike Q) (plain_tree N (R v) Q (flow.wide v)) x y) s.statuses t.statuses h.statuses;
    workers = both_weaker (Works N R S) (AreAlikeWorkers Q) worker_wide s.workers t.workers h.workers;
    store = λ p. weaker_option (Alike N S) (AreAlike Q) (plain_tree N S Q flow.wide_caches) (content s.store p) (content t.store p) (h.store p);
  }

  answer_wide : {F : Type 0} (o p : Result Answer F) → BothResults Answers o p → BothResults (AreAlikeAnswers Q) o p
  answer_wide (Ok a) (Ok b) h = (state_wide a.0 b.0 h.0, h.1)
  answer_wide (Err e) (Err f) h = h
  answer_wide (Ok a) (Err f) h = absurd h
  answer_wide (Err e) (Ok b) h = absurd h

  answers_wide : (s t : State) → Stands N R S s t → AnswerAlike Q first second s t
  answers_wide s t h = record {
    claims = λ w v. answer_wide (claim_grant first s w v) (claim_grant second t w v) (claim_both s t h w v);
    steps = λ w. answer_wide (step_grant first s w) (step_grant second t w) (step_both s t h w);
    settles = λ w. answer_wide (settle_grant first s w) (settle_grant second t w) (settle_both s t h w);
    cancels = λ w. answer_wide (cancel_grant s w) (cancel_grant t w) (cancel_both s t h w);
  }

  runs_wide : (o p : Ran) → BothOptions Rans o p → BothOptions (AreAlikeRuns Q first second) o p
  runs_wide None None h = tt
  runs_wide (Some a) (Some b) h = record { states = state_wide a.0 b.0 h.0; replies = h.1; answers = answers_wide a.0 b.0 h.0 }
  runs_wide None (Some b) h = absurd h
  runs_wide (Some a) None h = absurd h

  pub opening_both : (workers : ℕ) (s t : Store) → AlikeStores N S s t
      → Stands N R S (opening first (record { workers = workers; store = s })) (opening second (record { workers = workers; store = t }))
  opening_both workers s t h = record {
    statuses = λ v. each_replicate (BothStatuses (Alike N (R v))) Waiting tt (length g.vertices) v;
    workers = both_replicate (Works N R S) Idle tt workers;
    store = h;
  }

  pub alike_runs : (workers : ℕ) (s t : Store) → AlikeStores N S s t → HaveAlikeRuns Q g ls ms workers s t
  alike_runs workers s t h es =
      runs_wide (run_from g ls workers s es) (run_from g ms workers t es)
      (run_both (opening first (record { workers = workers; store = s })) (opening second (record { workers = workers; store = t }))
      (opening_both workers s t h) es)
