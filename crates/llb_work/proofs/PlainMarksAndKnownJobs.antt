-- Vertices with no cache mount at or before them, and jobs that are known to be what their workers run.
use Rattle.std.proofs.Common.{◌≡◌, ◌+◌, ◌<◌, ◌≤◌, ℕ, Bool, true, false, List, [], ◌∷◌, ◌++◌}
use Rattle.std.proofs.Common.{length, drop, get_or, Option, Some, None, refl, sym, ap, ◌∙◌, drop-cons, add-one}
use Rattle.std.proofs.lemmas.List.{drop_all}
use Rattle.std.specs.Prelude.{slice_get, option_map, unwrap_or}
use Rattle.llb_loader.specs.declared.graph.Vertex.{Vertex}
use Rattle.llb_model.specs.ListsFromEarlierItems.{by_number}
use Rattle.llb_model.specs.Outcome.{next_plain, is_plain}
use Rattle.llb_model.specs.State as model
use Rattle.llb_model.specs.Program.{Build}
use Rattle.llb_model.specs.Table.{Job}
use Rattle.llb_model.proofs.Lists.{inside}
use Rattle.llb_board.specs.declared.status.WorkerStatus.{WorkerStatus}
use Rattle.llb_board.specs.declared.status.WorkerStatus.TheVariants.{Idle, Runs}
use Rattle.llb_board.specs.BoardValue.{BoardValue}
use Rattle.llb_board.specs.Statuses.{look_of, worker_look}
use Rattle.llb_board.specs.PlainVertexJobs.{plain_job, IsKnown}
use Rattle.llb_work.specs.Tasks.{IsClaimed}

-- ---- the marks

-- the marks so far, continued by the rule over the vertices that are left, are the marks of all vertices
abbrev pub MarkedSoFar : List Vertex → ℕ → List Bool → Type 0
MarkedSoFar vs k marks = by_number next_plain marks (drop k vs) ≡ by_number next_plain [] vs

-- the marks are still those of the rule after the mark of one more vertex, which is made by the rule
pub marked_more : (vs : List Vertex) (k : ℕ) (marks : List Bool) (v : Vertex) → MarkedSoFar vs k marks → k < length vs → v ≡ get_or vs k v
    → MarkedSoFar vs (k + 1) (marks ++ next_plain marks v ∷ [])
marked_more vs k marks v here low is =
    let next : drop k vs ≡ v ∷ drop (k + 1) vs = drop-cons vs k v low ∙ (λ i. sym is i ∷ drop (sym (add-one k) i) vs) in
    ap (by_number next_plain marks) (sym next) ∙ here

-- if no vertex is left, the marks are those of the rule
pub marked_all : (b : Build) (k : ℕ) (marks : List Bool) → MarkedSoFar b.graph.vertices k marks → length b.graph.vertices ≤ k
    → (v : ℕ) → unwrap_or (slice_get marks v) false ≡ is_plain b v
marked_all b k marks here past v =
    let all : marks ≡ by_number next_plain [] b.graph.vertices
    = ap (by_number next_plain marks) (sym (drop_all k b.graph.vertices past)) ∙ here in
    ap (λ ms. unwrap_or (slice_get ms v) false) all

-- ---- what is known

abbrev vertex_in : WorkerStatus → ℕ
vertex_in Idle = 0
vertex_in (Runs v d f) = v

abbrev done_in : WorkerStatus → ℕ
done_in Idle = 0
done_in (Runs v d f) = d

-- if no cache mount is at or before a claimed job's vertex, and its worker has done no micro-step of it, the job is known
pub known : (given b : BoardValue) (w v d : ℕ) (f : Bool) (job : Job) → b.build ≡ given.build → IsClaimed given w job.vertex job
    → is_plain given.build v ≡ true → Some (Runs v d f) ≡ worker_look b.build b.state w → d ≡ 0 → v ≡ job.vertex → IsKnown b w job
known given b w v d f job same claimed plain look none vertex = by_at (slice_get b.state.workers w) refl look
  where
    by_at : (o : Option model.WorkerStatus) → slice_get b.state.workers w ≡ o → Some (Runs v d f) ≡ option_map (look_of b.build) o → IsKnown b w job
    by_at None at is = absurd cc
    by_at (Some model.Idle) at is = absurd cc
    by_at (Some (model.Runs x)) at is =
        let looks : Runs v d f ≡ look_of b.build (model.Runs x) = inside is in
        let its : x.vertex ≡ v = sym (ap vertex_in looks) in
        record {
          x = x;
          plain = (λ i. is_plain (same i) (its i)) ∙ plain;
          runs = at;
          first = sym (ap done_in looks) ∙ none;
          same = (λ i. plain_job (same i) w ((its ∙ vertex) i)) ∙ claimed.plain (ap (is_plain given.build) (sym vertex) ∙ plain);
        }
