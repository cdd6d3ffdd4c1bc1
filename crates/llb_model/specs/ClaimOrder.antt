-- The claim order: claims done one after another, each with the whole work of its vertex, or with as many micro-steps as were done before its cancel.
use Rattle.std.specs.Prelude.{◌≡◌, ℕ, ◌==◌, List, [], ◌∷◌, length, Option, Some, None, slice_get, slice_set, replicate, if◌then◌else◌}
use Rattle.llb_model.specs.Caches.{Instance, Store, content, put_all}
use Rattle.llb_model.specs.Program.{Build, MicroStep, Program, Work, Left, Start, program_of, needs_of, part, whole}
use Rattle.llb_model.specs.Outcome.{Ending, ending}
use Rattle.llb_model.specs.State.{Status, Waiting, Settled, State, ready, IsFree, begin_at, places_by}
use Rattle.llb_events.specs.declared.event.Settled.TheVariants as ended
use Rattle.llb_model.specs.Table.{HasStepped, HasSettled, HasCancelled}
use Rattle.llb_model.specs.Table.{Reply, Claimed}

-- a state in which no vertex runs: the statuses of the vertices, and the contents of the caches
pub record Order : Type 0 where
  pub statuses : List Status
  pub store : Store

-- the state before the first claim
abbrev pub at_first : Build → Store → Order
at_first b store = record { statuses = replicate (length b.graph.vertices) Waiting; store = store }

-- ---- how claims end

-- how the claim of a vertex ends, by the replies after it: `Some k` if it is cancelled after k micro-steps, else `None`
abbrev pub cut_in : ℕ → List Reply → Option ℕ
cut_in v [] = None
cut_in v (Claimed job ∷ rs) = cut_in v rs
cut_in v (HasStepped r ∷ rs) = cut_in v rs
cut_in v (HasSettled (ended.Done u) ∷ rs) = if u == v then None else cut_in v rs
cut_in v (HasSettled (ended.Failed u) ∷ rs) = if u == v then None else cut_in v rs
cut_in v (HasCancelled r ∷ rs) = if r.vertex == v then Some r.done else cut_in v rs

-- a claim: the vertex, the numbers of the instances that it takes, and, if it is cancelled, how many micro-steps are done before the cancel
pub record Named : Type 0 where
  pub vertex : ℕ
  pub instances : List ℕ
  pub cut : Option ℕ

-- a claim: its vertex, the numbers of its instances, and, if it is cancelled, after how many micro-steps
abbrev pub named : ℕ → List ℕ → Option ℕ → Named
named v numbers cut = record { vertex = v; instances = numbers; cut = cut }

-- the result of a claim's micro-steps on its work: of all micro-steps, or of the first k if the claim is cancelled
abbrev pub done_of : Option ℕ → List MicroStep → Work → Left
done_of None steps work = whole steps work
done_of (Some k) steps work = part steps work k

-- the status of a vertex once the work of its claim has ended: it is settled or, if the claim was cancelled, it waits again
abbrev pub stands_after : Option ℕ → Program → Left → Status
stands_after None p left = Settled (ending p left)
stands_after (Some k) p left = Waiting

-- ---- the order

-- the state after vertex v gets its new status, and the trees that its micro-steps left (`left`) are written to the instances of its claim, the list `ps`
abbrev pub left_by : Order → ℕ → List Instance → Program → Option ℕ → Left → Order
left_by o v ps p cut left = record { statuses = slice_set o.statuses v (stands_after cut p left); store = put_all o.store ps left.work.trees }

-- the state after a claim of vertex v and its work (up to the cancel that `cut` has, if any), given its `Start` (the inputs' trees) and the claim's instances
abbrev pub whole_at : Build → Order → ℕ → Start → List Instance → Option ℕ → Order
whole_at b o v start ps cut =
    left_by o v ps (program_of start.vertex) cut (done_of cut (program_of start.vertex).steps (begin_at b o.store start ps))

-- the state after a claim and its work, given the `Start` of the claim's vertex; without a `Start` (the vertex is not Ready) the state before the claim
abbrev pub run_whole : Build → Order → Named → Option Start → Order
run_whole b o c None = o
run_whole b o c (Some start) = whole_at b o c.vertex start (places_by (needs_of start.vertex) c.instances) c.cut

-- the state after one claim and its work
abbrev pub after_whole : Build → Order → Named → Order
after_whole b o c = run_whole b o c (ready b o.statuses c.vertex)

-- the state after these claims and their work, one after another
abbrev pub order : Build → Order → List Named → Order
order b o [] = o
order b o (c ∷ cs) = order b (after_whole b o c) cs

-- the claims that these replies report, each with how the claim ends
abbrev pub claims_in : List Reply → List Named
claims_in [] = []
claims_in (Claimed job ∷ rs) = named job.vertex job.instances (cut_in job.vertex rs) ∷ claims_in rs
claims_in (HasStepped r ∷ rs) = claims_in rs
claims_in (HasSettled r ∷ rs) = claims_in rs
claims_in (HasCancelled r ∷ rs) = claims_in rs

-- o is a state after claims and their work, one after another; each vertex settled in s has the same status in o, and each instance not held in s the same tree
pub record StandsIn (s : State) (o : Order) : Type 0 where
  pub endings : (v : ℕ) (e : Ending) → slice_get s.statuses v ≡ Some (Settled e) → slice_get o.statuses v ≡ Some (Settled e)
  pub contents : (p : Instance) → IsFree s.workers p → content s.store p ≡ content o.store p
