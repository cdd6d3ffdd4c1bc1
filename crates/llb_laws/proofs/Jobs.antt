-- The jobs of vertices with one digest, and the outcomes of these jobs.
use Rattle.std.proofs.Common.{◌≡◌, ℕ, zero, suc, ◌+◌, true, false, List, [], Option, Some, None, refl, sym, ap, subst, ◌∙◌, arith}
use Rattle.std.specs.Prelude.{option_map}
use Rattle.llb_tree.specs.Tree.{TreeMap}
use Rattle.llb_loader.specs.declared.graph.Vertex.{Vertex}
use Rattle.llb_loader.specs.Graph.{Numbered, IsGraph}
use Rattle.llb_model.specs.Program.{Build, MicroStep, Left, start_with, go_on}
use Rattle.llb_model.specs.Outcome.{inputs_from}
use Rattle.llb_model.specs.Table.{Job}
use Rattle.llb_model.specs.Landing.{AreLeft, further, is_over}
use Rattle.llb_model.proofs.Lists.{some_of}
use Rattle.llb_model.proofs.Outcomes.{plain}
use Rattle.llb_execution.specs.Jobs.{OutcomeValue, IsOutcome, begun_on}
use Rattle.llb_board.specs.BoardValue.{BoardValue}
use Rattle.llb_board.specs.PlainVertexJobs.{plain_start, plain_job, job_from, KnownLand, IsKnown}
use Rattle.llb_laws.specs.Digests.{LoadWithoutCollision, HaveOneDigest, HaveSameSources}
use Rattle.llb_laws.specs.Jobs.{given_to, credited_to, ShareJobs, WorkedElsewhereLands}
use Rattle.llb_laws.proofs.VertexEntries.{HaveOneOpEach, one_op_each}
use Rattle.llb_laws.proofs.Digests.{one_does_same, inputs_same}

-- ---- jobs

module _ (b c : Build) (graph : IsGraph b.graph) (other : IsGraph c.graph) (ops : HaveOneOpEach b.graph c.graph) (v u : ℕ)
    (digests : HaveOneDigest b.graph v c.graph u) (sources : HaveSameSources b.graph v b.locals c.locals) (a w : ℕ) where
  abbrev near : Vertex
  near = digests.first

  abbrev far : Vertex
  far = digests.second

  by_trees : (trees : Option (List TreeMap)) → option_map (given_to w u) (option_map (job_from b a v) (option_map (start_with near) trees))
      ≡ option_map (job_from c w u) (option_map (start_with far) trees)
  by_trees None = refl
  by_trees (Some trees) =
      let same = one_does_same b c graph other ops v sources u digests in
      let p = same.program in
      let s = same.work trees in
      λ i. Some (record { worker = w; vertex = u; program = p i; done = 0; work = s i; instances = [] })

  -- the plain jobs are one but for the numbers
  pub job_same : plain_job c w u ≡ option_map (given_to w u) (plain_job b a v)
  job_same =
      ap (λ o. option_map (job_from c w u) (plain_start c o)) digests.second_there
      ∙ ap (λ ts. option_map (job_from c w u) (option_map (start_with far) ts)) (sym (inputs_same b c graph other ops v sources u digests))
      ∙ sym (by_trees (inputs_from (plain b) near.inputs))
      ∙ sym (ap (λ o. option_map (given_to w u) (option_map (job_from b a v) (plain_start b o))) digests.first_there)

-- the law of jobs
pub share_jobs : (d e : List ℕ) (g h : Numbered) → IsGraph g → IsGraph h → LoadWithoutCollision d g e h → ShareJobs g h
share_jobs d e g h graph other loaded ls ms v u a w digests sources =
    job_same (record { graph = g; locals = ls }) (record { graph = h; locals = ms }) graph other (one_op_each d e g h loaded) v u digests sources a w

-- ---- outcomes

-- the micro-steps that are left to a job are counted in one way
count_same : (steps : List MicroStep) (k : ℕ) (left : Left) (n m : ℕ) → AreLeft steps k left n → AreLeft steps k left m → n ≡ m
count_same steps k left zero zero one two = refl
count_same steps k left zero (suc m) one two =
    let over : is_over steps k left ≡ true = subst (λ j. is_over steps j left ≡ true) (omega arith) one.over in
    absurd (let z : true ≡ false = sym over ∙ two.there.0 in cc)
count_same steps k left (suc n) zero one two =
    let over : is_over steps k left ≡ true = subst (λ j. is_over steps j left ≡ true) (omega arith) two.over in
    absurd (let z : true ≡ false = sym over ∙ one.there.0 in cc)
count_same steps k left (suc n) (suc m) one two =
    let next = go_on steps k left in
    ap suc (count_same steps (k + 1) next n m
    (record { there = one.there.1; over = subst (λ j. is_over steps j (further steps (k + 1) next n) ≡ true) (omega arith) one.over })
    (record { there = two.there.1; over = subst (λ j. is_over steps j (further steps (k + 1) next m) ≡ true) (omega arith) two.over }))

-- a job has one outcome
one_outcome : (job : Job) (o p : OutcomeValue) → o.job ≡ job → p.job ≡ job → IsOutcome o.job o.count o.left → IsOutcome p.job p.count p.left
    → p ≡ o
one_outcome job o p first second one two =
    let same : p.job ≡ o.job = second ∙ sym first in
    let all : AreLeft o.job.program.steps o.job.done (begun_on o.job) p.count =
    subst (λ (j : Job). AreLeft j.program.steps j.done (begun_on j) p.count) same two.all in
    let count : p.count ≡ o.count = count_same o.job.program.steps o.job.done (begun_on o.job) p.count o.count all one.all in
    let left : p.left ≡ o.left = two.leaves ∙ ap (λ (j : Job). further j.program.steps j.done (begun_on j) p.count) same
    ∙ ap (further o.job.program.steps o.job.done (begun_on o.job)) count ∙ sym one.leaves in
    λ i. record { job = same i; count = count i; left = left i }

module _ (d e : List ℕ) (g : Numbered) (b : BoardValue) (graph : IsGraph g) (other : IsGraph b.build.graph) (land : KnownLand b)
    (loaded : LoadWithoutCollision d g e b.build.graph) where
  -- the law of landings
  pub worked_elsewhere_lands : WorkedElsewhereLands g b
  worked_elsewhere_lands ls v w x o worked =
      let job = given_to w x.vertex o.job in
      let own : plain_job b.build w x.vertex ≡ some_of job =
      share_jobs d e g b.build.graph graph other loaded ls b.build.locals v x.vertex worked.worker w worked.digests worked.sources
      ∙ ap (option_map (given_to w x.vertex)) worked.job in
      let known : IsKnown b w job = record { x = x; plain = worked.plain; runs = worked.runs; first = worked.first; same = own } in
      let whole : IsOutcome job o.count o.left = record {
        few = worked.whole.few;
        all = worked.whole.all;
        leaves = worked.whole.leaves;
        mounts = worked.whole.mounts;
        shown = worked.whole.shown;
      } in
      record {
        known = known;
        can = land w job known;
        whole = whole;
        only = λ p is also. one_outcome job (credited_to w x.vertex o) p refl is whole also;
      }
