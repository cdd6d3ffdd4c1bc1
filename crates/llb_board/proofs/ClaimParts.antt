-- What a claim begins, put together from its parts.
use Rattle.std.proofs.Common.{◌≡◌, ℕ, ◌<◌, ◌^◌, List, length, map, Option, Some, None, sym, ap, subst, ◌∙◌}
use Rattle.std.specs.Prelude.{Ok}
use Rattle.std.specs.List.{All}
use Rattle.llb_cache.specs.declared.lease_needs.Need as cache_need
use Rattle.llb_cache.specs.Caches.{CachesValue}
use Rattle.llb_loader.specs.Rules.{kind_mounts}
use Rattle.llb_loader.specs.declared.graph.Vertex.{Vertex}
use Rattle.llb_tree.specs.Tree.{TreeMap}
use Rattle.llb_model.specs.Caches.{Instance, Distinct}
use Rattle.llb_model.specs.Program.{Build, Workspace, Need, key_of, mount_of, needs_of, program_of, workspace_on}
use Rattle.llb_model.specs.Table.{Claimed, or_not_ready}
use Rattle.llb_board.specs.declared.workers.cache_needs.Wanted.{Wanted}
use Rattle.llb_board.specs.CacheNeeds.{Taking, taken_by, taken_with, IsFound, need_of, first_tree}
use Rattle.llb_execution.specs.Jobs.{IsWorkable}
use Rattle.llb_execution.specs.ModelValues.{work_with, mounts_in, shown_in}
use Rattle.llb_board.specs.RunningWorkerSupplies.{Supplies, supplies_for}
use Rattle.llb_board.specs.WorkerRules.{Begun, begun}
use Rattle.llb_board.specs.ClaimPreparation.{Outfitted, outfit_of}
use Rattle.llb_model.proofs.Lists.{length_map}
use Rattle.llb_board.proofs.CachesOfViews.{mounts_on, shown_on}
use Rattle.llb_board.proofs.NeedsOfRemainingMounts.{keys_found, taken_as}
use Rattle.llb_board.proofs.NeedsByMount.{needs_apart, needs_within}
use Rattle.llb_model.proofs.ConstructorEqualities.{inside_ok}

pub are_ready : {A : Type 0} (o : Option A) (x : A) → or_not_ready o ≡ Ok x → o ≡ Some x
are_ready None x is = absurd cc
are_ready (Some y) x is = ap (λ z. Some z) (inside_ok is)

-- the parts of what a claim begins
pub record Parts : Type 0 where
  pub view : Workspace
  pub own : Workspace
  pub places : List Instance
  pub instances : List ℕ
  pub trees : List TreeMap
  pub needs : List cache_need.Need
  pub outfit : Outfitted

abbrev pub taking_of : Parts → Taking
taking_of p = (p.places, p.instances, p.trees, p.needs)

abbrev pub put_together : ℕ → ℕ → Parts → Begun
put_together w v p = record {
  execution = record { vertex = v; done = 0; fault = None; own = p.own; places = p.places };
  reply = Claimed (record {
    worker = w;
    vertex = v;
    program = p.outfit.program;
    done = 0;
    work = record { own = p.view; trees = p.trees };
    instances = p.instances;
  });
  needs = p.needs;
}

-- each part is what the rules say for vertex x, given the trees of its inputs and the instances that it wants
pub record AreParts (b : Build) (x : Vertex) (ws : List Wanted) (trees : List TreeMap) (p : Parts) : Type 0 where
  pub view : workspace_on b.locals x x.op.kind trees ≡ p.view
  pub own : workspace_on b.locals x x.op.kind trees ≡ p.own
  pub taking : taken_by trees ws ≡ taking_of p
  pub outfit : outfit_of x ≡ p.outfit

-- a claim begins what its parts make together, where the inputs have trees, each part is the rule's, and the caches are as they were found
pub begun_of : (b : Build) (c : CachesValue) (w v : ℕ) (x : Vertex) (o : Option (List TreeMap)) (trees : List TreeMap) (ws : List Wanted) (p : Parts)
    → All (IsFound c) ws → map need_of ws ≡ needs_of x → or_not_ready o ≡ Ok trees → AreParts b x ws trees p
    → begun b c w v x o ≡ Ok (put_together w v p)
begun_of b c w v x o trees ws p found wanted there are =
    let taking : taken_with c trees (needs_of x) ≡ taking_of p = ap (taken_with c trees) (sym wanted) ∙ sym (taken_as c trees ws found) ∙ are.taking in
    ap (begun b c w v x) (are_ready o trees there)
    ∙ (λ i. Ok (put_together w v (record {
      view = are.view i;
      own = are.own i;
      places = (taking i).0;
      instances = (taking i).1;
      trees = (taking i).2;
      needs = (taking i).3;
      outfit = are.outfit i;
    })))

-- the parts supply a worker with what its vertex asks for: outputs, where commands run, mounts, and the keys of caches
pub supplied : (b : Build) (x : Vertex) (ws : List Wanted) (trees : List TreeMap) (p : Parts) → map need_of ws ≡ needs_of x → AreParts b x ws trees p
    → ◌≡◌ {A = Supplies}
    (record {
      outputs = p.outfit.outputs;
      steps = p.outfit.steps;
      mounts = mounts_in p.own;
      shown = shown_in p.own;
      keys = map (λ (q : Instance). q.key) p.places;
    })
    (supplies_for (Some x))
supplied b x ws trees p wanted are = λ i. record {
  outputs = (sym are.outfit i).outputs;
  steps = (sym are.outfit i).steps;
  mounts = (ap mounts_in (sym are.own) ∙ mounts_on b.locals x x.op.kind trees) i;
  shown = (ap shown_in (sym are.own) ∙ shown_on b.locals x trees) i;
  keys = (ap (λ (t : Taking). map (λ (q : Instance). q.key) t.0) (sym are.taking) ∙ keys_found ws ∙ ap (λ (ns : List Need). map key_of ns) wanted) i;
}

-- the micro-steps of the vertex can be done on these parts
pub workable : (b : Build) (x : Vertex) (ws : List Wanted) (trees : List TreeMap) (p : Parts) → map need_of ws ≡ needs_of x → AreParts b x ws trees p
    → length (program_of x).steps < 2 ^ 32 → IsWorkable p.outfit.program (work_with p.view p.trees)
workable b x ws trees p wanted are few =
    let needs = needs_of x in
    let shown : shown_in p.view ≡ map mount_of needs = ap shown_in (sym are.view) ∙ shown_on b.locals x trees in
    let mounts : mounts_in p.view ≡ length (kind_mounts x.op.kind) = ap mounts_in (sym are.view) ∙ mounts_on b.locals x x.op.kind trees in
    let many : length ws ≡ length needs = sym (length_map need_of ws) ∙ ap (λ (ns : List Need). length ns) wanted in
    record {
      apart = subst Distinct (sym shown) (needs_apart x);
      within = subst (λ (n : ℕ). All (λ m. m < n) (shown_in p.view)) (sym mounts)
          (subst (λ (ms : List ℕ). All (λ m. m < length (kind_mounts x.op.kind)) ms) (sym shown) (needs_within x));
      count = ap (λ (t : Taking). length t.2) (sym are.taking) ∙ length_map (first_tree trees) ws ∙ many ∙ sym (length_map mount_of needs)
          ∙ ap length (sym shown);
      few = subst (λ (o : Outfitted). length o.program.steps < 2 ^ 32) are.outfit few;
    }
