-- Vertices with ops of one kind, and local sources with one tree, do the same, whatever the digests of their inputs are.
use Rattle.std.proofs.Common.{◌≡◌, ℕ, ◌+◌, List, [], ◌∷◌, map, Option, Some, None, refl, sym, ap, ◌∙◌}
use Rattle.std.specs.Prelude.{slice_get, unwrap_or}
use Rattle.llb_tree.specs.Tree.{TreeMap, empty_tree}
use Rattle.llb_ops.specs.declared.op.Input.{Input}
use Rattle.llb_ops.specs.declared.op.Kind.{Kind}
use Rattle.llb_ops.specs.declared.op.Kind.TheVariants as kind
use Rattle.llb_ops.specs.declared.source.SourceOp.{SourceOp}
use Rattle.llb_ops.specs.declared.exec.CacheOpt.{CacheOpt}
use Rattle.llb_ops.specs.declared.exec.Mount.{Mount}
use Rattle.llb_loader.specs.declared.graph.Vertex.{Vertex}
use Rattle.llb_loader.specs.Mounts.{cache_in, key_by, seed_of}
use Rattle.llb_loader.specs.Rules.{kind_mounts, kind_outputs, mount_outputs}
use Rattle.llb_loader.specs.Scripts.{kind_script}
use Rattle.llb_loader.specs.Graph.{IsVertex, IsVertexOf, IsGraph}
use Rattle.llb_loader.specs.LocalSources.{Local, local_name, name_by_kind, tree_of_local}
use Rattle.llb_model.specs.Program.{Build, Program, ReadLocal, LocalTree, Mounted, program_of, steps_of, local_tree, whole}
use Rattle.llb_model.specs.Program.{workspace_on, shown_of, needs_from, with_need, mount_of, micro_step, part, outputs_of}
use Rattle.llb_model.specs.Outcome.{Done, Ended, ending, inputs_from, outcome_on, outcome}
use Rattle.llb_model.proofs.Lists.{some_of}
use Rattle.llb_model.proofs.Outcomes.{plain, outcome_is}
use Rattle.llb_laws.specs.Matchings.{DoTheSame}
use Rattle.llb_laws.proofs.VerticesByNumber.{at_number}

-- ---- ops of one kind

program_by_kind : (v w : Vertex) → IsVertex v → IsVertex w → v.op.kind ≡ w.op.kind → program_of v ≡ program_of w
program_by_kind v w x y e =
    let s = x.script ∙ ap kind_script e ∙ sym y.script in
    let o = x.outputs ∙ ap kind_outputs e ∙ sym y.outputs in
    λ i. record { steps = steps_of (e i) (s i); outputs = o i; output_numbers = mount_outputs (kind_mounts (e i)) }

-- the numbers of the mounts that show caches do not depend on the inputs
need_mounts : (is js : List Input) (i : ℕ) (ms : List Mount) → map mount_of (needs_from is i ms) ≡ map mount_of (needs_from js i ms)
need_mounts is js i [] = refl
need_mounts is js i (m ∷ ms) = by_options (cache_in m) (need_mounts is js (i + 1) ms)
  where
    by_options : (o : Option CacheOpt) → map mount_of (needs_from is (i + 1) ms) ≡ map mount_of (needs_from js (i + 1) ms)
        → map mount_of (with_need i m (key_by (seed_of is m.input) o) (needs_from is (i + 1) ms))
        ≡ map mount_of (with_need i m (key_by (seed_of js m.input) o) (needs_from js (i + 1) ms))
    by_options None rest = rest
    by_options (Some o) rest = ap (λ ns. i ∷ ns) rest

-- the local trees of two sources are one if the trees of their names are
tree_by_names : (ls ms : List Local) (v w : Vertex) (n m : List ℕ) → local_name v.op ≡ Some n → local_name w.op ≡ Some m
    → tree_of_local ls n ≡ tree_of_local ms m → local_tree ls v ≡ local_tree ms w
tree_by_names ls ms v w n m first second same =
    ap (λ (o : Option (List ℕ)). unwrap_or (tree_of_local ls (unwrap_or o [])) empty_tree) first
    ∙ ap (λ (o : Option TreeMap). unwrap_or o empty_tree) same
    ∙ sym (ap (λ (o : Option (List ℕ)). unwrap_or (tree_of_local ms (unwrap_or o [])) empty_tree) second)

-- the name of a source has the same tree among both lists
abbrev pub SameTree : List Local → List Local → Vertex → Type 0
SameTree ls ms v = (name : List ℕ) → local_name v.op ≡ Some name → tree_of_local ls name ≡ tree_of_local ms name

work_by_kind : (ls ms : List Local) (v w : Vertex) → v.op.kind ≡ w.op.kind → SameTree ls ms v → (k : Option Kind) → v.op.kind ≡ k → IsVertexOf v k
    → (trees : List TreeMap) → workspace_on ls v k trees ≡ workspace_on ms w k trees
work_by_kind ls ms v w e same (Some (kind.Source s)) is of trees =
    let named : local_name v.op ≡ Some of.name = ap name_by_kind is ∙ of.local in
    ap LocalTree (tree_by_names ls ms v w of.name of.name named (sym (ap name_by_kind e) ∙ named) (same of.name named))
work_by_kind ls ms v w e same (Some (kind.File f)) is of trees = refl
work_by_kind ls ms v w e same (Some (kind.Merge m)) is of trees = refl
work_by_kind ls ms v w e same (Some (kind.Exec x)) is of trees =
    ap (λ (ns : List ℕ). Mounted (map (shown_of trees) x.mounts) ns 0)
    (need_mounts v.op.inputs w.op.inputs 0 (kind_mounts v.op.kind)
    ∙ ap (λ (k : Option Kind). map mount_of (needs_from w.op.inputs 0 (kind_mounts k))) e)
work_by_kind ls ms v w e same (Some (kind.Build b)) is of trees = refl
work_by_kind ls ms v w e same (Some (kind.Diff d)) is of trees = refl
work_by_kind ls ms v w e same None is of trees = refl

-- vertices with ops of one kind do the same, if the name of a source has the same tree
pub same_by_kind : (b c : Build) (v w : Vertex) → IsVertex v → IsVertex w → IsVertexOf v v.op.kind → v.op.kind ≡ w.op.kind
    → SameTree b.locals c.locals v → DoTheSame b v c w
same_by_kind b c v w x y of e same =
    record {
      program = program_by_kind v w x y e;
      work = λ trees.
          let s = work_by_kind b.locals c.locals v w e same v.op.kind refl of trees ∙ ap (λ (k : Option Kind). workspace_on c.locals w k trees) e in
          λ i. record { own = s i; trees = [] };
    }

-- ---- sources

-- an op with the name of a local source is a source
source_of : (k : Option Kind) (name : List ℕ) → name_by_kind k ≡ Some name → (s : SourceOp) × (k ≡ Some (kind.Source s))
source_of (Some (kind.Source s)) name e = (s, refl)
source_of (Some (kind.File f)) name e = absurd cc
source_of (Some (kind.Merge m)) name e = absurd cc
source_of (Some (kind.Exec x)) name e = absurd cc
source_of (Some (kind.Build b)) name e = absurd cc
source_of (Some (kind.Diff d)) name e = absurd cc
source_of None name e = absurd cc

abbrev reads : Program
reads = record { steps = ReadLocal ∷ []; outputs = 1; output_numbers = [] }

source_program : (v : Vertex) → IsVertex v → (s : SourceOp) → v.op.kind ≡ Some (kind.Source s) → program_of v ≡ reads
source_program v x s e =
    let o = x.outputs ∙ ap kind_outputs e in
    λ i. record { steps = steps_of (e i) v.script; outputs = o i; output_numbers = mount_outputs (kind_mounts (e i)) }

source_work : (ls : List Local) (v : Vertex) (s : SourceOp) → v.op.kind ≡ Some (kind.Source s) → (trees : List TreeMap)
    → workspace_on ls v v.op.kind trees ≡ LocalTree (local_tree ls v)
source_work ls v s e trees = ap (λ (k : Option Kind). workspace_on ls v k trees) e

-- local sources of which the names have one tree do the same
pub same_sources : (b c : Build) (v w : Vertex) → IsVertex v → IsVertex w → (n m : List ℕ) → local_name v.op ≡ Some n → local_name w.op ≡ Some m
    → tree_of_local b.locals n ≡ tree_of_local c.locals m → DoTheSame b v c w
same_sources b c v w x y n m first second same =
    let s = source_of v.op.kind n first in
    let t = source_of w.op.kind m second in
    record {
      program = source_program v x s.0 s.1 ∙ sym (source_program w y t.0 t.1);
      work = λ trees.
          let own = source_work b.locals v s.0 s.1 trees ∙ ap LocalTree (tree_by_names b.locals c.locals v w n m first second same)
          ∙ sym (source_work c.locals w t.0 t.1 trees) in
          λ i. record { own = own i; trees = [] };
    }

-- the program of a source ends with its tree
reads_tree : (t : TreeMap) → ending reads (whole reads.steps (record { own = LocalTree t; trees = [] })) ≡ Done (t ∷ [])
unfolding part micro_step outputs_of
reads_tree t = refl

no_trees : (c : Build) → inputs_from (plain c) [] ≡ Some []
unfolding inputs_from
no_trees c = refl

-- a local source without inputs is done with its tree
pub source_outcome : (c : Build) → IsGraph c.graph → (s : ℕ) (v : Vertex) (name : List ℕ) → slice_get c.graph.vertices s ≡ Some v
    → local_name v.op ≡ Some name → v.inputs ≡ [] → outcome c s ≡ Some (Ended (Done (local_tree c.locals v ∷ [])))
source_outcome c graph s v name there named none =
    let k = source_of v.op.kind name named in
    let p = source_program v (at_number IsVertex c.graph.vertices graph.vertex s v there) k.0 k.1 in
    let own = source_work c.locals v k.0 k.1 [] in
    outcome_is c graph s v there
    ∙ ap (λ es. some_of (outcome_on c v (inputs_from (plain c) es))) none
    ∙ ap (λ ts. some_of (outcome_on c v ts)) (no_trees c)
    ∙ (λ i. Some (Ended (ending (p i) (whole (p i).steps (record { own = own i; trees = [] })))))
    ∙ ap (λ e. Some (Ended e)) (reads_tree (local_tree c.locals v))
