-- The vertices of a graph one by one: of what kind each is, and how many micro-steps it has.
use Rattle.std.proofs.Common.{◌≡◌, ℕ, suc, ◌<◌, ◌^◌, List, [], ◌∷◌, length, refl, sym, ap, subst, ◌∙◌, arith}
use Rattle.std.specs.Prelude.{Option, Some, None, slice_get, unwrap_or}
use Rattle.std.proofs.lemmas.Option.{slice_get_within, get_or_from_slice_get}
use Rattle.llb_applet.specs.declared.joined_commands.Joined.{Joined}
use Rattle.llb_applet.specs.declared.directory_and_variables.Setting.{Setting}
use Rattle.llb_ops.specs.declared.op.Kind.{Kind}
use Rattle.llb_ops.specs.declared.op.Kind.TheVariants as kind
use Rattle.llb_ops.specs.declared.merge.MergeInput.{MergeInput}
use Rattle.llb_loader.specs.declared.graph.Vertex.{Vertex}
use Rattle.llb_loader.specs.Graph.{Numbered, IsGraph, IsVertex, IsVertexOf}
use Rattle.llb_model.specs.Program.{Act, LayInput, setting_of, runs_of, steps_of, program_of, program_at}
use Rattle.llb_model.proofs.Lists.{length_map}

-- each command is one micro-step
pub length_runs : (setting : Setting) (cs : List Joined) → length (runs_of setting cs) ≡ length cs
length_runs setting [] = refl
length_runs setting (c ∷ cs) = ap suc (length_runs setting cs)

-- a vertex keeps the number of micro-steps of its kind and its script
pub counted_by : (v : Vertex) (k : Option Kind) → IsVertexOf v k → v.steps ≡ length (steps_of k v.script)
counted_by v (Some (kind.Source s)) is = is.steps
counted_by v (Some (kind.File f)) is = is.steps ∙ sym (length_map Act f.actions)
counted_by v (Some (kind.Merge m)) is = is.steps ∙ sym (length_map (λ (i : MergeInput). LayInput i.input) m.inputs)
counted_by v (Some (kind.Exec x)) is =
    is.steps ∙ sym (length_runs (setting_of x.meta) is.commands)
    ∙ ap (λ (o : Option (List Joined)). length (runs_of (setting_of x.meta) (unwrap_or o []))) (sym is.script)
counted_by v (Some (kind.Build b)) is = absurd is
counted_by v (Some (kind.Diff d)) is = absurd is
counted_by v None is = absurd is

-- a vertex of a graph keeps the number of micro-steps of its program
pub counted : (g : Numbered) (k : ℕ) (v : Vertex) → IsGraph g → slice_get g.vertices k ≡ Some v → v.steps ≡ length (program_of v).steps
counted g k v graph at =
    counted_by v v.op.kind (subst (λ x. IsVertexOf x x.op.kind) (get_or_from_slice_get g.vertices k v v at)
    (graph.kind k v (slice_get_within g.vertices k v at)))

-- the loader takes no vertex with 2^25 micro-steps or more
pub few_steps : (g : Numbered) (k : ℕ) (v : Vertex) → IsGraph g → slice_get g.vertices k ≡ Some v → v.steps < 2 ^ 25
few_steps g k v graph at =
    (subst IsVertex (get_or_from_slice_get g.vertices k v v at) (graph.vertex k v (slice_get_within g.vertices k v at))).few_steps

program_few : (o : Option Vertex) (g : Numbered) (k : ℕ) → IsGraph g → slice_get g.vertices k ≡ o → length (program_at o).steps < 2 ^ 25
program_few None g k graph at = omega arith
program_few (Some v) g k graph at = omega (arith, counted g k v graph at, few_steps g k v graph at)

-- a program has few micro-steps
pub few_of : (g : Numbered) (k : ℕ) → IsGraph g → length (program_at (slice_get g.vertices k)).steps < 2 ^ 25
few_of g k graph = program_few (slice_get g.vertices k) g k graph refl

-- the facts that the loader checked of a vertex, by the kind of its op
pub kind_at : (g : Numbered) (k : ℕ) (v : Vertex) → IsGraph g → slice_get g.vertices k ≡ Some v → IsVertexOf v v.op.kind
kind_at g k v graph at =
    subst (λ x. IsVertexOf x x.op.kind) (get_or_from_slice_get g.vertices k v v at) (graph.kind k v (slice_get_within g.vertices k v at))
