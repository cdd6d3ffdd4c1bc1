-- What an edge of a vertex leads to, and what holds of all vertices since it holds of the result's and passes along edges.
use Rattle.std.proofs.Common.{◌≡◌, ℕ, zero, suc, ◌<◌, List, [], length, map, get_or, Some, sym, ap, subst, ◌∙◌, arith, pos}
use Rattle.std.specs.Prelude.{slice_get}
use Rattle.std.specs.List.{All}
use Rattle.std.proofs.lemmas.List.{get_or-map, length-map}
use Rattle.std.proofs.lemmas.Option.{get_or_from_slice_get}
use Rattle.llb_ops.specs.declared.op.Input.{Input}
use Rattle.llb_loader.specs.declared.graph.Edge.{Edge}
use Rattle.llb_loader.specs.declared.graph.Vertex.{Vertex}
use Rattle.llb_loader.specs.ReachedRows.{Walk}
use Rattle.llb_loader.specs.Graph.{Numbered, links, LeadsBelow, HasInputs, IsGraph}
use Rattle.llb_loader.specs.GraphOfRows.{input_at}
use Rattle.llb_model.proofs.Lists.{get_within, got_within}
use Rattle.llb_laws.proofs.VerticesByNumber.{at_number}

-- an edge leads to a vertex with the digest in an input, and to the output with the index in it
pub record LeadsTo (g : Numbered) (input : Input) (e : Edge) : Type 0 where
  pub vertex : Vertex
  pub there : slice_get g.vertices e.vertex ≡ Some vertex
  pub digest : vertex.digest ≡ input.digest
  pub index : input.index ≡ pos e.index

pub leads_to : (g : Numbered) → IsGraph g → (v : ℕ) (x : Vertex) → slice_get g.vertices v ≡ Some x → (i : ℕ) (n : Edge) → i < length x.inputs
    → LeadsTo g (input_at x.op i) (get_or x.inputs i n)
leads_to g graph v x there i n l =
    let within = got_within g.vertices v x there in
    let leads : All (LeadsBelow g.vertices v) x.inputs =
    subst (λ (z : Vertex). All (LeadsBelow g.vertices v) z.inputs) (get_or_from_slice_get g.vertices v x x there) (graph.down v x within) in
    let low = (leads i n l).lower in
    let u = get_within g.vertices (get_or x.inputs i n).vertex (omega (arith, low, within)) in
    let p = (at_number (HasInputs g.vertices) g.vertices graph.inputs v x there).each i (record { digest = []; index = pos 0; extra = [] }) n l in
    record {
      vertex = u.0;
      there = u.1;
      digest = sym (ap (λ (z : Vertex). z.digest) (get_or_from_slice_get g.vertices (get_or x.inputs i n).vertex u.0 u.0 u.1)) ∙ p.digest u.0;
      index = p.index;
    }

module _ (g : Numbered) (P : ℕ → Type 0) (has : (v : ℕ) → P v → (x : Vertex) × (slice_get g.vertices v ≡ Some x))
    (step : (v : ℕ) (p : P v) (i : ℕ) (n : Edge) → i < length (has v p).0.inputs → P (get_or (has v p).0.inputs i n).vertex) where
  -- what holds of the start of a walk, and passes along edges, holds of the walk's end
  along : (start : ℕ) → P start → (k n : ℕ) → Walk (links g.vertices) start k n → P k
  along start p k zero same = subst P same p
  along start p k (suc n) (c, walk, edge) =
      let q = along start p c n walk in
      let i = edge.0 in
      let low = edge.1 in
      let x = (has c q).0 in
      let there = (has c q).1 in
      let row : get_or (links g.vertices) c [] ≡ map (λ (e : Edge). e.vertex) x.inputs =
      get_or-map (λ (z : Vertex). map (λ (e : Edge). e.vertex) z.inputs) g.vertices c x [] (got_within g.vertices c x there)
      ∙ ap (λ (z : Vertex). map (λ (e : Edge). e.vertex) z.inputs) (get_or_from_slice_get g.vertices c x x there) in
      let no_edge : Edge = record { vertex = 0; index = 0 } in
      let count = ap (λ (ns : List ℕ). length ns) row in
      let mapped = length-map x.inputs (λ (e : Edge). e.vertex) in
      let l : i < length x.inputs = omega (arith, low, count, mapped) in
      let at : (get_or x.inputs i no_edge).vertex ≡ k = sym (get_or-map (λ (e : Edge). e.vertex) x.inputs i no_edge k l)
      ∙ sym (ap (λ (ns : List ℕ). get_or ns i k) row) ∙ edge.2 in
      subst P at (step c q i no_edge l)

  -- so P holds of each vertex, if it holds of the result's
  pub of_each : IsGraph g → P g.result.vertex → (k : ℕ) → k < length g.vertices → P k
  of_each graph p k low = let w = graph.whole k low in along g.result.vertex p k w.0 w.1
