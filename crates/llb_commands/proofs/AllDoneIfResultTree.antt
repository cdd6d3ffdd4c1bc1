-- Where the result of a graph is a tree, all vertices are done.
use Rattle.std.proofs.Common.{◌≡◌, ℕ, zero, suc, ◌<◌, true, List, [], ◌∷◌, length, map, Option, Some, None, is_some, refl, sym, ap, subst, ◌∙◌, arith}
use Rattle.std.specs.Prelude.{slice_get, slice_index_or}
use Rattle.llb_loader.specs.declared.graph.Edge.{Edge}
use Rattle.llb_loader.specs.declared.graph.Vertex.{Vertex}
use Rattle.llb_loader.specs.Graph.{links, IsGraph}
use Rattle.llb_loader.specs.ReachedRows.{Walk}
use Rattle.llb_tree.specs.Tree.{TreeMap}
use Rattle.llb_events.specs.declared.fault.VertexFault.{VertexFault}
use Rattle.llb_model.specs.Program.{Build}
use Rattle.llb_model.specs.Outcome.{Ending, Done, Failed, output_in, both, inputs_from}
use Rattle.llb_model.specs.State.{State, ending_at, is_done, is_waiting}
use Rattle.llb_model.specs.ConsistentStates.{IsConsistent}
use Rattle.llb_model.proofs.Lists.{get_within, got_within}
use Rattle.llb_model.proofs.PlainVertexStates.{ending_settled}

both_there : {A : Type 0} (o : Option A) (os : Option (List A)) → is_some (both o os) ≡ true → (is_some o ≡ true) × (is_some os ≡ true)
both_there (Some x) (Some xs) there = (refl, refl)
both_there (Some x) None there = absurd cc
both_there None os there = absurd cc

output_done : (o : Option Ending) (i : ℕ) → is_some (output_in o i) ≡ true → is_done o ≡ true
output_done (Some (Done trees)) i there = refl
output_done (Some (Failed f)) i there = absurd cc
output_done None i there = absurd cc

done_is : (o : Option Ending) → is_done o ≡ true → (trees : List TreeMap) × (o ≡ Some (Done trees))
done_is (Some (Done trees)) done = (trees, refl)
done_is (Some (Failed f)) done = absurd cc
done_is None done = absurd cc

abbrev to : Edge → ℕ
to e = e.vertex

-- all inputs are there: each is done
inputs_done : (f : ℕ → Option Ending) (edges : List Edge) (j k : ℕ) → is_some (inputs_from f edges) ≡ true → j < length (map to edges)
    → slice_index_or (map to edges) j k ≡ k
    → is_done (f k) ≡ true
unfolding inputs_from
inputs_done f [] j k there low at = absurd (omega (arith, low))
inputs_done f (e ∷ edges) zero k there low at =
    subst (λ n. is_done (f n) ≡ true) at (output_done (f e.vertex) e.index (both_there (output_in (f e.vertex) e.index) _ there).0)
inputs_done f (e ∷ edges) (suc j) k there low at =
    inputs_done f edges j k (both_there (output_in (f e.vertex) e.index) _ there).1 (omega (arith, low)) at

links_at : (vertices : List Vertex) (k : ℕ) (v : Vertex) → slice_get vertices k ≡ Some v → slice_index_or (links vertices) k [] ≡ map to v.inputs
links_at [] k v there = absurd cc
links_at (w ∷ vertices) zero v there = let same : w ≡ v = cc in ap (λ (x : Vertex). map to x.inputs) same
links_at (w ∷ vertices) (suc k) v there = links_at vertices k v there

module _ (b : Build) (s : State) (here : IsConsistent b s) where
  -- what a vertex that is done leads to is done
  walk_done : (n r k : ℕ) → Walk (links b.graph.vertices) r k n → is_done (ending_at s.statuses r) ≡ true → is_done (ending_at s.statuses k) ≡ true
  walk_done zero r k same done = subst (λ j. is_done (ending_at s.statuses j) ≡ true) same done
  walk_done (suc n) r k walk done =
      let c = walk.0 in
      let d = done_is (ending_at s.statuses c) (walk_done n r c walk.1 done) in
      let settled = ending_settled (slice_get s.statuses c) (Done d.0) d.1 in
      let v = get_within b.graph.vertices c (omega (arith, got_within s.statuses c _ settled, here.count)) in
      let there = here.inputs c v.0 v.1 (ap is_waiting settled) in
      let names = links_at b.graph.vertices c v.0 v.1 in
      inputs_done (ending_at s.statuses) v.0.inputs walk.2.0 k there (subst (λ ns. walk.2.0 < length ns) names walk.2.1)
      (subst (λ ns. slice_index_or ns walk.2.0 k ≡ k) names walk.2.2)

  -- all vertices lead to the result, so once it has its tree none of them has failed
  pub none_fails : IsGraph b.graph → (t : TreeMap) → output_in (ending_at s.statuses b.graph.result.vertex) b.graph.result.index ≡ Some t
      → (v : ℕ) (f : VertexFault) → ending_at s.statuses v ≡ Some (Failed f) → ⊥
  none_fails graph t is v f failed =
      let settled = ending_settled (slice_get s.statuses v) (Failed f) failed in
      let way = graph.whole v (omega (arith, got_within s.statuses v _ settled, here.count)) in
      let first = output_done (ending_at s.statuses b.graph.result.vertex) b.graph.result.index (ap is_some is) in
      let done : is_done (Some (Failed f)) ≡ true = ap is_done (sym failed) ∙ walk_done way.0 b.graph.result.vertex v way.1 first in
      cc
