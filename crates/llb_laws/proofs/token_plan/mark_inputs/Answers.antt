use Rattle.std.proofs.Common.{◌∙◌, ◌⊎◌, ◌↔◌, get_or, map, true, refl, subst, arith, List, ℕ}
use Rattle.std.specs.List.{Contains}
use Rattle.std.proofs.lemmas.List.{length-map, length-set, take_all}
use Rattle.llb_loader.specs.declared.graph.Edge.{Edge}
use Rattle.llb_loader.specs.WaitingRows.{IsMarked}
use Rattle.llb_laws.proofs.TokenPlans.{mark_more, mark_none}
use Rattle.llb_laws.proofs.token_plan.mark_inputs.Goals as goal

pub loop-edge-init : goal.loop-edge-init
loop-edge-init c = record { count = refl; marked = mark_none c.args.marks.now.items }

pub index_mut-requires : goal.index_mut-requires
index_mut-requires c =
    let d : Edge = record { vertex = 0; index = 0 } in
    let low = c.requires c.loop-edge.edge-index d c.loop-edge-test.true in
    omega (arith, low, c.loop-edge.invariant.count)

pub loop-edge-preserved : goal.loop-edge-preserved
loop-edge-preserved c =
    let es = c.args.edges.now in
    let i = c.loop-edge.edge-index in
    let d : Edge = record { vertex = 0; index = 0 } in
    let low = c.requires i d c.loop-edge-test.true in
    record {
      count = length-set c.loop-edge.marks.items (get_or es i d).vertex true ∙ c.loop-edge.invariant.count;
      marked = mark_more c.args.marks.now.items c.loop-edge.marks.items es i d c.loop-edge-test.true (omega (arith, low, c.loop-edge.invariant.count))
          c.loop-edge.invariant.marked;
    }

pub returns-clause-count : goal.returns-clause-count
returns-clause-count c = c.loop-edge.invariant.count

pub returns-clause-marked : goal.returns-clause-marked
returns-clause-marked c =
    let ns = map (λ (e : Edge). e.vertex) c.args.edges.now in
    let size = length-map c.args.edges.now (λ (e : Edge). e.vertex) in
    let all = take_all c.loop-edge.edge-index ns (omega (arith, size, c.loop-edge-test.false)) in
    subst (λ (xs : List ℕ). (k : ℕ) → IsMarked c.loop-edge.marks.items k ↔ (IsMarked c.args.marks.now.items k ⊎ Contains xs k)) all
    c.loop-edge.invariant.marked
