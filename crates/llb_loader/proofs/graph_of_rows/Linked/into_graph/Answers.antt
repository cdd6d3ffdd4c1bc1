use Rattle.std.proofs.Common.{◌≡◌, ℕ, ◌<◌, length, List, get_or, refl, sym, ◌∙◌, ap, subst, arith}
use Rattle.std.proofs.lemmas.List.{get_or_read}
use Rattle.std.specs.Global.{Vec}
use Rattle.std.specs.List.{All}
use Rattle.llb_ops.specs.declared.op.Op.{Op}
use Rattle.llb_loader.specs.declared.graph.Vertex.{Vertex}
use Rattle.llb_loader.specs.declared.graph.Edge.{Edge}
use Rattle.llb_loader.specs.ReachedRows.{lists, inputs, InRange}
use Rattle.llb_loader.specs.Numbering.{IsNumbering}
use Rattle.llb_loader.specs.GraphOfRows.{Plan, op_at, input_at}
use Rattle.llb_loader.specs.GraphOfRowsStages.{plan_in}
use Rattle.llb_loader.specs.VertexBuilding.{IsBuildable, AreBuilt, edge_to}
use Rattle.llb_loader.proofs.OpAndInputReads.{op_read}
use Rattle.llb_loader.proofs.RefusalsOfRows.{links_there, graph_below, terminal_there, start_there, order_below, last_input, ops_buildable, is_numbered}
use Rattle.llb_loader.proofs.RefusalsOfRows.{graph_of_rows}
use Rattle.llb_loader.proofs.graph_of_rows.Linked.into_graph.Goals as goal

pub ranks_of-requires-clause-numbering : goal.ranks_of-requires-clause-numbering
ranks_of-requires-clause-numbering c = subst (λ (xs : List (Vec ℕ)). IsNumbering (lists xs) c.args.self.start c.args.order.now) (sym c.deref.ensures.value)
    (subst (λ (g : List (List ℕ)). IsNumbering g c.args.self.start c.args.order.now) (sym c.requires.linked.links)
    c.requires.whole.valid.supported.ordered.numbering)

pub ranks_of-requires-clause-range : goal.ranks_of-requires-clause-range
ranks_of-requires-clause-range c = order_below c.args.self c.requires.linked c.args.order.now c.requires.whole c.requires.short (length c.deref.result.now)
    (let a = links_there c.args.self c.requires.linked in
    let e = ap (λ (xs : List (Vec ℕ)). length xs) c.deref.ensures.value in omega (arith, a, e))

pub index-requires : goal.index-requires
index-requires c =
    let b = start_there c.args.self c.requires.linked in
    let n = c.in_ok-ranks.ensures.len in
    let a = links_there c.args.self c.requires.linked in
    let e = ap (λ (xs : List (Vec ℕ)). length xs) c.deref.ensures.value in
    omega (arith, a, b, e, n)

pub first_edge-result-requires-clause-some : goal.first_edge-result-requires-clause-some
first_edge-result-requires-clause-some c = (last_input c.args.self c.requires.linked c.args.order.now c.requires.whole c.requires.short c.index-2.result.now
    (op_read c.args.self.ops.items c.args.self.terminal c.index-2.result.now (terminal_there c.args.self c.requires.linked) c.index-2.ensures)).0

pub first_edge-result-requires-clause-index : goal.first_edge-result-requires-clause-index
first_edge-result-requires-clause-index c = (last_input c.args.self c.requires.linked c.args.order.now c.requires.whole c.requires.short c.index-2.result.now
    (op_read c.args.self.ops.items c.args.self.terminal c.index-2.result.now (terminal_there c.args.self c.requires.linked) c.index-2.ensures)).1

pub first_edge-result-requires-clause-vertex : goal.first_edge-result-requires-clause-vertex
first_edge-result-requires-clause-vertex c =
    let s : c.args.self.start < length c.in_ok-ranks.ranks.items = (let b = start_there c.args.self c.requires.linked in let n = c.in_ok-ranks.ensures.len in
    let a = links_there c.args.self c.requires.linked in
    let e = ap (λ (xs : List (Vec ℕ)). length xs) c.deref.ensures.value in omega (arith, a, b, e, n)) in
    let small : All (λ r. r < 65_536) c.in_ok-ranks.ranks.items = c.in_ok-ranks.ensures.small 65_536 (omega arith)
    (let s = c.requires.short in let f = c.requires.linked.few in omega (arith, s, f)) in
    subst (λ (n : ℕ). n < 65_536) (sym c.index.ensures) (small c.args.self.start c.index.result.now s)

pub vertices_of-requires-clause-links : goal.vertices_of-requires-clause-links
vertices_of-requires-clause-links c =
    let a = links_there c.args.self c.requires.linked in
    let e = ap (λ (xs : List (Vec ℕ)). length xs) c.deref-2.ensures.value in
    omega (arith, a, e)

pub vertices_of-requires-clause-range : goal.vertices_of-requires-clause-range
vertices_of-requires-clause-range c = subst (λ (xs : List (Vec ℕ)). InRange (lists xs) (length c.deref-3.result.now)) (sym c.deref-2.ensures.value)
    (graph_below c.args.self.rows.items c.args.self.ops.items c.args.self.terminal c.args.self.links.items c.requires.linked.links (length c.deref-3.result.now)
    (let a = links_there c.args.self c.requires.linked in
    let b = c.in_ok-ranks.ensures.len in let d = ap (λ (xs : List ℕ). length xs) c.deref-3.ensures.value in
    let e = ap (λ (xs : List (Vec ℕ)). length xs) c.deref.ensures.value in omega (arith, a, b, d, e)))

pub vertices_of-requires-clause-below : goal.vertices_of-requires-clause-below
vertices_of-requires-clause-below c =
    order_below c.args.self c.requires.linked c.args.order.now c.requires.whole c.requires.short (length c.args.self.rows.items) refl

pub vertices_of-requires-clause-small : goal.vertices_of-requires-clause-small
vertices_of-requires-clause-small c = subst (λ (xs : List ℕ). All (λ r. r < 65_536) xs) (sym c.deref-3.ensures.value)
    (c.in_ok-ranks.ensures.small 65_536 (omega arith) (let s = c.requires.short in let f = c.requires.linked.few in omega (arith, s, f)))

pub vertices_of-requires-clause-buildable : goal.vertices_of-requires-clause-buildable
vertices_of-requires-clause-buildable c = λ i h. subst (λ (xs : List (Vec ℕ)). IsBuildable (op_at c.args.self.ops.items (get_or c.args.order.now i 0))
    (inputs (lists xs) (get_or c.args.order.now i 0))) (sym c.deref-2.ensures.value)
    (ops_buildable c.args.self c.requires.linked c.args.order.now c.requires.whole c.requires.short i h)

-- the edge of the result, given the op and the number that are read for it
result_is : (ops : List Op) (t s : ℕ) (ranks : List ℕ) (x : Edge) (n : ℕ) (op : Op) → s < length ranks → n ≡ get_or ranks s n → op_at ops t ≡ op
    → x ≡ edge_to n (input_at op 0) → x ≡ edge_to (get_or ranks s 0) (input_at (op_at ops t) 0)
result_is ops t s ranks x n op h read same e = e ∙ ap (λ (m : ℕ). edge_to m (input_at op 0)) (get_or_read ranks s n h read 0)
    ∙ ap (λ (o : Op). edge_to (get_or ranks s 0) (input_at o 0)) (sym same)

-- the vertices are those of the plan, given that the links and the ranks that were read are those of the plan
built_by : (p : Plan) (order ranks now : List ℕ) (links read : List (Vec ℕ)) (vs : List Vertex) → read ≡ links → now ≡ ranks
    → AreBuilt p.rows p.ops (lists read) now order vs (length order) → AreBuilt p.rows p.ops (lists links) ranks order vs (length order)
built_by p order ranks now links read vs e d b = subst (λ (r : List ℕ). AreBuilt p.rows p.ops (lists links) r order vs (length order)) d
    (subst (λ (xs : List (Vec ℕ)). AreBuilt p.rows p.ops (lists xs) now order vs (length order)) e b)

pub of_parts-requires : goal.of_parts-requires
of_parts-requires c =
    let s : c.args.self.start < length c.in_ok-ranks.ranks.items = (let b = start_there c.args.self c.requires.linked in let n = c.in_ok-ranks.ensures.len in
    let a = links_there c.args.self c.requires.linked in
    let e = ap (λ (xs : List (Vec ℕ)). length xs) c.deref.ensures.value in omega (arith, a, b, e, n)) in
    is_numbered c.args.self c.requires.linked c.args.order.now c.requires.whole c.requires.short c.in_ok-ranks.ranks.items c.in_ok-ranks.ensures.inverse
    c.in_ok-vertices.vertices.items c.in_ok-vertices.ensures.len
    (built_by (plan_in c.args.self) c.args.order.now c.in_ok-ranks.ranks.items c.deref-3.result.now c.args.self.links.items c.deref-2.result.now
    c.in_ok-vertices.vertices.items c.deref-2.ensures.value c.deref-3.ensures.value c.in_ok-vertices.ensures.built) c.first_edge-result.result
    (result_is c.args.self.ops.items c.args.self.terminal c.args.self.start c.in_ok-ranks.ranks.items c.first_edge-result.result c.index.result.now
    c.index-2.result.now s c.index.ensures
    (op_read c.args.self.ops.items c.args.self.terminal c.index-2.result.now (terminal_there c.args.self c.requires.linked) c.index-2.ensures)
    c.first_edge-result.ensures)

pub returns-clause-graph : goal.returns-clause-graph
returns-clause-graph c =
    let s : c.args.self.start < length c.in_ok-ranks.ranks.items = (let b = start_there c.args.self c.requires.linked in let n = c.in_ok-ranks.ensures.len in
    let a = links_there c.args.self c.requires.linked in
    let e = ap (λ (xs : List (Vec ℕ)). length xs) c.deref.ensures.value in omega (arith, a, b, e, n)) in
    graph_of_rows c.args.self c.requires.linked c.args.order.now c.requires.whole c.requires.short c.in_ok-ranks.ranks.items c.in_ok-ranks.ensures.inverse
    c.in_ok-vertices.vertices.items c.in_ok-vertices.ensures.len
    (built_by (plan_in c.args.self) c.args.order.now c.in_ok-ranks.ranks.items c.deref-3.result.now c.args.self.links.items c.deref-2.result.now
    c.in_ok-vertices.vertices.items c.deref-2.ensures.value c.deref-3.ensures.value c.in_ok-vertices.ensures.built) c.first_edge-result.result
    (result_is c.args.self.ops.items c.args.self.terminal c.args.self.start c.in_ok-ranks.ranks.items c.first_edge-result.result c.index.result.now
    c.index-2.result.now s c.index.ensures
    (op_read c.args.self.ops.items c.args.self.terminal c.index-2.result.now (terminal_there c.args.self c.requires.linked) c.index-2.ensures)
    c.first_edge-result.ensures)
    c.in_ok-of_parts.field-0 c.in_ok-of_parts.ensures
