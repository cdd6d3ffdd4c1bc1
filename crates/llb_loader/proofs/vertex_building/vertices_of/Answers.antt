use Rattle.std.proofs.Common.{◌≡◌, ℕ, ◌<◌, ◌+◌, length, get_or, List, [], sym, ◌∙◌, ap, subst, arith}
use Rattle.std.proofs.lemmas.List.{length-set, length_push, length-map}
use Rattle.std.specs.List.{All}
use Rattle.std.specs.Global.{Vec}
use Rattle.llb_ops.specs.declared.op.Op.{Op}
use Rattle.llb_loader.specs.declared.row.Row.{Row}
use Rattle.llb_loader.specs.declared.graph.Vertex.{Vertex}
use Rattle.llb_loader.specs.ReachedRows.{lists, inputs}
use Rattle.llb_loader.specs.RowLookup.{row_at}
use Rattle.llb_loader.specs.GraphOfRows.{op_at}
use Rattle.llb_loader.specs.VertexBuilding.{IsBuildable, IsBuilt, AreBuilt}
use Rattle.llb_loader.proofs.RowReadsAndMarks.{list_at}
use Rattle.llb_loader.proofs.FirstRowOfDigest.{row_read}
use Rattle.llb_loader.proofs.OpAndInputReads.{op_read}
use Rattle.llb_loader.proofs.VertexBuildingLoop.{built_push, kept_step, rows_kept_step}
use Rattle.llb_loader.proofs.vertex_building.vertices_of.Goals as goal

pub vertex_of-requires-clause-buildable : goal.vertex_of-requires-clause-buildable
vertex_of-requires-clause-buildable c =
    let low : get_or c.args.order.now c.loop-row.row-index 0 < length c.args.rows.items = c.requires.below c.loop-row.row-index 0 c.loop-row-test.true in
    let in_ops : get_or c.args.order.now c.loop-row.row-index 0 < length c.loop-row.ops.items =
    (let e = c.loop-row.invariant.ops_len in omega (arith, low, e)) in
    let op : op_at c.args.ops.items (get_or c.args.order.now c.loop-row.row-index 0) ≡ c.replace-op.result =
    sym (c.loop-row.invariant.kept c.loop-row.row-index (omega arith) c.loop-row-test.true)
    ∙ op_read c.loop-row.ops.items (get_or c.args.order.now c.loop-row.row-index 0) c.index_mut-in-loop-row.result.now in_ops
    c.index_mut-in-loop-row.ensures.value
    ∙ sym c.replace-op.ensures.value in
    let in_links : get_or c.args.order.now c.loop-row.row-index 0 < length c.args.links.now = (let e = c.requires.links in omega (arith, low, e)) in
    let named = list_at c.args.links.now (get_or c.args.order.now c.loop-row.row-index 0) c.index-links-row.result in_links c.index-links-row.is in
    subst (λ (ns : List ℕ). IsBuildable c.replace-op.result ns) (sym (c.as_slice.ensures.value ∙ sym named))
    (subst (λ (o : Op). IsBuildable o (inputs (lists c.args.links.now) (get_or c.args.order.now c.loop-row.row-index 0))) op
    (c.requires.buildable c.loop-row.row-index c.loop-row-test.true))

pub vertex_of-requires-clause-range : goal.vertex_of-requires-clause-range
vertex_of-requires-clause-range c =
    let low : get_or c.args.order.now c.loop-row.row-index 0 < length c.args.rows.items = c.requires.below c.loop-row.row-index 0 c.loop-row-test.true in
    let in_links : get_or c.args.order.now c.loop-row.row-index 0 < length c.args.links.now = (let e = c.requires.links in omega (arith, low, e)) in
    let named = list_at c.args.links.now (get_or c.args.order.now c.loop-row.row-index 0) c.index-links-row.result in_links c.index-links-row.is in
    let n = length-map c.args.links.now (λ (r : Vec ℕ). r.items) in
    subst (λ (ns : List ℕ). All (λ b. b < length c.args.ranks.now) ns) (sym (c.as_slice.ensures.value ∙ sym named))
    (c.requires.range (get_or c.args.order.now c.loop-row.row-index 0) [] (omega (arith, in_links, n)))

pub loop-row-preserved : goal.loop-row-preserved
loop-row-preserved c =
    let r = get_or c.args.order.now c.loop-row.row-index 0 in
    let low : get_or c.args.order.now c.loop-row.row-index 0 < length c.args.rows.items = c.requires.below c.loop-row.row-index 0 c.loop-row-test.true in
    let in_rows : get_or c.args.order.now c.loop-row.row-index 0 < length c.loop-row.rows.items =
    (let e = c.loop-row.invariant.rows_len in omega (arith, low, e)) in
    let title : row_at c.args.rows.items (get_or c.args.order.now c.loop-row.row-index 0) ≡ c.replace-title.result =
    sym (c.loop-row.invariant.kept_rows c.loop-row.row-index (omega arith) c.loop-row-test.true)
    ∙ row_read c.loop-row.rows.items (get_or c.args.order.now c.loop-row.row-index 0) c.index_mut.result.now in_rows c.index_mut.ensures.value
    ∙ sym c.replace-title.ensures.value in
    let in_ops : get_or c.args.order.now c.loop-row.row-index 0 < length c.loop-row.ops.items =
    (let e = c.loop-row.invariant.ops_len in omega (arith, low, e)) in
    let op : op_at c.args.ops.items (get_or c.args.order.now c.loop-row.row-index 0) ≡ c.replace-op.result =
    sym (c.loop-row.invariant.kept c.loop-row.row-index (omega arith) c.loop-row-test.true)
    ∙ op_read c.loop-row.ops.items (get_or c.args.order.now c.loop-row.row-index 0) c.index_mut-in-loop-row.result.now in_ops
    c.index_mut-in-loop-row.ensures.value
    ∙ sym c.replace-op.ensures.value in
    let in_links : get_or c.args.order.now c.loop-row.row-index 0 < length c.args.links.now = (let e = c.requires.links in omega (arith, low, e)) in
    let named = list_at c.args.links.now (get_or c.args.order.now c.loop-row.row-index 0) c.index-links-row.result in_links c.index-links-row.is in
    let v : IsBuilt (row_at c.args.rows.items (get_or c.args.order.now c.loop-row.row-index 0)).digest
    (op_at c.args.ops.items (get_or c.args.order.now c.loop-row.row-index 0))
    (inputs (lists c.args.links.now) (get_or c.args.order.now c.loop-row.row-index 0)) c.args.ranks.now c.in_ok-vertex.vertex =
    subst (λ (t : List ℕ). IsBuilt t (op_at c.args.ops.items (get_or c.args.order.now c.loop-row.row-index 0))
    (inputs (lists c.args.links.now) (get_or c.args.order.now c.loop-row.row-index 0)) c.args.ranks.now c.in_ok-vertex.vertex)
    (c.into_digest.ensures ∙ sym (ap (λ (x : Row). x.digest) title))
    (subst (λ (o : Op). IsBuilt c.into_digest.result o
    (inputs (lists c.args.links.now) (get_or c.args.order.now c.loop-row.row-index 0)) c.args.ranks.now c.in_ok-vertex.vertex) (sym op)
    (subst (λ (ns : List ℕ). IsBuilt c.into_digest.result c.replace-op.result ns c.args.ranks.now c.in_ok-vertex.vertex)
    (c.as_slice.ensures.value ∙ sym named) c.in_ok-vertex.ensures)) in
    record {
      len = ap (λ (xs : List Vertex). length xs) c.in_ok-push.ensures.items
          ∙ (let p = length_push c.loop-row.vertices.items c.in_ok-vertex.vertex in let l = c.loop-row.invariant.len in omega (arith, p, l));
      built = subst (λ (xs : List Vertex). AreBuilt c.args.rows.items c.args.ops.items
          (lists c.args.links.now) c.args.ranks.now c.args.order.now xs (c.loop-row.row-index + 1)) (sym c.in_ok-push.ensures.items)
          (built_push c.args.rows.items c.args.ops.items (lists c.args.links.now) c.args.ranks.now c.args.order.now c.loop-row.vertices.items
          c.in_ok-vertex.vertex c.loop-row.row-index c.loop-row.invariant.len c.loop-row.invariant.built v);
      rows_len = length-set c.loop-row.rows.items (get_or c.args.order.now c.loop-row.row-index 0) c.replace-title.new.dest ∙ c.loop-row.invariant.rows_len;
      ops_len = length-set c.loop-row.ops.items (get_or c.args.order.now c.loop-row.row-index 0) c.replace-op.new.dest ∙ c.loop-row.invariant.ops_len;
      kept_rows = rows_kept_step c.args.rows.items c.loop-row.rows.items c.args.order.now c.loop-row.row-index c.replace-title.new.dest c.requires.once
          c.loop-row.invariant.kept_rows;
      kept = kept_step c.args.ops.items c.loop-row.ops.items c.args.order.now c.loop-row.row-index c.replace-op.new.dest c.requires.once
          c.loop-row.invariant.kept;
    }
