-- Definitions with one last entry have one result: the vertex with the digest that the first input of that entry names.
use Rattle.std.proofs.Common.{◌≡◌, ℕ, ◌<◌, ◌-◌, List, [], length, get_or, Option, Some, Result, Ok, refl, sym, ap, subst, ◌∙◌, arith, nat_abs}
use Rattle.std.specs.Prelude.{slice_get}
use Rattle.std.specs.Option.{unwrap_or}
use Rattle.std.specs.List.{Contains}
use Rattle.std.proofs.lemmas.List.{get_or-map, get_or_default, length-map}
use Rattle.std.proofs.lemmas.List.Elements.{Contains-get_or}
use Rattle.std.proofs.lemmas.List.Sorted.{Contains-permutation, IsPermutation-sym}
use Rattle.llb_ops.specs.declared.op.Op.{Op}
use Rattle.llb_ops.specs.declared.fault.OpFault.{OpFault}
use Rattle.llb_ops.specs.Messages.{op_of}
use Rattle.llb_loader.specs.declared.row.Row.{Row}
use Rattle.llb_loader.specs.declared.graph.Edge.{Edge}
use Rattle.llb_loader.specs.declared.graph.Vertex.{Vertex}
use Rattle.llb_loader.specs.Numbering.{rank_in}
use Rattle.llb_loader.specs.RowLookup.{row_at}
use Rattle.llb_loader.specs.Graph.{Numbered, HasInputs, IsGraph}
use Rattle.llb_loader.specs.GraphOfRows.{plan_of, op_at, input_at}
use Rattle.llb_loader.specs.GraphOfRowsResult.{IsGraphOf}
use Rattle.llb_loader.specs.LoadResult.{rows_from}
use Rattle.llb_loader.specs.LocalSources.{Local}
use Rattle.llb_loader.proofs.UniqueNumbering.{rank_at}
use Rattle.llb_loader.proofs.InputRowPlaces.{named_digest}
use Rattle.llb_model.specs.Outcome.{ending_in, output_in}
use Rattle.llb_laws.specs.Digests.{LoadWithoutCollision, IsPartOf, HaveOneDigest, HaveSameSources}
use Rattle.llb_laws.specs.Definitions.{last_entry, EndInOneEntry, LoadToOneEnd, ShareResults, PartSharesResult, OrderSharesResult}
use Rattle.llb_model.proofs.Lists.{get_within, got_within}
use Rattle.llb_laws.proofs.VerticesByNumber.{at_number}
use Rattle.llb_laws.proofs.VertexEntries.{row_from, vertex_is, ok_inside, one_op_each}
use Rattle.llb_laws.proofs.ReachedVertices.{leads_to, of_each}
use Rattle.llb_laws.proofs.Digests.{share_outcomes}
use Rattle.llb_laws.proofs.CollisionFreeEntries.{parts_do_not_collide}

-- the result is the vertex with the digest, and the output with the index, that are in the first input of the last entry
pub record IsResultOf (entries : List (List ℕ)) (g : Numbered) : Type 0 where
  pub terminal : Op
  pub among : Contains entries (last_entry entries)
  pub reads : op_of (last_entry entries) ≡ Ok terminal
  pub some : 0 < length terminal.inputs
  pub index : g.result.index ≡ nat_abs (input_at terminal 0).index
  pub vertex : Vertex
  pub there : slice_get g.vertices g.result.vertex ≡ Some vertex
  pub digest : vertex.digest ≡ (input_at terminal 0).digest

pub result_of : (entries : List (List ℕ)) (g : Numbered) → IsGraph g → IsGraphOf (rows_from entries) g → IsResultOf entries g
unfolding row_from
result_of entries g graph (ops, are, made) =
    let rows = rows_from entries in
    let p = plan_of rows ops in
    let started = made.whole.valid.supported.ordered.named.started in
    let holds = started.result.terminal.holds in
    let len = length-map entries row_from in
    let below = holds.0 in
    let low : length entries - 1 < length entries = omega (arith, below, len) in
    let at : row_at rows (length entries - 1) ≡ row_from (last_entry entries) =
    get_or-map row_from entries (length entries - 1) [] (record { digest = []; bytes = [] }) low in
    let last : row_at rows p.terminal ≡ row_from (last_entry entries) = holds.1 ∙ ap (λ (n : ℕ). row_at rows (n - 1)) len ∙ at in
    let x = get_within g.vertices g.result.vertex graph.result.lower in
    let is = vertex_is rows ops g made g.result.vertex x.0 x.1 in
    let result = ap (λ (n : Numbered). n.result) made.graph in
    let rank : g.result.vertex ≡ rank_in made.order p.start =
    ap (λ (n : Edge). n.vertex) result ∙ ap (λ (o : Option ℕ). rank_in made.order (unwrap_or o 0)) started.start in
    let c = made.whole.valid.supported.ordered.numbering.whole p.start (0, refl) in
    let r = rank_at made.order p.start c.0 c.1 (get_or_default made.order c.0 0 p.start c.1 ∙ c.2) in
    let place : get_or made.order g.result.vertex 0 ≡ p.start = ap (λ (n : ℕ). get_or made.order n 0) rank ∙ r.1 in
    record {
      terminal = op_at ops p.terminal;
      among = Contains-get_or entries (length entries - 1) [] low;
      reads = sym (ap (λ (z : Row). op_of z.bytes) last) ∙ are.each p.terminal below;
      some = started.result.input;
      index = ap (λ (n : Edge). n.index) result;
      vertex = x.0;
      there = x.1;
      digest = ap (λ (z : Vertex). z.digest) is ∙ ap (λ (n : ℕ). (row_at rows n).digest) place
          ∙ named_digest rows p.terminal (input_at (op_at ops p.terminal) 0).digest p.start started.start;
    }

module _ (d e : List ℕ) (g h : Numbered) (graph : IsGraph g) (other : IsGraph h) (loaded : LoadWithoutCollision d g e h) (last : EndInOneEntry d e) where
  -- each vertex has one with its digest, since the result's has
  abbrev HasOne : ℕ → Type 0
  HasOne v = (w : ℕ) × HaveOneDigest g v h w

  one_there : (v : ℕ) → HasOne v → (x : Vertex) × (slice_get g.vertices v ≡ Some x)
  one_there v (w, one) = (one.first, one.first_there)

  next_one : (v : ℕ) (p : HasOne v) (i : ℕ) (n : Edge) → i < length (one_there v p).0.inputs → HasOne (get_or (one_there v p).0.inputs i n).vertex
  unfolding one_there
  next_one v (w, one) i n l =
      let op = one_op_each d e g h loaded v w one.first one.second one.first_there one.second_there one.same in
      let first_len = (at_number (HasInputs g.vertices) g.vertices graph.inputs v one.first one.first_there).len in
      let second_len = (at_number (HasInputs h.vertices) h.vertices other.inputs w one.second one.second_there).len in
      let as_many = ap (λ (o : Op). length o.inputs) op in
      let s = leads_to g graph v one.first one.first_there i n l in
      let t = leads_to h other w one.second one.second_there i n (omega (arith, l, first_len, as_many, second_len)) in (
        (get_or one.second.inputs i n).vertex,
        record {
          first = s.vertex;
          second = t.vertex;
          first_there = s.there;
          second_there = t.there;
          same = s.digest ∙ ap (λ (o : Op). (input_at o i).digest) op ∙ sym t.digest;
        },
      )

  -- a source at or before any vertex is at or before the result's
  sources_at : (ls ms : List Local) → HaveSameSources g g.result.vertex ls ms → (v : ℕ) → HaveSameSources g v ls ms
  sources_at ls ms sources v name s =
      sources name (record {
        number = s.number;
        source = s.source;
        before = graph.whole s.number (got_within g.vertices s.number s.source s.there);
        there = s.there;
        named = s.named;
      })

  -- the results of definitions with one last entry
  pub share_results : ShareResults g h
  share_results ls ms sources =
      let r = result_of loaded.first.0 g graph loaded.first.2 in
      let s = result_of loaded.second.0 h other loaded.second.2 in
      let op : r.terminal ≡ s.terminal = ok_inside r.terminal s.terminal
      (sym r.reads ∙ ap op_of (last loaded.first.0 loaded.second.0 loaded.first.1 loaded.second.1) ∙ s.reads) in
      let digests : HaveOneDigest g g.result.vertex h h.result.vertex = record {
        first = r.vertex;
        second = s.vertex;
        first_there = r.there;
        second_there = s.there;
        same = r.digest ∙ ap (λ (o : Op). (input_at o 0).digest) op ∙ sym s.digest;
      } in
      let index = r.index ∙ ap (λ (o : Op). nat_abs (input_at o 0).index) op ∙ sym s.index in
      let same = (share_outcomes d e g h graph other loaded ls ms g.result.vertex h.result.vertex digests sources).same in
      record {
        digests = digests;
        same = record { index = index; outcome = same; tree = λ i. output_in (ending_in (same i)) (index i) };
        each = λ v low.
            let p = of_each g HasOne one_there next_one graph (h.result.vertex, digests) v low in
            record {
              number = p.0;
              digests = p.1;
              same = (share_outcomes d e g h graph other loaded ls ms v p.0 p.1 (sources_at ls ms sources v)).same;
            };
      }

-- ---- definitions with the same entries, or some of them

-- a definition is part of itself
pub part_of_itself : (d : List ℕ) → IsPartOf d d
part_of_itself d xs zs dx dz x c =
    let ok : ◌≡◌ {A = Result (List (List ℕ)) OpFault} (Ok xs) (Ok zs) = sym dx ∙ dz in
    let is : xs ≡ zs = cc in
    subst (λ (es : List (List ℕ)). Contains es x) is c

pub part_apart : (d e : List ℕ) (g h : Numbered) → LoadToOneEnd d g e h → IsPartOf e d → LoadWithoutCollision d g e h
part_apart d e g h to part =
    record { first = to.first; second = to.second; apart = parts_do_not_collide d g to.first d e (part_of_itself d) part }

pub part_shares_result : (d e : List ℕ) (g h : Numbered) → IsGraph g → IsGraph h → PartSharesResult d g e h
part_shares_result d e g h graph other to part = share_results d e g h graph other (part_apart d e g h to part) to.last

pub order_shares_result : (d e : List ℕ) (g h : Numbered) → IsGraph g → IsGraph h → OrderSharesResult d g e h
order_shares_result d e g h graph other to order =
    part_shares_result d e g h graph other to
    (λ ys xs ey dx y c. Contains-permutation ys xs y (IsPermutation-sym xs ys (order xs ys dx ey)) c)
