-- A matching of definitions of which one is the other rewritten: a vertex made from an entry, and one made from the entry that this is rewritten to.
use Rattle.std.proofs.Common.{◌≡◌, ℕ, ◌<◌, List, length, get_or, Option, Some, None, Ok, sym, ap, ◌∙◌, arith, nat_abs, inl, inr}
use Rattle.std.specs.Prelude.{slice_get}
use Rattle.std.specs.List.{Contains}
use Rattle.llb_wire.specs.Digest.{digest_text}
use Rattle.llb_ops.specs.declared.op.Input.{Input}
use Rattle.llb_ops.specs.Messages.{op_of}
use Rattle.llb_loader.specs.declared.graph.Edge.{Edge}
use Rattle.llb_loader.specs.declared.graph.Vertex.{Vertex}
use Rattle.llb_loader.specs.Graph.{Numbered, HasInputs, IsVertex, IsVertexOf, IsGraph}
use Rattle.llb_loader.specs.GraphOfRows.{input_at}
use Rattle.llb_loader.specs.LoadResult.{IsGraphIn}
use Rattle.llb_loader.specs.LocalSources.{local_name}
use Rattle.llb_model.specs.Program.{Build}
use Rattle.llb_model.specs.Outcome.{ending_in, output_in, outcome}
use Rattle.llb_laws.specs.Matchings.{DoTheSame, EdgesMatch, IsMatched}
use Rattle.llb_laws.specs.RenamedAndKeptSources.{HasTreesRenamed}
use Rattle.llb_laws.specs.Definitions.{last_entry, HaveRewrittenResult, IsInputRewritten, IsOpRewritten, IsRewriting, RewritingSharesResult}
use Rattle.llb_laws.proofs.VerticesByNumber.{at_number}
use Rattle.llb_laws.proofs.Matches.{both_by_place, matched_alike}
use Rattle.llb_laws.proofs.OpsOfOneKind.{same_by_kind, same_sources}
use Rattle.llb_laws.proofs.VertexEntries.{entry_of}
use Rattle.llb_laws.proofs.ReachedVertices.{leads_to, of_each}
use Rattle.llb_laws.proofs.CollisionFreeEntries.{parts_do_not_collide}
use Rattle.llb_laws.proofs.Definitions.{part_of_itself, result_of}

-- ---- one definition

-- an entry with the digest of a vertex spells the vertex's op
op_by_digest : (d : List ℕ) (g : Numbered) (loaded : IsGraphIn d g) (v : ℕ) (x : Vertex) → slice_get g.vertices v ≡ Some x
    → (entry : List ℕ) → Contains loaded.0 entry → x.digest ≡ digest_text entry → op_of entry ≡ Ok x.op
op_by_digest d g loaded v x there entry among same =
    let a = entry_of loaded.0 g loaded.2 v x there in
    let is : a.bytes ≡ entry = parts_do_not_collide d g loaded d d (part_of_itself d) (part_of_itself d) loaded.0 loaded.0 loaded.1 loaded.1
    a.bytes entry a.among among (sym a.digest ∙ same) in
    sym (ap op_of is) ∙ a.op

-- ---- a definition and its rewriting

no_name : (z : Vertex) (name : List ℕ) → local_name z.op ≡ None → local_name z.op ≡ Some name → ⊥
no_name z name none named = let e : ◌≡◌ {A = Option (List ℕ)} None (Some name) = sym none ∙ named in cc

module _ (d e : List ℕ) (b c : Build) (graph : IsGraph b.graph) (other : IsGraph c.graph) (loaded : IsGraphIn d b.graph) (second_loaded : IsGraphIn e c.graph)
    (rewrite rename : List ℕ → List ℕ) (rewriting : IsRewriting rewrite rename loaded.0 second_loaded.0)
    (trees : HasTreesRenamed rename b.graph b.locals c.locals) where
  -- the first vertex has the digest of an entry, and the second that of the entry that this is rewritten to
  record IsPair (v w : ℕ) : Type 0 where
    entry : List ℕ
    among : Contains loaded.0 entry
    first : Vertex
    second : Vertex
    first_there : slice_get b.graph.vertices v ≡ Some first
    second_there : slice_get c.graph.vertices w ≡ Some second
    first_digest : first.digest ≡ digest_text entry
    second_digest : second.digest ≡ digest_text (rewrite entry)

  -- vertices that an input and its rewriting name
  pair_of : (v w : ℕ) (x y : Vertex) → slice_get b.graph.vertices v ≡ Some x → slice_get c.graph.vertices w ≡ Some y → (i j : Input)
      → x.digest ≡ i.digest → y.digest ≡ j.digest → IsInputRewritten rewrite loaded.0 i j → IsPair v w
  pair_of v w x y first second i j same also r =
      let z = entry_of loaded.0 b.graph loaded.2 v x first in
      record {
        entry = z.bytes;
        among = z.among;
        first = x;
        second = y;
        first_there = first;
        second_there = second;
        first_digest = z.digest;
        second_digest = also ∙ sym (r.digest z.bytes z.among (sym z.digest ∙ same));
      }

  ops : (v w : ℕ) (m : IsPair v w) → IsOpRewritten rewrite rename loaded.0 m.first.op m.second.op
  ops v w m =
      rewriting.ops m.entry m.first.op m.second.op m.among
      (op_by_digest d b.graph loaded v m.first m.first_there m.entry m.among m.first_digest)
      (op_by_digest e c.graph second_loaded w m.second m.second_there (rewrite m.entry) (rewriting.among m.entry m.among) m.second_digest)

  pair_does_same : (v w : ℕ) (m : IsPair v w) → DoTheSame b m.first c m.second
  pair_does_same v w m =
      let is = at_number IsVertex b.graph.vertices graph.vertex v m.first m.first_there in
      let also = at_number IsVertex c.graph.vertices other.vertex w m.second m.second_there in
      let of = at_number (λ (z : Vertex). IsVertexOf z z.op.kind) b.graph.vertices graph.kind v m.first m.first_there in
      elim (ops v w m).op [
        | inl k ↦ same_by_kind b c m.first m.second is also of k.1 (λ name named. absurd (no_name m.first name k.0 named))
        | inr s ↦ same_sources b c m.first m.second is also s.0 (rename s.0) s.1 s.2 (trees v m.first s.0 m.first_there s.1)
      ]

  as_many : (v w : ℕ) (m : IsPair v w) → length m.first.inputs ≡ length m.second.inputs
  as_many v w m =
      (at_number (HasInputs b.graph.vertices) b.graph.vertices graph.inputs v m.first m.first_there).len ∙ (ops v w m).as_many
      ∙ sym (at_number (HasInputs c.graph.vertices) c.graph.vertices other.inputs w m.second m.second_there).len

  edge_pair : (v w : ℕ) (m : IsPair v w) (i : ℕ) (n : Edge) → i < length m.first.inputs
      → IsPair (get_or m.first.inputs i n).vertex (get_or m.second.inputs i n).vertex × ((get_or m.first.inputs i n).index ≡ (get_or m.second.inputs i n).index)
  edge_pair v w m i n l =
      let same = as_many v w m in
      let len = (at_number (HasInputs b.graph.vertices) b.graph.vertices graph.inputs v m.first m.first_there).len in
      let s = leads_to b.graph graph v m.first m.first_there i n l in
      let t = leads_to c.graph other w m.second m.second_there i n (omega (arith, l, same)) in
      let r = (ops v w m).inputs i (omega (arith, l, len)) in
      let p = pair_of (get_or m.first.inputs i n).vertex (get_or m.second.inputs i n).vertex s.vertex t.vertex s.there t.there
      (input_at m.first.op i) (input_at m.second.op i) s.digest t.digest r in
      (p, ap nat_abs (sym s.index ∙ r.index ∙ t.index))

  pairs_match : IsMatched b c IsPair
  pairs_match v w m =
      inr (record {
        first = m.first;
        second = m.second;
        first_there = m.first_there;
        second_there = m.second_there;
        same = pair_does_same v w m;
        inputs = both_by_place (EdgesMatch b c IsPair) m.first.inputs m.second.inputs (as_many v w m) (λ i n l. inr (edge_pair v w m i n l));
      })

  -- the vertices of the results are such a pair, and so is each vertex with one of the second graph
  result_pair : IsPair b.graph.result.vertex c.graph.result.vertex × (b.graph.result.index ≡ c.graph.result.index)
  result_pair =
      let r = result_of loaded.0 b.graph graph loaded.2 in
      let s = result_of second_loaded.0 c.graph other second_loaded.2 in
      let o = rewriting.ops (last_entry loaded.0) r.terminal s.terminal r.among r.reads (ap op_of rewriting.last ∙ s.reads) in
      let i = o.inputs 0 r.some in (
        pair_of b.graph.result.vertex c.graph.result.vertex r.vertex s.vertex r.there s.there (input_at r.terminal 0) (input_at s.terminal 0)
            r.digest s.digest i,
        r.index ∙ ap nat_abs i.index ∙ sym s.index,
      )

  abbrev HasPair : ℕ → Type 0
  HasPair v = (w : ℕ) × IsPair v w

  pair_there : (v : ℕ) → HasPair v → (x : Vertex) × (slice_get b.graph.vertices v ≡ Some x)
  pair_there v (w, m) = (m.first, m.first_there)

  next_pair : (v : ℕ) (p : HasPair v) (i : ℕ) (n : Edge) → i < length (pair_there v p).0.inputs → HasPair (get_or (pair_there v p).0.inputs i n).vertex
  unfolding pair_there
  next_pair v (w, m) i n l = ((get_or m.second.inputs i n).vertex, (edge_pair v w m i n l).0)

  alike : (v w : ℕ) → IsPair v w → outcome b v ≡ outcome c w
  alike v w m = matched_alike b c IsPair graph other pairs_match v w m

  -- the results are one
  pub rewritten_result : HaveRewrittenResult rewrite b c
  rewritten_result =
      let r = result_pair in
      let index = r.1 in
      let same = alike b.graph.result.vertex c.graph.result.vertex r.0 in
      record {
        same = record { index = index; outcome = same; tree = λ k. output_in (ending_in (same k)) (index k) };
        each = λ v low.
            let p = of_each b.graph HasPair pair_there next_pair graph (c.graph.result.vertex, r.0) v low in
            let m = p.1 in
            record {
              number = p.0;
              entry = m.entry;
              first = record { vertex = m.first; there = m.first_there; same = m.first_digest };
              second = record { vertex = m.second; there = m.second_there; same = m.second_digest };
              same = alike v p.0 m;
            };
      }

-- the law
pub rewriting_shares_result : (d e : List ℕ) (g h : Numbered) → IsGraph g → IsGraph h → RewritingSharesResult d g e h
rewriting_shares_result d e g h graph other loaded second_loaded rewrite rename rewritten ls ms trees =
    rewritten_result d e (record { graph = g; locals = ls }) (record { graph = h; locals = ms }) graph other loaded second_loaded rewrite rename
    (rewritten loaded.0 second_loaded.0 loaded.1 second_loaded.1) trees
