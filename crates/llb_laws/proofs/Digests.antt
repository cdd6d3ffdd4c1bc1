-- Vertices with one digest have one outcome: equality of digests, at or before a vertex, is a matching.
use Rattle.std.proofs.Common.{◌≡◌, ℕ, ◌<◌, List, [], length, map}
use Rattle.std.proofs.Common.{get_or, Some, refl, sym, ap, subst, ◌∙◌, arith, pos, nat_abs, inl, inr}
use Rattle.std.specs.Prelude.{slice_get}
use Rattle.std.specs.List.{All, Contains, list_any}
use Rattle.std.proofs.lemmas.Bool.{cases_lt}
use Rattle.std.proofs.lemmas.List.{get_or-map, length-map}
use Rattle.std.proofs.lemmas.Option.{get_or_from_slice_get}
use Rattle.llb_ops.specs.declared.op.Op.{Op}
use Rattle.llb_ops.specs.declared.op.Input.{Input}
use Rattle.llb_loader.specs.declared.graph.Edge.{Edge}
use Rattle.llb_loader.specs.declared.graph.Vertex.{Vertex}
use Rattle.llb_loader.specs.ReachedRows.{HasEdge, Reached}
use Rattle.llb_loader.specs.Mounts.{cache, has_type}
use Rattle.llb_loader.specs.Rules.{kind_mounts}
use Rattle.llb_loader.specs.Graph.{Numbered, links, LeadsBelow, HasInputs, IsVertex, IsVertexOf, IsGraph}
use Rattle.llb_loader.proofs.ReachabilitySearch.{reached_step}
use Rattle.llb_model.specs.Program.{Build}
use Rattle.llb_model.specs.Outcome.{inputs_from}
use Rattle.llb_laws.specs.Matchings.{DoTheSame, EdgesMatch, DoAlike, IsMatched}
use Rattle.llb_laws.specs.Digests.{LoadWithoutCollision, HaveSameSources, HaveOneDigest, HaveOneOutcome, ShareOutcomes, DependOnSources}
use Rattle.llb_model.proofs.Lists.{get_within, got_within}
use Rattle.llb_model.proofs.Outcomes.{plain, each_below}
use Rattle.llb_laws.proofs.VertexEntries.{HaveOneOpEach, one_op_each, one_op_alone}
use Rattle.llb_laws.proofs.VerticesByNumber.{at_number}
use Rattle.llb_laws.proofs.Matches.{MountAlike, none_past, both_by_place, trees_alike, matched_alike, plain_alike}
use Rattle.llb_laws.proofs.OpsOfOneKind.{same_by_kind}

module _ (b c : Build) (graph : IsGraph b.graph) (other : IsGraph c.graph) (ops : HaveOneOpEach b.graph c.graph) (top : ℕ)
    (sources : HaveSameSources b.graph top b.locals c.locals) where
  -- an edge of a vertex at or before the top, and the edge at its place in the other graph
  record IsPair (v : ℕ) (d e : Edge) : Type 0 where
    lower : d.vertex < v
    digests : HaveOneDigest b.graph d.vertex c.graph e.vertex
    before : Reached (links b.graph.vertices) top d.vertex
    index : d.index ≡ e.index

  -- a vertex at or before the top, and one with its digest in the other graph
  module _ (v w : ℕ) (x y : Vertex) (first : slice_get b.graph.vertices v ≡ Some x) (second : slice_get c.graph.vertices w ≡ Some y) (e : x.op ≡ y.op)
      (before : Reached (links b.graph.vertices) top v) where
    inputs_x : HasInputs b.graph.vertices x
    inputs_x = at_number (HasInputs b.graph.vertices) b.graph.vertices graph.inputs v x first

    inputs_y : HasInputs c.graph.vertices y
    inputs_y = at_number (HasInputs c.graph.vertices) c.graph.vertices other.inputs w y second

    as_many : length x.inputs ≡ length y.inputs
    as_many = inputs_x.len ∙ ap (λ (o : Op). length o.inputs) e ∙ sym inputs_y.len

    leads_x : All (LeadsBelow b.graph.vertices v) x.inputs
    leads_x = subst (λ (z : Vertex). All (LeadsBelow b.graph.vertices v) z.inputs) (get_or_from_slice_get b.graph.vertices v x x first)
        (graph.down v x (got_within b.graph.vertices v x first))

    leads_y : All (LeadsBelow c.graph.vertices w) y.inputs
    leads_y = subst (λ (z : Vertex). All (LeadsBelow c.graph.vertices w) z.inputs) (get_or_from_slice_get c.graph.vertices w y y second)
        (other.down w y (got_within c.graph.vertices w y second))

    edge_to : (i : ℕ) (d : Edge) → i < length x.inputs → HasEdge (links b.graph.vertices) v (get_or x.inputs i d).vertex
    edge_to i d l =
        let row : get_or (links b.graph.vertices) v [] ≡ map (λ (n : Edge). n.vertex) x.inputs =
        get_or-map (λ (z : Vertex). map (λ (n : Edge). n.vertex) z.inputs) b.graph.vertices v x [] (got_within b.graph.vertices v x first)
        ∙ ap (λ (z : Vertex). map (λ (n : Edge). n.vertex) z.inputs) (get_or_from_slice_get b.graph.vertices v x x first) in
        let long = length-map x.inputs (λ (n : Edge). n.vertex) in
        subst (λ (ns : List ℕ). Contains ns (get_or x.inputs i d).vertex) (sym row)
        (i, omega (arith, l, long), get_or-map (λ (n : Edge). n.vertex) x.inputs i d (get_or x.inputs i d).vertex l)

    pair : (i : ℕ) (d : Edge) → i < length x.inputs → IsPair v (get_or x.inputs i d) (get_or y.inputs i d)
    pair i d l =
        let no_input : Input = record { digest = []; index = pos 0; extra = [] } in
        let m : i < length y.inputs = (let n = as_many in omega (arith, l, n)) in
        let p = inputs_x.each i no_input d l in
        let q = inputs_y.each i no_input d m in
        let low = (leads_x i d l).lower in
        let down = (leads_y i d m).lower in
        let u = get_within b.graph.vertices (get_or x.inputs i d).vertex (let n = got_within b.graph.vertices v x first in omega (arith, low, n)) in
        let t = get_within c.graph.vertices (get_or y.inputs i d).vertex (let n = got_within c.graph.vertices w y second in omega (arith, down, n)) in
        record {
          lower = low;
          digests = record {
            first = u.0;
            second = t.0;
            first_there = u.1;
            second_there = t.1;
            same = sym (ap (λ (z : Vertex). z.digest) (get_or_from_slice_get b.graph.vertices (get_or x.inputs i d).vertex u.0 u.0 u.1))
                ∙ p.digest u.0 ∙ ap (λ (o : Op). (get_or o.inputs i no_input).digest) e ∙ sym (q.digest t.0)
                ∙ ap (λ (z : Vertex). z.digest) (get_or_from_slice_get c.graph.vertices (get_or y.inputs i d).vertex t.0 t.0 t.1);
          };
          before = reached_step (links b.graph.vertices) top v (get_or x.inputs i d).vertex before (edge_to i d l);
          index = ap nat_abs (sym p.index ∙ ap (λ (o : Op). (get_or o.inputs i no_input).index) e ∙ q.index);
        }

    of_kind : IsVertexOf x x.op.kind
    of_kind = at_number (λ (z : Vertex). IsVertexOf z z.op.kind) b.graph.vertices graph.kind v x first

    same : DoTheSame b x c y
    same =
        same_by_kind b c x y (at_number IsVertex b.graph.vertices graph.vertex v x first) (at_number IsVertex c.graph.vertices other.vertex w y second) of_kind
        (ap (λ (o : Op). o.kind) e) (λ name is. sources name (record { number = v; source = x; before = before; there = first; named = is }))

  one_op : (v w : ℕ) (d : HaveOneDigest b.graph v c.graph w) → d.first.op ≡ d.second.op
  one_op v w d = ops v w d.first d.second d.first_there d.second_there d.same

  -- the matching: vertices with one digest, of which the first is at or before the top
  record IsOneBefore (v w : ℕ) : Type 0 where
    digests : HaveOneDigest b.graph v c.graph w
    before : Reached (links b.graph.vertices) top v

  do_alike : (v w : ℕ) → IsOneBefore v w → DoAlike b c IsOneBefore v w
  do_alike v w m =
      let d = m.digests in
      let e = one_op v w d in
      let paired = pair v w d.first d.second d.first_there d.second_there e m.before in
      record {
        first = d.first;
        second = d.second;
        first_there = d.first_there;
        second_there = d.second_there;
        same = same v w d.first d.second d.first_there d.second_there e m.before;
        inputs = both_by_place (EdgesMatch b c IsOneBefore) d.first.inputs d.second.inputs
            (as_many v w d.first d.second d.first_there d.second_there e m.before)
            (λ i n l. let p = paired i n l in inr (record { digests = p.digests; before = p.before }, p.index));
      }

  mount_alike : (v w : ℕ) → IsOneBefore v w → MountAlike b c IsOneBefore v w
  mount_alike v w m =
      let d = m.digests in
      let e = one_op v w d in
      let paired = pair v w d.first d.second d.first_there d.second_there e m.before in
      record {
        first = d.first;
        second = d.second;
        first_there = d.first_there;
        second_there = d.second_there;
        same = ap (λ (o : Op). list_any (has_type cache) (kind_mounts o.kind)) e;
        inputs = both_by_place (λ n k. IsOneBefore n.vertex k.vertex) d.first.inputs d.second.inputs
            (as_many v w d.first d.second d.first_there d.second_there e m.before)
            (λ i n l. let p = paired i n l in record { digests = p.digests; before = p.before });
      }

  one_before : (w : ℕ) → HaveOneDigest b.graph top c.graph w → IsOneBefore top w
  one_before w d = record { digests = d; before = (0, refl) }

  matched : IsMatched b c IsOneBefore
  matched v w m = inr (do_alike v w m)

  -- vertices with one digest have one outcome, if the sources at or before the first have the same trees
  pub alike : (w : ℕ) → HaveOneDigest b.graph top c.graph w → HaveOneOutcome b top c w
  alike w d =
      record {
        same = matched_alike b c IsOneBefore graph other matched top w (one_before w d);
        plain = plain_alike b c graph other IsOneBefore mount_alike top w (one_before w d);
      }

  -- two vertices with one digest do the same
  pub one_does_same : (w : ℕ) (d : HaveOneDigest b.graph top c.graph w) → DoTheSame b d.first c d.second
  unfolding do_alike one_before
  one_does_same w d = (do_alike top w (one_before w d)).same

  -- two vertices with one digest begin on the same trees of their inputs
  pub inputs_same : (w : ℕ) (d : HaveOneDigest b.graph top c.graph w) → inputs_from (plain b) d.first.inputs ≡ inputs_from (plain c) d.second.inputs
  unfolding do_alike one_before
  inputs_same w d =
      trees_alike b c IsOneBefore top (λ j k low m. matched_alike b c IsOneBefore graph other matched j k m) d.first.inputs d.second.inputs
      (each_below b.graph graph top d.first d.first_there) (do_alike top w (one_before w d)).inputs

-- ---- the laws

pub share_outcomes : (d e : List ℕ) (g h : Numbered) → IsGraph g → IsGraph h → LoadWithoutCollision d g e h → ShareOutcomes g h
share_outcomes d e g h graph other loaded ls ms v w digests sources =
    alike (record { graph = g; locals = ls }) (record { graph = h; locals = ms }) graph other (one_op_each d e g h loaded) v sources w digests

pub depend_on_sources : (g : Numbered) → IsGraph g → DependOnSources g
depend_on_sources g graph ls ms v sources = elim (cases_lt v (length g.vertices)) [
  | inl low ↦ (
      let x = get_within g.vertices v low in
      (alike (record { graph = g; locals = ls }) (record { graph = g; locals = ms }) graph graph (one_op_alone g graph) v sources v
      (record { first = x.0; second = x.0; first_there = x.1; second_there = x.1; same = refl })).same)
  | inr past ↦ none_past (record { graph = g; locals = ls }) v past ∙ sym (none_past (record { graph = g; locals = ms }) v past)
]
