-- Two matchings: each vertex with the one of its number, where sources are renamed; and each copy with its original, where sources replace outputs.
use Rattle.std.proofs.Common.{◌≡◌, ℕ, zero, suc, ◌<◌, List, [], ◌∷◌, length, Option, Some, None, refl, sym, ap, subst, ◌∙◌, arith, ◌⊎◌, inl, inr}
use Rattle.std.specs.Prelude.{slice_get}
use Rattle.std.proofs.lemmas.Bool.{cases_lt}
use Rattle.llb_tree.specs.Tree.{TreeMap}
use Rattle.llb_loader.specs.declared.graph.Edge.{Edge}
use Rattle.llb_loader.specs.declared.graph.Vertex.{Vertex}
use Rattle.llb_loader.specs.Graph.{Numbered, LeadsBelow, IsVertex, IsVertexOf, IsGraph}
use Rattle.llb_loader.specs.LocalSources.{local_name, name_by_kind}
use Rattle.llb_model.specs.Program.{Build, local_tree}
use Rattle.llb_model.specs.Outcome.{outcome, output_in, ending_in}
use Rattle.llb_model.proofs.Lists.{Each_of, get_within, got_within}
use Rattle.llb_model.proofs.Outcomes.{each_below}
use Rattle.llb_laws.specs.Matchings.{output_at, EdgesMatch, DoAlike, IsMatched}
use Rattle.llb_laws.specs.AlikeTrees.{BothLists}
use Rattle.llb_laws.specs.RenamedAndKeptSources.{IsRenamed, HasTreesRenamed, RenamedEndAlike}
use Rattle.llb_laws.specs.RenamedAndKeptSources.{Origin, Kept, Copied, IsEdgeFrom, IsInPlaceOf, IsCopyOf, HasOrigin, HaveOrigins, KeptStandIn}
use Rattle.llb_laws.proofs.AlikeValues.{both_length}
use Rattle.llb_laws.proofs.VerticesByNumber.{at_number}
use Rattle.llb_laws.proofs.Matches.{none_past, matched_alike}
use Rattle.llb_laws.proofs.OpsOfOneKind.{same_by_kind, same_sources, source_outcome}

-- ---- sources with other names

-- what both lists have at a place
both_at : {A : Type 0} (P : A → A → Type 0) (xs ys : List A) → BothLists P xs ys → (i : ℕ) (x y : A) → slice_get xs i ≡ Some x → slice_get ys i ≡ Some y → P x y
both_at P [] [] h i x y first second = absurd cc
both_at P (z ∷ zs) (w ∷ ws) h zero x y first second =
    let e : z ≡ x = cc in
    let f : w ≡ y = cc in
    subst (λ u. P u y) e (subst (λ u. P z u) f h.0)
both_at P (z ∷ zs) (w ∷ ws) h (suc i) x y first second = both_at P zs ws h.1 i x y first second
both_at P [] (w ∷ ws) h i x y first second = absurd h
both_at P (z ∷ zs) [] h i x y first second = absurd h

module _ (b c : Build) (graph : IsGraph b.graph) (other : IsGraph c.graph) (rename : List ℕ → List ℕ)
    (renamed : BothLists (IsRenamed rename) b.graph.vertices c.graph.vertices) (trees : HasTreesRenamed rename b.graph b.locals c.locals) where
  abbrev Same : ℕ → ℕ → Type 0
  Same v w = v ≡ w

  edges_same : (es : List Edge) → BothLists (EdgesMatch b c Same) es es
  edges_same [] = tt
  edges_same (e ∷ es) = (inr (refl, refl), edges_same es)

  renamed_do_alike : (v : ℕ) → v < length b.graph.vertices → DoAlike b c Same v v
  renamed_do_alike v low =
      let len = both_length (IsRenamed rename) b.graph.vertices c.graph.vertices renamed in
      let x = get_within b.graph.vertices v low in
      let y = get_within c.graph.vertices v (omega (arith, low, len)) in
      let p = both_at (IsRenamed rename) b.graph.vertices c.graph.vertices renamed v x.0 y.0 x.1 y.1 in
      let is = at_number IsVertex b.graph.vertices graph.vertex v x.0 x.1 in
      let also = at_number IsVertex c.graph.vertices other.vertex v y.0 y.1 in
      let of = at_number (λ (z : Vertex). IsVertexOf z z.op.kind) b.graph.vertices graph.kind v x.0 x.1 in
      record {
        first = x.0;
        second = y.0;
        first_there = x.1;
        second_there = y.1;
        same = elim p.op [
          | inl k ↦ same_by_kind b c x.0 y.0 is also of k.1 (λ name named. absurd (no_name x.0 name k.0 named))
          | inr s ↦ same_sources b c x.0 y.0 is also s.0 (rename s.0) s.1 s.2 (trees v x.0 s.0 x.1 s.1)
        ];
        inputs = subst (λ es. BothLists (EdgesMatch b c Same) x.0.inputs es) p.inputs (edges_same x.0.inputs);
      }
    where
      no_name : (z : Vertex) (name : List ℕ) → local_name z.op ≡ None → local_name z.op ≡ Some name → ⊥
      no_name z name none named = let e : ◌≡◌ {A = Option (List ℕ)} None (Some name) = sym none ∙ named in cc

  renamed_matched : IsMatched b c Same
  renamed_matched v w m = subst (λ k. (outcome b v ≡ outcome c k) ⊎ DoAlike b c Same v k) m (elim (cases_lt v (length b.graph.vertices)) [
    | inl low ↦ inr (renamed_do_alike v low)
    | inr past ↦ (
        let len = both_length (IsRenamed rename) b.graph.vertices c.graph.vertices renamed in
        inl (none_past b v past ∙ sym (none_past c v (omega (arith, past, len)))))
  ])

  pub renamed_alike : (v : ℕ) → outcome b v ≡ outcome c v
  renamed_alike v = matched_alike b c Same graph other renamed_matched v v refl

-- the law of renamed sources
pub renamed_end_alike : (g h : Numbered) → IsGraph g → IsGraph h → RenamedEndAlike g h
renamed_end_alike g h graph other rename ls ms renamed trees v =
    renamed_alike (record { graph = g; locals = ls }) (record { graph = h; locals = ms }) graph other rename renamed trees v

-- ---- sources in place of outputs

-- origins by some outputs are origins by others, if these are the same where the sources replace them
pub origins_by : (outputs others : Edge → Option TreeMap) (b c : Build) (origin : ℕ → Origin)
    → ((w : ℕ) (kept : Edge) (tree : TreeMap) → w < length c.graph.vertices → origin w ≡ Kept kept → outputs kept ≡ Some tree → others kept ≡ Some tree)
    → HaveOrigins outputs b c origin → HaveOrigins others b c origin
origins_by outputs others b c origin same have w y there = by_origin (origin w) refl (have w y there)
  where
    by_origin : (o : Origin) → origin w ≡ o → HasOrigin outputs b c origin o y → HasOrigin others b c origin o y
    by_origin (Kept kept) is h = record {
      name = h.name;
      named = h.named;
      no_inputs = h.no_inputs;
      tree = same w kept (local_tree c.locals y) (got_within c.graph.vertices w y there) is h.tree;
    }
    by_origin (Copied v) is h = h

module _ (b c : Build) (graph : IsGraph b.graph) (other : IsGraph c.graph) (origin : ℕ → Origin)
    (have : HaveOrigins (output_at b) b c origin) where
  -- a copy and its original
  record IsCopied (v w : ℕ) : Type 0 where
    is : origin w ≡ Copied v
    low : w < length c.graph.vertices

  -- the source in place of an output is done with that output's tree
  source_has : (kept e f : Edge) → f.vertex < length c.graph.vertices → origin f.vertex ≡ Kept kept → f.index ≡ 0 → e ≡ kept → output_at b e ≡ output_at c f
  source_has kept e f low is index same =
      let y = get_within c.graph.vertices f.vertex low in
      let place : IsInPlaceOf (output_at b kept) c y.0 = subst (λ (o : Origin). HasOrigin (output_at b) b c origin o y.0) is (have f.vertex y.0 y.1) in
      let o = source_outcome c other f.vertex y.0 place.name y.1 place.named place.no_inputs in
      ap (output_at b) same ∙ place.tree ∙ sym (λ i. output_in (ending_in (o i)) (index i))

  edges_from : (w : ℕ) → w < length c.graph.vertices → (es fs : List Edge) → Each_of (LeadsBelow c.graph.vertices w) fs
      → BothLists (λ e f. IsEdgeFrom (origin f.vertex) e f) es fs → BothLists (EdgesMatch b c IsCopied) es fs
  edges_from w low [] [] leads h = tt
  edges_from w low (e ∷ es) (f ∷ fs) leads h = (one (origin f.vertex) refl h.0, edges_from w low es fs leads.1 h.1)
    where
      inside : f.vertex < length c.graph.vertices
      inside = let lower = leads.0.lower in omega (arith, low, lower)

      one : (o : Origin) → origin f.vertex ≡ o → IsEdgeFrom o e f → EdgesMatch b c IsCopied e f
      one (Kept kept) is from = inl (source_has kept e f inside is from.0 from.1)
      one (Copied v) is from = inr (record { is = is ∙ ap Copied (sym from.0); low = inside }, from.1)
  edges_from w low [] (f ∷ fs) leads h = absurd h
  edges_from w low (e ∷ es) [] leads h = absurd h

  copied_matched : IsMatched b c IsCopied
  copied_matched v w m =
      let y = get_within c.graph.vertices w m.low in
      let copy : IsCopyOf b c origin v y.0 = subst (λ (o : Origin). HasOrigin (output_at b) b c origin o y.0) m.is (have w y.0 y.1) in
      inr (record {
        first = copy.original;
        second = y.0;
        first_there = copy.there;
        second_there = y.1;
        same = same_by_kind b c copy.original y.0 (at_number IsVertex b.graph.vertices graph.vertex v copy.original copy.there)
            (at_number IsVertex c.graph.vertices other.vertex w y.0 y.1)
            (at_number (λ (z : Vertex). IsVertexOf z z.op.kind) b.graph.vertices graph.kind v copy.original copy.there) copy.kind
            (λ name named. copy.tree name (sym (ap name_by_kind copy.kind) ∙ named));
        inputs = edges_from w m.low copy.original.inputs y.0.inputs (each_below c.graph other w y.0 y.1) copy.inputs;
      })

  pub copied_alike : (v w : ℕ) → w < length c.graph.vertices → origin w ≡ Copied v → outcome b v ≡ outcome c w
  copied_alike v w low is = matched_alike b c IsCopied graph other copied_matched v w (record { is = is; low = low })

-- the law of kept results
pub kept_stand_in : (g h : Numbered) → IsGraph g → IsGraph h → KeptStandIn g h
kept_stand_in g h graph other ls ms origin have v w low is =
    copied_alike (record { graph = g; locals = ls }) (record { graph = h; locals = ms }) graph other origin have v w low is
