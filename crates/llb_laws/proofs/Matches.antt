-- Vertices that a matching relates have one outcome, by induction on their number in the first graph.
use Rattle.std.proofs.Common.{◌≡◌, ℕ, zero, suc, ◌<◌, ◌≤◌, not, ◌&&◌, List, [], ◌∷◌, length, Option, Some, None}
use Rattle.std.proofs.Common.{get_or, refl, sym, ap, ◌∙◌, arith, inl, inr}
use Rattle.std.specs.Prelude.{slice_get}
use Rattle.std.specs.List.{list_all}
use Rattle.llb_tree.specs.Tree.{TreeMap}
use Rattle.llb_loader.specs.declared.graph.Edge.{Edge}
use Rattle.llb_loader.specs.declared.graph.Vertex.{Vertex}
use Rattle.llb_loader.specs.Graph.{Numbered, LeadsBelow, IsGraph}
use Rattle.llb_model.specs.Program.{Build, whole, has_cache}
use Rattle.llb_model.specs.Outcome.{Ended, ending, ending_in, output_in, both, inputs_from, outcome_on, outcome, outcomes, next_outcome, is_plain}
use Rattle.llb_model.proofs.Lists.{some_of, Each_of, get_past}
use Rattle.llb_model.proofs.ItemsFromEarlierItems.{by_number_length}
use Rattle.llb_model.proofs.Outcomes.{plain, outcome_is, each_below}
use Rattle.llb_laws.specs.Matchings.{output_at, DoTheSame, EdgesMatch, IsMatched, MatchedEndAlike, By}
use Rattle.llb_laws.specs.AlikeTrees.{BothLists}
use Rattle.llb_laws.proofs.VerticesByNumber.{plain_is}

-- past the vertices there is no outcome
pub none_past : (b : Build) (v : ℕ) → length b.graph.vertices ≤ v → outcome b v ≡ None
none_past b v past = let n = by_number_length (next_outcome b) b.graph.vertices in get_past (outcomes b) v (omega (arith, n, past))

-- a fact of the two items at each place is a fact of both lists
pub both_by_place : (P : Edge → Edge → Type 0) (es fs : List Edge) → length es ≡ length fs
    → ((i : ℕ) (d : Edge) → i < length es → P (get_or es i d) (get_or fs i d)) → BothLists P es fs
both_by_place P [] [] len each = tt
both_by_place P (e ∷ es) (f ∷ fs) len each =
    (each 0 e (omega arith), both_by_place P es fs (omega (arith, len)) (λ i d l. each (suc i) d (omega (arith, l))))
both_by_place P [] (f ∷ fs) len each = absurd (omega (arith, len))
both_by_place P (e ∷ es) [] len each = absurd (omega (arith, len))

-- vertices that do the same have one outcome on the same trees of their inputs
pub does_alike : (b c : Build) (x y : Vertex) → DoTheSame b x c y → (trees : Option (List TreeMap)) → outcome_on b x trees ≡ outcome_on c y trees
does_alike b c x y same None = refl
does_alike b c x y same (Some trees) = λ i. Ended (ending (same.program i) (whole (same.program i).steps (same.work trees i)))

module _ (b c : Build) (M : ℕ → ℕ → Type 0) where
  -- vertices with numbers below v in the first graph have one outcome where M relates them
  abbrev pub AlikeBelow : ℕ → Type 0
  AlikeBelow v = (j k : ℕ) → j < v → M j k → outcome b j ≡ outcome c k

  -- edges that match lead to the same tree, or both to none
  pub edges_alike : (v : ℕ) → AlikeBelow v → (e f : Edge) → LeadsBelow b.graph.vertices v e → EdgesMatch b c M e f → output_at b e ≡ output_at c f
  edges_alike v below e f leads (inl same) = same
  edges_alike v below e f leads (inr pair) =
      let s = below e.vertex f.vertex leads.lower pair.0 in
      let n = pair.1 in
      λ i. output_in (ending_in (s i)) (n i)

  -- edges that match lead to the same trees
  pub trees_alike : (v : ℕ) → AlikeBelow v → (es fs : List Edge) → Each_of (LeadsBelow b.graph.vertices v) es → BothLists (EdgesMatch b c M) es fs
      → inputs_from (plain b) es ≡ inputs_from (plain c) fs
  unfolding inputs_from
  trees_alike v below [] [] leads match = refl
  trees_alike v below (e ∷ es) (f ∷ fs) leads match =
      let first = edges_alike v below e f leads.0 match.0 in
      let rest = trees_alike v below es fs leads.1 match.1 in
      λ i. both (first i) (rest i)
  trees_alike v below [] (f ∷ fs) leads match = absurd match
  trees_alike v below (e ∷ es) [] leads match = absurd match

  module _ (graph : IsGraph b.graph) (other : IsGraph c.graph) (matched : IsMatched b c M) where
    alike_below : (n v w : ℕ) → v < n → M v w → outcome b v ≡ outcome c w
    alike_below zero v w lt m = absurd (omega (arith, lt))
    alike_below (suc n) v w lt m = elim (matched v w m) [
      | inl same ↦ same
      | inr d ↦ outcome_is b graph v d.first d.first_there
          ∙ ap (λ o. some_of o) (does_alike b c d.first d.second d.same (inputs_from (plain b) d.first.inputs))
          ∙ ap (λ ts. some_of (outcome_on c d.second ts)) (trees_alike v (λ j k low h. alike_below n j k (omega (arith, lt, low)) h)
          d.first.inputs d.second.inputs (each_below b.graph graph v d.first d.first_there) d.inputs)
          ∙ sym (outcome_is c other w d.second d.second_there)
    ]

    -- vertices that the matching relates have one outcome
    pub matched_alike : (v w : ℕ) → M v w → outcome b v ≡ outcome c w
    matched_alike v w m = alike_below (suc v) v w (omega arith) m

-- the law
pub matched_end_alike : (g h : Numbered) → IsGraph g → IsGraph h → MatchedEndAlike g h
matched_end_alike g h graph other ls ms test matched v w is =
    matched_alike (record { graph = g; locals = ls }) (record { graph = h; locals = ms }) (By test) graph other matched v w is

-- ---- whether a cache mount is at or before vertices

-- both vertices mount a cache or neither does, and M relates their inputs
pub record MountAlike (b c : Build) (M : ℕ → ℕ → Type 0) (v w : ℕ) : Type 0 where
  pub first : Vertex
  pub second : Vertex
  pub first_there : slice_get b.graph.vertices v ≡ Some first
  pub second_there : slice_get c.graph.vertices w ≡ Some second
  pub same : has_cache first ≡ has_cache second
  pub inputs : BothLists (λ e f. M e.vertex f.vertex) first.inputs second.inputs

module _ (b c : Build) (graph : IsGraph b.graph) (other : IsGraph c.graph) (M : ℕ → ℕ → Type 0)
    (mount : (v w : ℕ) → M v w → MountAlike b c M v w) where
  all_plain : (v : ℕ) → ((j k : ℕ) → j < v → M j k → is_plain b j ≡ is_plain c k) → (es fs : List Edge) → Each_of (LeadsBelow b.graph.vertices v) es
      → BothLists (λ e f. M e.vertex f.vertex) es fs
      → list_all (λ (e : Edge). is_plain b e.vertex) es ≡ list_all (λ (e : Edge). is_plain c e.vertex) fs
  all_plain v below [] [] leads match = refl
  all_plain v below (e ∷ es) (f ∷ fs) leads match =
      let first = below e.vertex f.vertex leads.0.lower match.0 in
      let rest = all_plain v below es fs leads.1 match.1 in
      λ i. first i && rest i
  all_plain v below [] (f ∷ fs) leads match = absurd match
  all_plain v below (e ∷ es) [] leads match = absurd match

  plain_below : (n v w : ℕ) → v < n → M v w → is_plain b v ≡ is_plain c w
  plain_below zero v w lt m = absurd (omega (arith, lt))
  plain_below (suc n) v w lt m =
      let d = mount v w m in
      let rest = all_plain v (λ j k low h. plain_below n j k (omega (arith, lt, low)) h)
      d.first.inputs d.second.inputs (each_below b.graph graph v d.first d.first_there) d.inputs in
      let same = d.same in
      plain_is b graph v d.first d.first_there
      ∙ (λ i. not (same i) && rest i)
      ∙ sym (plain_is c other w d.second d.second_there)

  -- a cache mount is at or before both vertices or neither
  pub plain_alike : (v w : ℕ) → M v w → is_plain b v ≡ is_plain c w
  plain_alike v w m = plain_below (suc v) v w (omega arith) m
