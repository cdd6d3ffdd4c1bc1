-- The trees of inputs; and the outcome of a vertex is that of its program on the outcomes of its inputs.
use Rattle.std.proofs.Common.{◌≡◌, ℕ, zero, suc, ◌+◌, ◌<◌, ◌≤◌, Bool, true, false, not, ◌&&◌, ◌||◌, cond, List, [], ◌∷◌, length, take}
use Rattle.std.proofs.Common.{Option, Some, None, is_some, unwrap_or, inl, inr, refl, sym, ap, subst, ◌∙◌, arith}
use Rattle.std.specs.Prelude.{slice_get, map}
use Rattle.std.specs.List.{All, list_all, list_any}
use Rattle.std.proofs.lemmas.Bool.{and_parts}
use Rattle.std.proofs.lemmas.List.FromFn.{length-map-range_with_len}
use Rattle.std.proofs.lemmas.List.Elements.{All-head, All-tail}
use Rattle.std.proofs.lemmas.Option.{get_or_from_slice_get}
use Rattle.llb_loader.specs.Graph.{Numbered, LeadsBelow, IsGraph}
use Rattle.llb_ops.specs.declared.op.Input.{Input}
use Rattle.llb_ops.specs.declared.exec.Mount.{Mount}
use Rattle.llb_loader.specs.Mounts.{cache, has_type, seed_of, key_by}
use Rattle.llb_loader.specs.Rules.{kind_mounts}
use Rattle.llb_loader.specs.declared.graph.Edge.{Edge}
use Rattle.llb_loader.specs.declared.graph.Vertex.{Vertex}
use Rattle.llb_tree.specs.Tree.{TreeMap}
use Rattle.llb_events.specs.declared.fault.VertexFault.{VertexFault}
use Rattle.llb_model.specs.Program.{Build, Program, Workspace, needs_from, needs_of, with_need, has_cache, outputs_of, output_from}
use Rattle.llb_model.specs.Outcome.{Ending, Done, Failed, ended, output_in, both, all_there, inputs_from, outcome_on, ending_in}
use Rattle.llb_model.specs.Outcome.{next_outcome, outcomes, outcome, next_plain, is_plain}
use Rattle.llb_model.specs.WholeRunLaws.{HasNoCaches}
use Rattle.llb_model.specs.ListsFromEarlierItems.{by_number}
use Rattle.llb_model.specs.State.{is_done}
use Rattle.llb_model.proofs.Lists.{some_of, get_take, Each_of, Some_of, get_within, got_within}
use Rattle.llb_model.proofs.ItemsFromEarlierItems.{by_number_is}

-- ---- inputs

output_mono : (o p : Option Ending) (i : ℕ) (t : TreeMap) → ((x : Ending) → o ≡ Some x → p ≡ Some x) → output_in o i ≡ Some t → output_in p i ≡ Some t
output_mono None p i t more e = absurd cc
output_mono (Some x) p i t more e = ap (λ q. output_in q i) (more x refl) ∙ e

there_cons : {A : Type 0} (o : Option A) (os : List (Option A)) (ys : List A) → all_there (o ∷ os) ≡ Some ys
    → (x : A) × (xs : List A) × (o ≡ Some x) × (all_there os ≡ Some xs) × (ys ≡ x ∷ xs)
there_cons {A} o os ys e = go o (all_there os) e
  where
    go : (o : Option A) (r : Option (List A)) → both o r ≡ Some ys → (x : A) × (xs : List A) × (o ≡ Some x) × (r ≡ Some xs) × (ys ≡ x ∷ xs)
    go None r e = absurd cc
    go (Some x) None e = absurd cc
    go (Some x) (Some xs) e = (x, xs, refl, refl, let h : x ∷ xs ≡ ys = cc in sym h)

-- what is there by one account of some vertices is there by a fuller one
pub inputs_mono : (P : ℕ → Type 0) (f g : ℕ → Option Ending) → ((j : ℕ) (x : Ending) → P j → f j ≡ Some x → g j ≡ Some x)
    → (edges : List Edge) → Each_of (λ (e : Edge). P e.vertex) edges
    → (trees : List TreeMap) → inputs_from f edges ≡ Some trees → inputs_from g edges ≡ Some trees
unfolding inputs_from
inputs_mono P f g more [] each trees e = e
inputs_mono P f g more (d ∷ edges) each trees e =
    let s = there_cons (output_in (f d.vertex) d.index) (map (λ (e : Edge). output_in (f e.vertex) e.index) edges) trees e in
    let first = output_mono (f d.vertex) (g d.vertex) d.index s.0 (λ x. more d.vertex x each.0) s.2 in
    let rest = inputs_mono P f g more edges each.1 s.1 s.3 in
    ap (λ o. both o (all_there (map (λ (e : Edge). output_in (g e.vertex) e.index) edges))) first ∙ ap (both (Some s.0)) rest ∙ ap (λ xs. some_of xs) (sym s.4)

-- two accounts that agree on the inputs
pub inputs_same : (f g : ℕ → Option Ending) (edges : List Edge) → Each_of (λ (e : Edge). f e.vertex ≡ g e.vertex) edges
    → inputs_from f edges ≡ inputs_from g edges
unfolding inputs_from
inputs_same f g [] same = refl
inputs_same f g (d ∷ edges) same =
    ap (λ o. both (output_in o d.index) (all_there (map (λ (e : Edge). output_in (f e.vertex) e.index) edges))) same.0
    ∙ ap (both (output_in (g d.vertex) d.index)) (inputs_same f g edges same.1)

both_none : {A : Type 0} (o : Option A) → both o None ≡ None
both_none None = refl
both_none (Some x) = refl

-- an input that is not there
pub inputs_none : (f : ℕ → Option Ending) (edges : List Edge) → Some_of (λ (e : Edge). output_in (f e.vertex) e.index ≡ None) edges → inputs_from f edges ≡ None
unfolding inputs_from
inputs_none f [] h = absurd h
inputs_none f (d ∷ edges) (inl h) = ap (λ o. both o (all_there (map (λ (e : Edge). output_in (f e.vertex) e.index) edges))) h
inputs_none f (d ∷ edges) (inr h) = ap (both (output_in (f d.vertex) d.index)) (inputs_none f edges h) ∙ both_none (output_in (f d.vertex) d.index)

-- and back: where the trees of the inputs are not all there, some input has none
pub none_in_inputs : (f : ℕ → Option Ending) (edges : List Edge) → inputs_from f edges ≡ None
    → Some_of (λ (e : Edge). output_in (f e.vertex) e.index ≡ None) edges
unfolding inputs_from
none_in_inputs f [] e = absurd cc
none_in_inputs f (d ∷ edges) e = go (output_in (f d.vertex) d.index) refl
    (all_there (map (λ (e : Edge). output_in (f e.vertex) e.index) edges)) refl e (none_in_inputs f edges)
  where
    go : (o : Option TreeMap) → output_in (f d.vertex) d.index ≡ o → (r : Option (List TreeMap))
        → all_there (map (λ (e : Edge). output_in (f e.vertex) e.index) edges) ≡ r → both o r ≡ None
        → (all_there (map (λ (e : Edge). output_in (f e.vertex) e.index) edges) ≡ None → Some_of (λ (e : Edge). output_in (f e.vertex) e.index ≡ None) edges)
        → Some_of (λ (e : Edge). output_in (f e.vertex) e.index ≡ None) (d ∷ edges)
    go None is r has e rest = inl is
    go (Some t) is None has e rest = inr (rest has)
    go (Some t) is (Some ts) has e rest = absurd cc

-- ---- the graph

-- every edge of a vertex leads below it
pub each_below : (g : Numbered) → IsGraph g → (k : ℕ) (v : Vertex) → slice_get g.vertices k ≡ Some v → Each_of (LeadsBelow g.vertices k) v.inputs
each_below g graph k v there =
    let within = got_within g.vertices k v there in
    each v.inputs (subst (λ (x : Vertex). All (LeadsBelow g.vertices k) x.inputs) (get_or_from_slice_get g.vertices k v v there) (graph.down k v within))
  where
    each : (edges : List Edge) → All (LeadsBelow g.vertices k) edges → Each_of (LeadsBelow g.vertices k) edges
    each [] all = tt
    each (e ∷ edges) all = (All-head (LeadsBelow g.vertices k) e edges all, each edges (All-tail (LeadsBelow g.vertices k) e edges all))

-- what ends done, by some account, has as many trees as outputs
abbrev pub HasOutputs : Numbered → (ℕ → Option Ending) → Type 0
HasOutputs g f = (j : ℕ) (x : Vertex) (trees : List TreeMap) → slice_get g.vertices j ≡ Some x → f j ≡ Some (Done trees) → length trees ≡ x.outputs

-- if each vertex that is done has all its outputs, an edge has a tree exactly where its vertex is done
pub edge_there : (g : Numbered) (f : ℕ → Option Ending) → HasOutputs g f → (k : ℕ) → k ≤ length g.vertices → (e : Edge) → LeadsBelow g.vertices k e
    → is_some (output_in (f e.vertex) e.index) ≡ is_done (f e.vertex)
edge_there g f counts k fits e leads =
    let x = get_within g.vertices e.vertex (let lt = leads.lower in omega (arith, lt, fits)) in
    by_ending x.0 x.1 (f e.vertex) refl
  where
    by_ending : (x : Vertex) → slice_get g.vertices e.vertex ≡ Some x → (o : Option Ending) → f e.vertex ≡ o → is_some (output_in o e.index) ≡ is_done o
    by_ending x there None is = refl
    by_ending x there (Some (Failed h)) is = refl
    by_ending x there (Some (Done trees)) is =
        let size = counts e.vertex x trees there is in
        let index : e.index < x.outputs = subst (λ (y : Vertex). e.index < y.outputs) (get_or_from_slice_get g.vertices e.vertex x x there) (leads.index x) in
        let t = get_within trees e.index (omega (arith, size, index)) in
        ap is_some t.1

-- what is done has all its outputs, so the trees of the inputs are there exactly where each vertex that they come from is done
pub inputs_there : (g : Numbered) (f : ℕ → Option Ending) → HasOutputs g f → (k : ℕ) → k ≤ length g.vertices → (edges : List Edge)
    → Each_of (LeadsBelow g.vertices k) edges
    → is_some (inputs_from f edges) ≡ list_all (λ (e : Edge). is_done (f e.vertex)) edges
unfolding inputs_from
inputs_there g f counts k fits [] each = refl
inputs_there g f counts k fits (e ∷ edges) each =
    both_there (output_in (f e.vertex) e.index) (inputs_from f edges)
    ∙ (λ i. edge_there g f counts k fits e each.0 i && inputs_there g f counts k fits edges each.1 i)
  where
    both_there : {A : Type 0} (o : Option A) (r : Option (List A)) → is_some (both o r) ≡ (is_some o && is_some r)
    both_there (Some x) (Some xs) = refl
    both_there (Some x) None = refl
    both_there None r = refl

-- ---- outcomes

-- how each vertex ends, by the plain outcomes
abbrev pub plain : Build → ℕ → Option Ending
plain b k = ending_in (outcome b k)

-- without a mount that shows a cache there are no needs
mounts_need : (inputs : List Input) (i : ℕ) (ms : List Mount) → list_any (has_type cache) ms ≡ false → needs_from inputs i ms ≡ []
mounts_need inputs i [] none = refl
mounts_need inputs i (m ∷ ms) none = by_test (has_type cache m) refl none (mounts_need inputs (i + 1) ms)
  where
    by_test : (t : Bool) → has_type cache m ≡ t → (t || list_any (has_type cache) ms) ≡ false
        → (list_any (has_type cache) ms ≡ false → needs_from inputs (i + 1) ms ≡ [])
        → needs_from inputs i (m ∷ ms) ≡ []
    by_test true is none rest = absurd cc
    by_test false is none rest =
        ap (λ t. with_need i m (key_by (seed_of inputs m.input) (cond t m.cache_opt None)) (needs_from inputs (i + 1) ms)) is ∙ rest none

-- a vertex of which no mount shows a cache takes no instances
pub no_needs : (v : Vertex) → has_cache v ≡ false → needs_of v ≡ []
no_needs v none = mounts_need v.op.inputs 0 (kind_mounts v.op.kind) none

module _ (b : Build) (graph : IsGraph b.graph) where
  -- the outcome of a vertex is its whole program on what its inputs end with
  pub outcome_is : (k : ℕ) (v : Vertex) → slice_get b.graph.vertices k ≡ Some v → outcome b k ≡ Some (outcome_on b v (inputs_from (plain b) v.inputs))
  outcome_is k v there =
      by_number_is (next_outcome b) b.graph.vertices k v there
      ∙ ap (λ ts. some_of (outcome_on b v ts)) (inputs_same (λ j. ending_in (slice_get (take k (outcomes b)) j)) (plain b) v.inputs
      (lower v.inputs (each_below b.graph graph k v there)))
    where
      lower : (edges : List Edge) → Each_of (LeadsBelow b.graph.vertices k) edges
          → Each_of (λ (e : Edge). ending_in (slice_get (take k (outcomes b)) e.vertex) ≡ plain b e.vertex) edges
      lower [] each = tt
      lower (e ∷ edges) each = (ap ending_in (get_take (outcomes b) k e.vertex each.0.lower), lower edges each.1)

  -- ---- plain vertices

  plain_parts : (k : ℕ) (v : Vertex) → slice_get b.graph.vertices k ≡ Some v → is_plain b k ≡ true
      → (not (has_cache v) ≡ true)
      × (list_all (λ (e : Edge). unwrap_or (slice_get (take k (by_number next_plain [] b.graph.vertices)) e.vertex) false) v.inputs ≡ true)
  plain_parts k v there is =
      and_parts (not (has_cache v)) (list_all (λ (e : Edge). unwrap_or (slice_get (take k (by_number next_plain [] b.graph.vertices)) e.vertex) false) v.inputs)
      (sym (ap (λ o. unwrap_or o false) (by_number_is next_plain b.graph.vertices k v there)) ∙ is)

  -- a plain vertex needs no instances
  pub plain_needs : (k : ℕ) (v : Vertex) → slice_get b.graph.vertices k ≡ Some v → is_plain b k ≡ true → needs_of v ≡ []
  plain_needs k v there is = no_needs v (not_true (has_cache v) (plain_parts k v there is).0)
    where
      not_true : (t : Bool) → not t ≡ true → t ≡ false
      not_true true e = absurd cc
      not_true false e = refl

  -- the vertices that a plain one's edges lead to are plain
  pub plain_inputs : (k : ℕ) (v : Vertex) → slice_get b.graph.vertices k ≡ Some v → is_plain b k ≡ true
      → Each_of (λ (e : Edge). is_plain b e.vertex ≡ true) v.inputs
  plain_inputs k v there is =
      each v.inputs (each_below b.graph graph k v there) (plain_parts k v there is).1
    where
      front : Edge → Bool
      front e = unwrap_or (slice_get (take k (by_number next_plain [] b.graph.vertices)) e.vertex) false

      each : (edges : List Edge) → Each_of (LeadsBelow b.graph.vertices k) edges → list_all front edges ≡ true
          → Each_of (λ (e : Edge). is_plain b e.vertex ≡ true) edges
      each [] leads all = tt
      each (e ∷ edges) leads all =
          let a = and_parts (front e) (list_all front edges) all in
          (ap (λ o. unwrap_or o false) (sym (get_take (by_number next_plain [] b.graph.vertices) k e.vertex leads.0.lower)) ∙ a.0, each edges leads.1 a.1)

  AllPlain : ℕ → Type 0
  AllPlain n = HasNoCaches b → (k : ℕ) → k < n → k < length b.graph.vertices → is_plain b k ≡ true

  plain_below : (n : ℕ) → AllPlain n
  unfolding AllPlain
  plain_below zero none k lt fits = absurd (omega arith)
  plain_below (suc n) none k lt fits =
      let v = get_within b.graph.vertices k fits in
      ap (λ o. unwrap_or o false) (by_number_is next_plain b.graph.vertices k v.0 v.1)
      ∙ ap (λ t. not t && list_all (λ (e : Edge). unwrap_or (slice_get (take k (by_number next_plain [] b.graph.vertices)) e.vertex) false)
      v.0.inputs) (none k v.0 v.1)
      ∙ all v.0.inputs (each_below b.graph graph k v.0 v.1) (λ j low. plain_below n none j (omega arith) (omega arith))
    where
      all : (edges : List Edge) → Each_of (LeadsBelow b.graph.vertices k) edges → ((j : ℕ) → j < k → is_plain b j ≡ true)
          → list_all (λ (e : Edge). unwrap_or (slice_get (take k (by_number next_plain [] b.graph.vertices)) e.vertex) false) edges ≡ true
      all [] leads below = refl
      all (e ∷ edges) leads below =
          let first = ap (λ o. unwrap_or o false) (get_take (by_number next_plain [] b.graph.vertices) k e.vertex leads.0.lower)
          ∙ below e.vertex leads.0.lower in
          (λ i. first i && all edges leads.1 below i)

  -- where no vertex shows a cache, each is plain
  pub all_plain : HasNoCaches b → (k : ℕ) → k < length b.graph.vertices → is_plain b k ≡ true
  unfolding AllPlain
  all_plain none k lt = plain_below (suc k) none k (omega arith) lt

-- ---- the number of outputs

outputs_count : (p : Program) (workspace : Workspace) → length (outputs_of p workspace) ≡ p.outputs
unfolding outputs_of
outputs_count p workspace = length-map-range_with_len (output_from p workspace) 0 p.outputs

-- what ends done has as many trees as its program has outputs
pub ended_count : (p : Program) (workspace : Workspace) (fault : Option VertexFault) (trees : List TreeMap) → ended p workspace fault ≡ Done trees
    → length trees ≡ p.outputs
ended_count p workspace None trees e = let same : outputs_of p workspace ≡ trees = cc in ap length (sym same) ∙ outputs_count p workspace
ended_count p workspace (Some f) trees e = absurd cc
