-- The outcome of a vertex on alike local trees.
use Rattle.std.proofs.Common.{◌≡◌, ℕ, zero, suc, ◌<◌, ◌≤◌, Bool, true, false, cond, List, [], ◌∷◌, length, map, get_or, Option, Some, None}
use Rattle.std.proofs.Common.{refl, sym, ap, subst, ◌∙◌, ◌⊎◌, arith, inl, inr}
use Rattle.std.specs.Prelude.{slice_get, unwrap_or}
use Rattle.std.specs.List.{All, Contains}
use Rattle.std.proofs.lemmas.Bool.{cases_lt}
use Rattle.std.proofs.lemmas.List.Elements.{All-nil}
use Rattle.std.proofs.lemmas.List.{get_or-map, length-map}
use Rattle.std.proofs.lemmas.Option.{get_or_from_slice_get}
use Rattle.llb_ops.specs.declared.op.Kind.{Kind}
use Rattle.llb_ops.specs.declared.op.Kind.TheVariants as kind
use Rattle.llb_ops.specs.declared.exec.Mount.{Mount}
use Rattle.llb_tree.specs.Path.{is_name}
use Rattle.llb_tree.specs.Tree.{TreeMap, empty_tree}
use Rattle.llb_loader.specs.Mounts.{bind, tmpfs, has_type}
use Rattle.llb_loader.specs.declared.graph.Edge.{Edge}
use Rattle.llb_loader.specs.declared.graph.Vertex.{Vertex}
use Rattle.llb_loader.specs.ReachedRows.{HasEdge, Reached}
use Rattle.llb_loader.specs.Graph.{Numbered, links, LeadsBelow, IsVertexOf, IsGraph}
use Rattle.llb_loader.specs.LocalSources.{Local, local_name, name_by_kind, tree_of_local}
use Rattle.llb_loader.proofs.ReachabilitySearch.{reached_step}
use Rattle.llb_model.specs.Program.{Build, path_in, program_of, workspace_on, shown_of, base_in, begin, start_with, whole}
use Rattle.llb_model.specs.Outcome.{Ending, Done, Failed, Outcome, Ended, Blocked, output_in, both, inputs_from, outcome_on, ending_in, outcome}
use Rattle.llb_model.specs.Outcome.{outcomes, next_outcome}
use Rattle.llb_model.proofs.Lists.{some_of, Each_of, get_within, got_within, get_past}
use Rattle.llb_model.proofs.ItemsFromEarlierItems.{by_number_length}
use Rattle.llb_model.proofs.Outcomes.{plain, outcome_is}
use Rattle.llb_laws.specs.AlikeTrees.{IsKept, BothOptions, BothLists, BothEndings, BothOutcomes}
use Rattle.llb_laws.specs.ContentLaws.{IsSourceOf}
use Rattle.llb_laws.proofs.AlikeValues.{carry_options, both_maps, both_get}
use Rattle.llb_laws.proofs.AlikeTreesWithNames.{Alike, AlikeMounts, AlikeWorkspaces, Writes}
use Rattle.llb_laws.proofs.PathsOfNames.{inside_named}
use Rattle.llb_laws.proofs.AlikeTreeEdits.{alike_empty}
use Rattle.llb_laws.proofs.AlikeMicroSteps.{alike_or_empty, alike_base_in, alike_whole, alike_ending}

-- what holds of each item holds of the one that is got
pub got_of_all : {A : Type 0} (P : A → Type 0) (xs : List A) → All P xs → (k : ℕ) (x : A) → slice_get xs k ≡ Some x → P x
got_of_all P xs all k x there = subst P (get_or_from_slice_get xs k x x there) (all k x (got_within xs k x there))

pub each_by_place : (P : Edge → Type 0) (es : List Edge) → ((i : ℕ) (d : Edge) → i < length es → P (get_or es i d)) → Each_of P es
each_by_place P [] h = tt
each_by_place P (e ∷ es) h = (h 0 e (omega arith), each_by_place P es (λ i d l. h (suc i) d (omega (arith, l))))

-- a vertex has an edge to the vertex of each of its inputs
pub edge_to : (g : Numbered) (v : ℕ) (x : Vertex) → slice_get g.vertices v ≡ Some x → (i : ℕ) (d : Edge) → i < length x.inputs
    → HasEdge (links g.vertices) v (get_or x.inputs i d).vertex
edge_to g v x there i d l =
    let row : get_or (links g.vertices) v [] ≡ map (λ (n : Edge). n.vertex) x.inputs =
    get_or-map (λ (z : Vertex). map (λ (n : Edge). n.vertex) z.inputs) g.vertices v x [] (got_within g.vertices v x there)
    ∙ ap (λ (z : Vertex). map (λ (n : Edge). n.vertex) z.inputs) (get_or_from_slice_get g.vertices v x x there) in
    let long = length-map x.inputs (λ (n : Edge). n.vertex) in
    subst (λ (ns : List ℕ). Contains ns (get_or x.inputs i d).vertex) (sym row)
    (i, omega (arith, l, long), get_or-map (λ (n : Edge). n.vertex) x.inputs i d (get_or x.inputs i d).vertex l)

-- ---- the trees of inputs

module _ (P : TreeMap → TreeMap → Type 0) where
  alike_ends : (o p : Option Outcome) → BothOptions (BothOutcomes P) o p → BothOptions (BothEndings P) (ending_in o) (ending_in p)
  alike_ends None None h = tt
  alike_ends (Some (Ended d)) (Some (Ended e)) h = h
  alike_ends (Some Blocked) (Some Blocked) h = tt
  alike_ends (Some (Ended d)) (Some Blocked) h = absurd h
  alike_ends (Some Blocked) (Some (Ended e)) h = absurd h
  alike_ends None (Some e) h = absurd h
  alike_ends (Some d) None h = absurd h

  pub alike_output : (o p : Option Ending) → BothOptions (BothEndings P) o p → (i : ℕ) → BothOptions P (output_in o i) (output_in p i)
  alike_output None None h i = tt
  alike_output (Some (Done ts)) (Some (Done us)) h i = both_get P ts us i h
  alike_output (Some (Failed f)) (Some (Failed g)) h i = tt
  alike_output (Some (Done ts)) (Some (Failed g)) h i = absurd h
  alike_output (Some (Failed f)) (Some (Done us)) h i = absurd h
  alike_output None (Some e) h i = absurd h
  alike_output (Some d) None h i = absurd h

  alike_both : (o p : Option TreeMap) → BothOptions P o p → (q r : Option (List TreeMap)) → BothOptions (BothLists P) q r
      → BothOptions (BothLists P) (both o q) (both p r)
  alike_both None None h q r k = tt
  alike_both (Some t) (Some u) h None None k = tt
  alike_both (Some t) (Some u) h (Some ts) (Some us) k = (h, k)
  alike_both (Some t) (Some u) h None (Some us) k = absurd k
  alike_both (Some t) (Some u) h (Some ts) None k = absurd k
  alike_both None (Some u) h q r k = absurd h
  alike_both (Some t) None h q r k = absurd h

  pub alike_inputs : (f g : ℕ → Option Ending) (es : List Edge) → Each_of (λ (e : Edge). BothOptions (BothEndings P) (f e.vertex) (g e.vertex)) es
      → BothOptions (BothLists P) (inputs_from f es) (inputs_from g es)
  unfolding inputs_from
  alike_inputs f g [] h = tt
  alike_inputs f g (e ∷ es) h =
      alike_both (output_in (f e.vertex) e.index) (output_in (g e.vertex) e.index) (alike_output (f e.vertex) (g e.vertex) h.0 e.index)
      (inputs_from f es) (inputs_from g es) (alike_inputs f g es h.1)

module _ (N : List ℕ → Type 0) (names : (n : List ℕ) → is_name n ≡ true → N n) (R : List ℕ → List ℕ → Type 0) (kept : IsKept R) where
  -- ---- what a vertex begins with

  alike_shown : (ts us : List TreeMap) → BothLists (Alike N R) ts us → (m : Mount) → AlikeMounts N R (shown_of ts m) (shown_of us m)
  alike_shown ts us h m = record { dest = refl; selector = refl; readonly = refl; tree = by_type (has_type bind m); named = by_tmpfs (has_type tmpfs m) }
    where
      by_tmpfs : (b : Bool) → All N (cond b [] (path_in m.selector))
      by_tmpfs true = All-nil N
      by_tmpfs false = inside_named N names m.selector

      by_type : (b : Bool) → Alike N R (cond b (base_in m.input ts) empty_tree) (cond b (base_in m.input us) empty_tree)
      by_type true = alike_base_in N names R kept m.input ts us h
      by_type false = alike_empty N R

  module _ (ls ms : List Local) (v : Vertex)
      (sources : (name : List ℕ) → local_name v.op ≡ Some name → BothOptions (Alike N R) (tree_of_local ls name) (tree_of_local ms name)) where
    pub alike_workspace : (k : Option Kind) → v.op.kind ≡ k → IsVertexOf v k → (ts us : List TreeMap) → BothLists (Alike N R) ts us
        → AlikeWorkspaces N R (workspace_on ls v k ts) (workspace_on ms v k us)
    alike_workspace (Some (kind.Source s)) is of ts us h =
        let named : local_name v.op ≡ Some of.name = ap name_by_kind is ∙ of.local in
        let name : unwrap_or (local_name v.op) [] ≡ of.name = ap (λ (o : Option (List ℕ)). unwrap_or o []) named in
        alike_or_empty N names R kept (tree_of_local ls (unwrap_or (local_name v.op) [])) (tree_of_local ms (unwrap_or (local_name v.op) []))
        (carry_options (Alike N R) (tree_of_local ls (unwrap_or (local_name v.op) [])) (tree_of_local ls of.name)
        (tree_of_local ms (unwrap_or (local_name v.op) [])) (tree_of_local ms of.name) (ap (tree_of_local ls) name) (ap (tree_of_local ms) name)
        (sources of.name named))
    alike_workspace (Some (kind.File f)) is of ts us h = (h, tt)
    alike_workspace (Some (kind.Merge m)) is of ts us h = (h, alike_empty N R)
    alike_workspace (Some (kind.Exec x)) is of ts us h =
        (both_maps (AlikeMounts N R) (shown_of ts) (shown_of us) (alike_shown ts us h) x.mounts, refl, refl)
    alike_workspace (Some (kind.Build b)) is of ts us h = (h, tt)
    alike_workspace (Some (kind.Diff d)) is of ts us h = (h, tt)
    alike_workspace None is of ts us h = (h, tt)

    alike_outcome_on : (g : Numbered) → IsVertexOf v v.op.kind → All (Writes N R) (program_of v).steps → (o p : Option (List TreeMap))
        → BothOptions (BothLists (Alike N R)) o p
        → BothOutcomes (Alike N R) (outcome_on (record { graph = g; locals = ls }) v o) (outcome_on (record { graph = g; locals = ms }) v p)
    alike_outcome_on g of own None None h = tt
    alike_outcome_on g of own (Some ts) (Some us) h =
        let x = begin (record { graph = g; locals = ls }) (start_with v ts) [] in
        let y = begin (record { graph = g; locals = ms }) (start_with v us) [] in
        alike_ending N names R kept (program_of v) (whole (program_of v).steps x) (whole (program_of v).steps y)
        (alike_whole N names R kept (program_of v).steps (got_of_all (Writes N R) (program_of v).steps own) x y
        (record { own = alike_workspace v.op.kind refl of ts us h; trees = tt }))
    alike_outcome_on g of own None (Some us) h = absurd h
    alike_outcome_on g of own (Some ts) None h = absurd h

  -- ---- by number

  abbrev pub HaveOutcomes : Numbered → List Local → List Local → ℕ → Type 0
  HaveOutcomes g ls ms v =
      BothOptions (BothOutcomes (Alike N R)) (outcome (record { graph = g; locals = ls }) v) (outcome (record { graph = g; locals = ms }) v)

  abbrev pub HaveSources : Numbered → ℕ → List Local → List Local → Type 0
  HaveSources g v ls ms = (name : List ℕ) → IsSourceOf g v name → BothOptions (Alike N R) (tree_of_local ls name) (tree_of_local ms name)

  -- each vertex at or before the top one writes what is related to itself, or is known to have alike outcomes
  abbrev pub AreRelatedOrAlike : Numbered → List Local → List Local → ℕ → Type 0
  AreRelatedOrAlike g ls ms top = (k : ℕ) (x : Vertex) → Reached (links g.vertices) top k → slice_get g.vertices k ≡ Some x
      → All (Writes N R) (program_of x).steps ⊎ HaveOutcomes g ls ms k

  module _ (g : Numbered) (graph : IsGraph g) (ls ms : List Local) (top : ℕ) (own : AreRelatedOrAlike g ls ms top)
      (sources : HaveSources g top ls ms) where
    abbrev first : Build
    first = record { graph = g; locals = ls }

    abbrev second : Build
    second = record { graph = g; locals = ms }

    step : (v : ℕ) (x : Vertex) → slice_get g.vertices v ≡ Some x → Reached (links g.vertices) top v
        → ((j : ℕ) → j < v → Reached (links g.vertices) top j → BothOptions (BothOutcomes (Alike N R)) (outcome first j) (outcome second j))
        → BothOptions (BothOutcomes (Alike N R)) (outcome first v) (outcome second v)
    step v x there before lower =
        let within = got_within g.vertices v x there in
        let leads : All (LeadsBelow g.vertices v) x.inputs =
        subst (λ (z : Vertex). All (LeadsBelow g.vertices v) z.inputs) (get_or_from_slice_get g.vertices v x x there) (graph.down v x within) in
        let of : IsVertexOf x x.op.kind = subst (λ (z : Vertex). IsVertexOf z z.op.kind) (get_or_from_slice_get g.vertices v x x there)
        (graph.kind v x within) in
        let each : Each_of (λ (e : Edge). BothOptions (BothEndings (Alike N R)) (plain first e.vertex) (plain second e.vertex)) x.inputs =
        each_by_place (λ (e : Edge). BothOptions (BothEndings (Alike N R)) (plain first e.vertex) (plain second e.vertex)) x.inputs (λ i d l.
        let j = (get_or x.inputs i d).vertex in
        alike_ends (Alike N R) (outcome first j) (outcome second j)
        (lower j (leads i d l).lower (reached_step (links g.vertices) top v j before (edge_to g v x there i d l)))) in
        elim (own v x before there) [
          | inl steps ↦
              carry_options (BothOutcomes (Alike N R)) (outcome first v) (some_of (outcome_on first x (inputs_from (plain first) x.inputs)))
              (outcome second v) (some_of (outcome_on second x (inputs_from (plain second) x.inputs)))
              (outcome_is first graph v x there) (outcome_is second graph v x there)
              (alike_outcome_on ls ms x (λ name named. sources name (record { number = v; source = x; before = before; there = there; named = named })) g of
              steps (inputs_from (plain first) x.inputs) (inputs_from (plain second) x.inputs)
              (alike_inputs (Alike N R) (plain first) (plain second) x.inputs each))
          | inr known ↦ known
        ]

    none : (ns : List Local) (v : ℕ) → length g.vertices ≤ v → outcome (record { graph = g; locals = ns }) v ≡ None
    none ns v past =
        let n = by_number_length (next_outcome (record { graph = g; locals = ns })) g.vertices in
        get_past (outcomes (record { graph = g; locals = ns })) v (omega (arith, n, past))

    below : (n v : ℕ) → v < n → Reached (links g.vertices) top v → BothOptions (BothOutcomes (Alike N R)) (outcome first v) (outcome second v)
    below zero v lt before = absurd (omega (arith, lt))
    below (suc n) v lt before = elim (cases_lt v (length g.vertices)) [
      | inl low ↦
          let x = get_within g.vertices v low in
          step v x.0 x.1 before (λ j under reached. below n j (omega (arith, lt, under)) reached)
      | inr past ↦ carry_options (BothOutcomes (Alike N R)) (outcome first v) None (outcome second v) None (none ls v past) (none ms v past) tt
    ]

    pub alike_outcome : BothOptions (BothOutcomes (Alike N R)) (outcome first top) (outcome second top)
    alike_outcome = below (suc top) top (omega arith) (0, refl)

  pub hands_on_but : (g : Numbered) → IsGraph g → (ls ms : List Local) (v : ℕ) → AreRelatedOrAlike g ls ms v → HaveSources g v ls ms → HaveOutcomes g ls ms v
  hands_on_but g graph ls ms v own sources = alike_outcome g graph ls ms v own sources
